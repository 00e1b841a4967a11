-- Grids (document 02, W-205): "The loss adds k times the squared differences down the columns and the second constant times those along the rows …
-- The house proposal covers grids of at most 12 columns, by 01's steps with z there the order down times the columns." Cells run along a row first, so
-- the cell i stands in the row i / columns, at the place i % columns of it.
use Rattle.std.specs.Prelude.{ℕ, ◌+◌, ◌*◌, ◌/◌, ◌%◌, replicate, ℤ, pos, ◌+ℤ◌, ◌*ℤ◌, ◌==◌, Float}
use Rattle.std.specs.Float.{binary64}
use Rattle.std.specs.Float.Ieee.{of_int}
use Rattle.std.specs.Prelude.{if◌then◌else◌}
use Rattle.jobs.specs.Job.{Job}
use Rattle.factor.specs.Factor.{Band}
use Rattle.house.specs.Filled.{filled}
use Rattle.house.specs.Band.{squares_at, zero64, right_of}
use Rattle.house.specs.Factoring.{Solved, solved_with}

-- "with z there the order down times the columns"
abbrev pub reach : Job → ℕ
reach j = j.order * j.columns

-- Kd'Kd at (i, i - o): a column is a line of `rows` cells, each `columns` after the one before.
abbrev pub down_squares : Job → (i o : ℕ) → ℤ
down_squares j i o = if o % j.columns == 0 then squares_at j.rows j.order (i / j.columns) (o / j.columns) else pos 0

-- Ka'Ka at (i, i - o): a row is a line of `columns` cells.
abbrev pub across_squares : Job → (i o : ℕ) → ℤ
across_squares j i o = squares_at j.columns j.across (i % j.columns) o

-- W at (i, i - o)
abbrev pub weight_at : Job → (i o : ℕ) → ℤ
weight_at j i o = if o == 0 then j.weight i else pos 0

-- A = W + k·Kd'Kd + k2·Ka'Ka at (i, i - o), whole and cast
unfoldable pub grid_entry : Job → (i o : ℕ) → Float
grid_entry j i o = of_int binary64 (weight_at j i o +ℤ j.constant *ℤ down_squares j i o +ℤ j.second *ℤ across_squares j i o)

-- Row i of the band, by offset, zero entries included, and zeros after the last.
abbrev pub grid_rows : Job → Band
grid_rows j i = filled (grid_entry j i) (reach j + 1) 0 (replicate 49 zero64)

-- The values before rounding, where no pivot is thin.
unfoldable pub grid_solved : Job → Solved
unfolding solved_with
grid_solved j = solved_with 4584 (grid_rows j) (reach j) j.cells (right_of j)
