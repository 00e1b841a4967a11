-- Maps that turn numbers about: from the last to the first, and the cells of a grid by its rows and its columns. For instance `from_last 3` takes 0 1 2 to 2 1 0.
use Rattle.std.specs.Prelude.{ℕ, suc, ◌+◌, ◌-◌, ◌*◌, ◌/◌, ◌%◌}

-- The number i of n, counted from the last.
abbrev pub from_last : (n : ℕ) → ℕ → ℕ
from_last n i = n - suc i

-- W-205: "Cells run along a row first." The cell i stands in the row i / columns and the column i % columns; α takes its row elsewhere, and β its column.
abbrev pub grid_map : (columns : ℕ) (α β : ℕ → ℕ) → ℕ → ℕ
grid_map columns α β i = α (i / columns) * columns + β (i % columns)
