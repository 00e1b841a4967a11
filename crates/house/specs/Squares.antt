-- What is promised of K'K, for a line and for each direction of a grid: it is the sum, over the differences, of the products of their coefficients.
use Rattle.std.specs.Prelude.{◌≡◌, ℕ, ◌+◌, ◌-◌, ◌*◌, ◌/◌, ◌%◌, ◌<◌, ◌≤◌, ℤ, ◌+ℤ◌, ◌*ℤ◌}
use Rattle.std.specs.Float.{binary64}
use Rattle.std.specs.Float.Ieee.{of_int}
use Rattle.whole.specs.Sum.{sum}
use Rattle.rows.specs.Rows.{row_of}
use Rattle.jobs.specs.Job.{Job}
use Rattle.certificate.specs.Differences.{Family, along, coefficient}
use Rattle.house.specs.Band.{squares_at, zero64}
use Rattle.house.specs.Grid.{reach, down_squares, across_squares, weight_at, grid_entry}

-- K'K at (i, k), where the rows of K are the differences of a family
abbrev pub products_of : Family → (i k : ℕ) → ℤ
products_of F i k = sum F.count (λ f. coefficient F f i *ℤ coefficient F f k)

-- The differences along the rows of a grid: columns - order of them a row, from its first cell on.
abbrev pub across_of : (row : ℕ → ℤ) (order rows columns : ℕ) → Family
across_of row order rows columns =
    record {
      row = row;
      order = order;
      stride = 1;
      count = rows * (columns - order);
      start = λ f. f / (columns - order) * columns + f % (columns - order);
    }

-- The differences down the columns, whose stride is the columns, and those along the rows.
abbrev pub down_family : Job → Family
down_family j = along (row_of j.order) j.order j.columns (j.rows * j.columns - j.order * j.columns)

abbrev pub across_family : Job → Family
across_family j = across_of (row_of j.across) j.across j.rows j.columns

-- a line of n cells: "D at i, for i from 0 to n-z-1"
abbrev pub LineSquares : Type 0
LineSquares = (n z i o : ℕ) → o ≤ i → squares_at n z i o ≡ products_of (along (row_of z) z 1 (n - z)) i (i - o)

-- "k times the squared differences down the columns"
abbrev pub DownSquares : Type 0
DownSquares = (j : Job) → 1 ≤ j.columns → (i o : ℕ) → i < j.rows * j.columns → o ≤ i → down_squares j i o ≡ products_of (down_family j) i (i - o)

-- "and the second constant times those along the rows"
abbrev pub AcrossSquares : Type 0
AcrossSquares = (j : Job) → 1 ≤ j.columns → (i o : ℕ) → i < j.rows * j.columns → o ≤ i → across_squares j i o ≡ products_of (across_family j) i (i - o)

-- An entry of A by the differences of both directions: W + k·Kd'Kd + k2·Ka'Ka, whole and cast.
abbrev pub GridEntries : Type 0
GridEntries =
    (j : Job) → 1 ≤ j.columns → (i o : ℕ) → i < j.rows * j.columns → o ≤ i
    → grid_entry j i o ≡ of_int binary64 (weight_at j i o +ℤ j.constant *ℤ products_of (down_family j) i (i - o) +ℤ j.second *ℤ products_of (across_family j) i (i - o))

-- "z there the order down times the columns": A has nothing beyond it.
abbrev pub GridBand : Type 0
GridBand = (j : Job) → 1 ≤ j.columns → 1 ≤ j.order → (i o : ℕ) → reach j < o → grid_entry j i o ≡ zero64
