-- Differences: one row of coefficients moved along the cells, with any row, order and stride. Document 01's differences of order 2 of 9 cells are
-- `record { row = ..; order = 2; stride = 1; count = 7; start = λ f. f }` with the row 1 -2 1; those down the columns of a grid have its columns
-- as their stride.
use Rattle.std.specs.Prelude.{ℕ, suc, ◌+◌, ◌-◌, ◌*◌, ◌%◌, ◌<◌, ◌≡◌, Bool, cond, leb, ltb, ℤ, pos, ◌*ℤ◌}
use Rattle.whole.specs.Sum.{sum, only, coefficient_of}

-- `count` differences; the one numbered f has the coefficient `row m` at the cell start f + m · stride, for m = 0..order
pub record Family : Type 0 where
  pub row : ℕ → ℤ
  pub order : ℕ
  pub stride : ℕ
  pub count : ℕ
  pub start : ℕ → ℕ

-- every difference lies inside n cells
abbrev pub Inside : Family → ℕ → Type 0
Inside F n = (f : ℕ) → f < F.count → F.start f + F.order * F.stride < n

-- the difference numbered f starts at the cell f
abbrev pub Consecutive : Family → Type 0
Consecutive F = (f : ℕ) → f < F.count → F.start f ≡ f

-- differences of one row, each of which starts at the cell of its number
abbrev pub along : (row : ℕ → ℤ) (order stride count : ℕ) → Family
along row order stride count = record { row = row; order = order; stride = stride; count = count; start = λ f. f }

-- the cell that the difference f uses with its coefficient m
abbrev pub cell_of : Family → (f m : ℕ) → ℕ
cell_of F f m = F.start f + m * F.stride

-- a row laid on the cells of a table x from `start` on, each `stride` after the one before, and summed
abbrev pub form_at : (row : ℕ → ℤ) (order stride start : ℕ) → (x : ℕ → ℤ) → ℤ
form_at row order stride start x = sum (suc order) (λ m. row m *ℤ x (start + m * stride))

-- what the difference f comes to at a table x
abbrev pub difference : Family → (x : ℕ → ℤ) → (f : ℕ) → ℤ
difference F x f = form_at F.row F.order F.stride (F.start f) x

-- in a grid of `width` columns: whether what starts at a cell ends in the same row
abbrev pub in_row : (width order stride start : ℕ) → Bool
in_row width order stride start = ltb (start % width + order * stride) width

-- the coefficient of the cell i in the difference f
abbrev pub coefficient : Family → (f i : ℕ) → ℤ
coefficient F f i = coefficient_of (suc F.order) (cell_of F f) F.row i

-- With a number p f for each difference, what the cell i gets back from all of them ..
abbrev pub returned : Family → (p : ℕ → ℤ) → (i : ℕ) → ℤ
returned F p i = sum F.count (λ f. p f *ℤ coefficient F f i)

-- .. and what it gets from those that use it with their coefficient m.
abbrev pub used_with : Family → (p : ℕ → ℤ) → (i m : ℕ) → ℤ
used_with F p i m = sum F.count (λ f. only (cell_of F f m) (p f) i)

-- p of the difference that starts k cells before i, 0 if there is none
abbrev pub earlier : (p : ℕ → ℤ) (count i k : ℕ) → ℤ
earlier p count i k = cond (leb k i) (cond (ltb (i - k) count) (p (i - k)) (pos 0)) (pos 0)

-- what the cell i gets back, where the difference numbered f starts at the cell f: one number for each coefficient
abbrev pub gathered : Family → (p : ℕ → ℤ) → (i : ℕ) → ℤ
gathered F p i = sum (suc F.order) (λ m. F.row m *ℤ earlier p F.count i (m * F.stride))
