-- What is known of a job that was read (document 01, "Numbers allowed", and the refusals 3, 4 and 5), and of the words it was read into.
use Rattle.std.specs.Prelude.{ℕ, zero, suc, ◌+◌, ◌*◌, ◌≤◌, ◌<◌, ◌≡◌, Bool, true, false, List, leb, ℤ, pos, nat_abs, length, ◌≤ℤ◌}
use Rattle.std.specs.Int.Signed.{lt_z}
use Rattle.std.specs.Prelude.{if◌then◌else◌}
use Rattle.jobs.specs.Job.{Job}
use Rattle.jobs.specs.Words.{word_at, count_at, is_grid, head_words, cell_words, cells_of, links_of, start_of}

-- A number from 0 to a most.
pub record Upto (most : ℕ) (z : ℤ) : Type 0 where
  pub natural : z ≡ pos (nat_abs z)
  pub small : nat_abs z ≤ most

pub record CellAllowed (j : Job) (i : ℕ) : Type 0 where
  pub crude : Upto 1000000 (j.crude i)
  pub weight : Upto 1000 (j.weight i)
  pub floor : Upto 1000000 (j.floor i)
  pub ceiling : Upto 1000000 (j.ceiling i)
  pub box : j.floor i ≤ℤ j.ceiling i

pub record TermAllowed (j : Job) (link term : ℕ) : Type 0 where
  pub cell : j.cell link term < j.cells
  pub coefficient_small : nat_abs (j.coefficient link term) ≤ 10
  pub coefficient_some : 1 ≤ nat_abs (j.coefficient link term)
  pub rising : suc term < j.terms link → j.cell link term < j.cell link (suc term)

pub record LinkAllowed (j : Job) (link : ℕ) : Type 0 where
  pub terms_some : 1 ≤ j.terms link
  pub terms_few : j.terms link ≤ 4
  pub term : (m : ℕ) → m < j.terms link → TermAllowed j link m
  pub bound : nat_abs (j.bound link) ≤ 1000000000

-- How many of the k cells from the cell i on have a positive weight.
unfoldable pub positives : Job → (i k : ℕ) → ℕ
positives j i zero = 0
positives j i (suc k) = (if lt_z (pos 0) (j.weight i) then 1 else 0) + positives j (suc i) k

-- How many of the k rows, of which the first starts at the cell i, hold at least the order across of positive weights.
unfoldable pub rows_held : Job → (i k : ℕ) → ℕ
rows_held j i zero = 0
rows_held j i (suc k) = (if leb j.across (positives j i j.columns) then 1 else 0) + rows_held j (i + j.columns) k

-- W-205: "rows, columns (each at least 2, product n), the order down, the order across (each 1..4, less than its length) and a second constant (1..999)":
-- what a grid has beyond that which every job has.
pub record GridAllowed (j : Job) : Type 0 where
  pub rows_some : 2 ≤ j.rows
  pub columns_some : 2 ≤ j.columns
  pub across_less : j.across < j.columns
  pub second_some : 1 ≤ nat_abs j.second

-- A job that is no grid.
pub record LineAllowed (j : Job) : Type 0 where
  pub columns_one : j.columns ≡ 1
  pub across_one : j.across ≡ 1
  pub second_none : j.second ≡ pos 0

abbrev pub ShapeAllowed : Job → (grid : Bool) → Type 0
ShapeAllowed j true = GridAllowed j
ShapeAllowed j false = LineAllowed j

pub record Allowed (j : Job) : Type 0 where
  pub society : j.society ≤ 7
  pub number : j.number ≤ 4294967295
  pub cells_some : 2 ≤ j.cells
  pub cells_few : j.cells ≤ 120
  pub shape : ShapeAllowed j j.grid
  pub cells_are : j.rows * j.columns ≡ j.cells
  pub order_some : 1 ≤ j.order
  pub order_few : j.order ≤ 4
  pub order_less : j.order < j.rows
  pub across_some : 1 ≤ j.across
  pub across_few : j.across ≤ 4
  pub second : Upto 999 j.second
  pub constant : Upto 1000 j.constant
  pub constant_some : 1 ≤ nat_abs j.constant
  -- "both constants are at least 1 and together at most 1,000"
  pub constants : nat_abs j.constant + nat_abs j.second ≤ 1000
  pub tolerance : Upto 1000000000000000 j.tolerance
  pub cell : (i : ℕ) → i < j.cells → CellAllowed j i
  -- "4 when fewer rows than the order down hold at least the order across of positive weights"
  pub weights : j.order ≤ rows_held j 0 j.rows
  pub links_few : j.links ≤ 160
  pub link : (l : ℕ) → l < j.links → LinkAllowed j l

-- A word that counts or names something is what it counts or names.
abbrev pub Counted : List ℤ → ℕ → Type 0
Counted ws i = word_at ws i ≡ pos (count_at ws i)

-- The same of a word that is there, and a small count.
pub record Counts (ws : List ℤ) (at : ℕ) : Type 0 where
  pub inside : at < length ws
  pub natural : Counted ws at
  pub small : count_at ws at ≤ 1000

-- The words of a grid between its order field and its second constant.
pub record GridLaid (ws : List ℤ) : Type 0 where
  pub rows : Counted ws 4
  pub columns : Counted ws 5
  pub down : Counted ws 6
  pub across : Counted ws 7

-- The words are those of a whole job pack: every word that counts or names is not negative, and the last link ends where they end.
pub record Laid (ws : List ℤ) : Type 0 where
  pub society : Counted ws 0
  pub number : Counted ws 1
  pub cells : Counted ws 2
  pub order : Counted ws 3
  pub grid : is_grid ws ≡ true → GridLaid ws
  pub links : Counted ws (head_words ws + cell_words * cells_of ws)
  pub terms : (j : ℕ) → j < links_of ws → Counted ws (start_of ws j)
  pub cell : (j m : ℕ) → j < links_of ws → m < count_at ws (start_of ws j) → Counted ws (start_of ws j + 1 + 2 * m)
  pub ends : start_of ws (links_of ws) ≡ length ws

-- What is known of a proposal that was read: a value for each cell, then a multiplier for each link.
pub record Proposed (cells links : ℕ) (ws : List ℤ) : Type 0 where
  pub count : length ws ≡ cells + links
  pub value : (i : ℕ) → i < cells → Upto 1000000 (word_at ws i)
  pub multiplier : (j : ℕ) → j < links → Upto 1000000000 (word_at ws (cells + j))
