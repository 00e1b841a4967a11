-- A job, as the rules speak of it (document 01, "Loss and gap"): what later definitions take, whatever pack or words it came from.
use Rattle.std.specs.Prelude.{ℕ, Bool, ℤ}
use Rattle.whole.specs.Sum.{coefficient_of}

-- "A job has n cells numbered from 0, order z, constant k, tolerance T. Cell i has crude rate u, weight w, floor lo, ceiling hi. A link j says: the
-- sum of coefficient times rate over its terms is at most b." The order is the order used.
-- W-205: "Cells run along a row first." A grid has rows and columns, the order is its order down, and there are an order across and a second constant; a
-- job that is no grid has one column, an order across of 1 and a second constant of 0.
pub record Job : Type 0 where
  pub society : ℕ
  pub number : ℕ
  pub cells : ℕ
  pub grid : Bool
  pub rows : ℕ
  pub columns : ℕ
  pub order : ℕ
  pub across : ℕ
  pub second : ℤ
  pub constant : ℤ
  pub tolerance : ℤ
  pub crude : ℕ → ℤ
  pub weight : ℕ → ℤ
  pub floor : ℕ → ℤ
  pub ceiling : ℕ → ℤ
  pub links : ℕ
  pub terms : ℕ → ℕ
  pub cell : (link term : ℕ) → ℕ
  pub coefficient : (link term : ℕ) → ℤ
  pub bound : ℕ → ℤ

-- The coefficient of the cell i in the link l, 0 where the link does not name the cell.
abbrev pub link_coefficient : Job → (l i : ℕ) → ℤ
link_coefficient j l i = coefficient_of (j.terms l) (j.cell l) (j.coefficient l) i
