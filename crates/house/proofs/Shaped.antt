-- The shape of a job that was read: a line has one column, a grid two or more.
use Rattle.std.proofs.Common.{◌≡◌, ℕ, ◌/◌, ◌≤◌, Bool, true, false, List, ℤ, nat_abs, sym, refl, ap, ◌∙◌, arith, lit<, w64, to_z, of_z}
use native.Mathlib.Nat as N
use Rattle.whole.proofs.Fits.{small_fits, gives}
use Rattle.jobs.specs.Job.{Job}
use Rattle.jobs.specs.Words.{cells_of, is_grid, rows_of, columns_of, second_of, job_of}
use Rattle.jobs.specs.Allowed.{ShapeAllowed}
use Rattle.house.specs.Known.{Known}

some_column : (j : Job) (grid : Bool) → ShapeAllowed j grid → 1 ≤ j.columns
some_column j true s = omega (arith, s.columns_some)
some_column j false s = omega (arith, s.columns_one)

line_by : (j : Job) (grid : Bool) → ShapeAllowed j grid → j.columns ≡ 1 → grid ≡ false
line_by j true s e = absurd (omega (arith, s.columns_some, e))
line_by j false s e = refl

grid_by : (j : Job) (grid : Bool) → ShapeAllowed j grid → (j.columns ≡ 1 → ⊥) → grid ≡ true
grid_by j true s e = refl
grid_by j false s e = absurd (e s.columns_one)

module _ {ws : List ℤ} (k : Known ws) where
  pub columns_some : 1 ≤ columns_of ws
  columns_some = some_column (job_of ws) (is_grid ws) k.allowed.shape

  pub one_column : columns_of ws ≡ 1 → is_grid ws ≡ false
  one_column = line_by (job_of ws) (is_grid ws) k.allowed.shape

  pub more_columns : (columns_of ws ≡ 1 → ⊥) → is_grid ws ≡ true
  more_columns = grid_by (job_of ws) (is_grid ws) k.allowed.shape

  pub rows_are : cells_of ws / columns_of ws ≡ rows_of ws
  rows_are = ap (λ (n : ℕ). n / columns_of ws) (sym k.allowed.cells_are) ∙ N.mul-div_cancel (rows_of ws) columns_some

  pub second_small : nat_abs (job_of ws).second ≤ 1000
  second_small = N.le_trans k.allowed.second.small (omega arith)

  pub second_is : {x : ℤ} → x ≡ second_of ws → to_z w64 (of_z w64 x) ≡ second_of ws
  second_is e = gives e (small_fits (second_of ws) second_small (lit< tt))
