-- The order field is compared with the field of a grid.
use mathlib.Core.Path.{ap}
use Prim.Native.Nat.{ℕ}
use lib.Dec.{eqb}
use Rattle.jobs.proofs.words.is_grid.Goals as goal

pub returns : goal.returns
returns c = ap (λ (x : ℕ). eqb x 5) c.count_at-field.ensures
