-- After j turns the places below j hold the starts of their rows, and `at` is the start of row j.
use mathlib.Core.Path.{◌≡◌}
use Prim.Native.Nat.{ℕ, ◌<◌}
use lib.ListN.{length, get_or}
use Rattle.factor.specs.Factor.{start_of}
use Rattle.factor.proofs.starts_of.Given as goal

abbrev pub invariant-loop-j : goal.invariant-loop-j
invariant-loop-j l = (l.at ≡ start_of l.z l.j) × (length l.made ≡ 121) × ((i : ℕ) → i < l.j → get_or l.made i 0 ≡ start_of l.z i)
