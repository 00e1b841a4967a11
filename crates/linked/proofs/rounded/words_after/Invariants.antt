-- After the turns below `at` the places below it hold their words.
use mathlib.Core.Path.{◌≡◌}
use mathlib.Core.List.{List}
use lib.IntN.{ℤ}
use lib.ListN.{get_or}
use lib.Ieee.{Float, nan}
use Rattle.linked.specs.Proposal.{multiplier_word}
use Prim.Native.Nat.{ℕ, ◌-◌}
use Rattle.house.specs.Filled.{filled}
use Rattle.linked.proofs.rounded.words_after.Given as goal

-- the multiplier's word of each place after the n values
abbrev pub multipliers : List Float → (n : ℕ) → ℕ → ℤ
multipliers y n i = multiplier_word (get_or y (i - n) nan)

abbrev pub invariant-loop-at : goal.invariant-loop-at
invariant-loop-at l = (filled (multipliers l.y l.n) (l.count - l.at) l.at l.made ≡ filled (multipliers l.y l.n) l.links l.n l.initial.made)
