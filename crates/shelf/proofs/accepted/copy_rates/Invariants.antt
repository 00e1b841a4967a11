-- After i turns the first i values are the sizes of i numbers from the number a on; each is a word.
use mathlib.Core.Path.{◌≡◌}
use mathlib.Core.List.{map}
use lib.IntN.{nat_abs}
use lib.ListN.{length, drop}
use Rattle.shelf.proofs.Copied.{copied}
use Rattle.shelf.proofs.accepted.copy_rates.Given as goal

abbrev pub invariant-loop-i : goal.invariant-loop-i
invariant-loop-i l = (length l.values ≡ length l.initial.values) × (l.values ≡ copied (drop l.a (map nat_abs l.rates)) l.initial.values l.i)
