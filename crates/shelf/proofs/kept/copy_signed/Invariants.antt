-- After i turns the first i words are the first i numbers.
use mathlib.Core.Path.{◌≡◌}
use mathlib.Core.List.{map}
use lib.IntN.{pos}
use lib.ListN.{length}
use Rattle.shelf.proofs.Copied.{copied}
use Rattle.shelf.proofs.kept.copy_signed.Given as goal

abbrev pub invariant-loop-i : goal.invariant-loop-i
invariant-loop-i l = (length l.words ≡ length l.initial.words) × (l.words ≡ copied (map pos l.numbers) l.initial.words l.i)
