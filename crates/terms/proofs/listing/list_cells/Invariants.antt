-- The words of the cells passed stand at the head.
use mathlib.Core.Path.{◌≡◌}
use lib.ListN.{length}
use lib.Seq.{sets}
use Rattle.terms.specs.Steps.{entries_on}
use Rattle.terms.proofs.listing.list_cells.Given as goal

abbrev pub invariant-loop-i : goal.invariant-loop-i
invariant-loop-i l = ((length l.out ≡ length l.initial.out) × (l.out ≡ sets l.initial.out 0 (entries_on l.p.job.words.now l.p.words.now l.i)))
