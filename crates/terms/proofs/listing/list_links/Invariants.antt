-- Behind the cells stand the words of the links passed, and s is where the next one starts.
use mathlib.Core.Path.{◌≡◌}
use Prim.Native.Nat.{◌+◌}
use lib.ListN.{length}
use Rattle.jobs.specs.Words.{start_of}
use Rattle.terms.specs.Steps.{Longer}
use Rattle.terms.proofs.listing.list_links.Given as goal

abbrev pub invariant-loop-l : goal.invariant-loop-l
invariant-loop-l l = ((length l.out ≡ length l.initial.out) × ((l.s ≡ start_of l.p.job.words.now l.l) × Longer l.p.job.words.now l.p.words.now l.n (l.n + l.l) l.initial.out l.out))
