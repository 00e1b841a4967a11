use mathlib.Core.Path.{ap, ◌∙◌}
use mathlib.Core.List.{[], ◌∷◌}
use native.Mathlib.Omega.{arith}
use lib.ListN.{length}
use lib.Seq.{length-sets}
use Rattle.measure.proofs.Proposals.{given}
use Rattle.measure.proofs.Walks.{here_link, here_next, here_numbers, here_read}
use Rattle.terms.proofs.Listings.{link_next}
use Rattle.terms.proofs.listing.list_links.Goals as goal

pub link_sum-sum-requires : goal.link_sum-sum-requires
link_sum-sum-requires c = here_link (given c.args.p) c.requires.0 (omega (arith, c.requires.1.0)) c.loop-l.invariant.1.0

pub bound_of-b-requires : goal.bound_of-b-requires
bound_of-b-requires c = here_link (given c.args.p) c.requires.0 (omega (arith, c.requires.1.0)) c.loop-l.invariant.1.0

pub link_term-requires : goal.link_term-requires
link_term-requires c = here_numbers (given c.args.p) c.requires.0 (omega (arith, c.requires.1.0)) c.loop-l.invariant.1.0 c.link_sum-sum.ensures c.bound_of-b.ensures

pub next_start-s-requires : goal.next_start-s-requires
next_start-s-requires c = here_link (given c.args.p) c.requires.0 (omega (arith, c.requires.1.0)) c.loop-l.invariant.1.0

pub loop-l-preserved : goal.loop-l-preserved
loop-l-preserved c = (
  ap length c.put_entry.ensures ∙ length-sets c.loop-l.out _ (_ ∷ _ ∷ _ ∷ []) ∙ c.loop-l.invariant.0,
  (
    here_next (given c.args.p) c.requires.0 (omega (arith, c.requires.1.0)) c.loop-l.invariant.1.0 c.next_start-s.ensures,
    link_next c.args.p.job.words.now c.args.p.words.now c.requires.0 c.loop-l.l
        (here_read (given c.args.p) c.requires.0 (omega (arith, c.requires.1.0)) c.loop-l.invariant.1.0 c.link_sum-sum.ensures c.bound_of-b.ensures c.link_term.ensures)
        c.loop-l.invariant.1.1 c.put_entry.ensures,
  ),
)
