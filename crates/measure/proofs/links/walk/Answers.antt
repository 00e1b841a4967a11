use native.Mathlib.Omega.{arith}
use Rattle.whole.proofs.Fits.{gives}
use Rattle.tally.proofs.Locals.{tolerance_fits}
use Rattle.measure.proofs.Walks.{here_link, here_numbers, walk_broken, walk_broken_parts, walk_held, walk_held_parts, walk_next, walk_scattering, walk_start, walk_tallies}
use Rattle.measure.proofs.links.walk.Goals as goal

pub loop-l-init : goal.loop-l-init
loop-l-init c = (gives c.tolerance-tolerance.ensures (tolerance_fits c.requires.given.allowed.tolerance), walk_start c.requires c.first_link-s.ensures c.no_terms-tally.ensures)

pub link_sum-sum-requires : goal.link_sum-sum-requires
link_sum-sum-requires c = here_link c.requires.given c.requires.n_is (omega (arith, c.links-links.ensures)) c.loop-l.invariant.1.starts

pub bound_of-b-requires : goal.bound_of-b-requires
bound_of-b-requires c = here_link c.requires.given c.requires.n_is (omega (arith, c.links-links.ensures)) c.loop-l.invariant.1.starts

pub returns-then-b-sum : goal.returns-then-b-sum
returns-then-b-sum c = (
  walk_broken c.requires (omega (arith, c.links-links.ensures)) c.loop-l.invariant.1 c.link_sum-sum.ensures c.bound_of-b.ensures c.if-b-sum.true,
  walk_broken_parts c.requires (omega (arith, c.links-links.ensures)) c.loop-l.invariant.1 c.link_sum-sum.ensures c.bound_of-b.ensures c.if-b-sum.true,
)

pub scatter-requires : goal.scatter-requires
scatter-requires c = walk_scattering c.requires (omega (arith, c.links-links.ensures)) c.loop-l.invariant.1

pub link_term-requires : goal.link_term-requires
link_term-requires c = here_numbers c.requires.given c.requires.n_is (omega (arith, c.links-links.ensures)) c.loop-l.invariant.1.starts c.link_sum-sum.ensures c.bound_of-b.ensures

pub tallied-tally-requires : goal.tallied-tally-requires
tallied-tally-requires c = walk_tallies c.requires (omega (arith, c.links-links.ensures)) c.loop-l.invariant.1 c.link_sum-sum.ensures c.bound_of-b.ensures c.if-b-sum.false
    (record { is = c.loop-l.invariant.0 }) c.link_term.ensures

pub next_start-s-requires : goal.next_start-s-requires
next_start-s-requires c = here_link c.requires.given c.requires.n_is (omega (arith, c.links-links.ensures)) c.loop-l.invariant.1.starts

pub loop-l-preserved : goal.loop-l-preserved
loop-l-preserved c = (
  c.loop-l.invariant.0,
  walk_next c.requires (omega (arith, c.links-links.ensures)) c.loop-l.invariant.1 c.link_sum-sum.ensures c.bound_of-b.ensures c.if-b-sum.false
      (record { is = c.loop-l.invariant.0 }) c.link_term.ensures c.tallied-tally.ensures c.scatter.ensures c.next_start-s.ensures,
)

pub returns : goal.returns
returns c = (walk_held c.requires (omega (arith, c.links-links.ensures)) c.loop-l.invariant.1, walk_held_parts c.requires (omega (arith, c.links-links.ensures)) c.loop-l.invariant.1)
