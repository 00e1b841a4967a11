use mathlib.Core.Path.{refl, sym}
use native.Mathlib.Omega.{arith}
use Rattle.whole.proofs.Fits.{gives}
use Rattle.measure.proofs.Scattered.{coefficient_read, link_end, link_spread, scattering_by, term_adding, term_next, terms_start}
use Rattle.measure.proofs.links.scatter.Goals as goal

pub loop-m-init : goal.loop-m-init
loop-m-init c = terms_start (link_spread (scattering_by (sym (gives refl c.ranges.y)) c.requires))

pub add_at-requires : goal.add_at-requires
add_at-requires c = term_adding (link_spread (scattering_by (sym (gives refl c.ranges.y)) c.requires)) (omega (arith, c.count_at-t.ensures)) c.loop-m.invariant c.count_at-cell.ensures
    (coefficient_read c.requires.link c.loop-m.m (omega (arith, c.count_at-t.ensures)))

pub loop-m-preserved : goal.loop-m-preserved
loop-m-preserved c =
    term_next (link_spread (scattering_by (sym (gives refl c.ranges.y)) c.requires)) (omega (arith, c.count_at-t.ensures)) c.loop-m.invariant c.count_at-cell.ensures
    (coefficient_read c.requires.link c.loop-m.m (omega (arith, c.count_at-t.ensures))) c.add_at.ensures

pub returns : goal.returns
returns c = rw (gives {x = c.args.y} refl c.ranges.y) at (link_end (scattering_by (sym (gives refl c.ranges.y)) c.requires) (omega (arith, c.count_at-t.ensures)) c.loop-m.invariant)
