use mathlib.Core.Path.{refl, sym}
use native.Mathlib.Omega.{arith}
use Rattle.whole.proofs.Fits.{gives}
use Rattle.measure.proofs.Differences.{coefficient_read}
use Rattle.measure.proofs.Scattered.{back_spread, gives_by, term_adding, term_next, terms_end, terms_start}
use Rattle.measure.proofs.smooth.give_back.Goals as goal

pub loop-m-init : goal.loop-m-init
loop-m-init c = terms_start (back_spread (gives_by (sym (gives refl c.ranges.y)) c.requires))

pub add_at-requires : goal.add_at-requires
add_at-requires c = term_adding (back_spread (gives_by (sym (gives refl c.ranges.y)) c.requires)) (omega arith) c.loop-m.invariant refl (coefficient_read c.requires.coefficients (omega arith))

pub loop-m-preserved : goal.loop-m-preserved
loop-m-preserved c =
    term_next (back_spread (gives_by (sym (gives refl c.ranges.y)) c.requires)) (omega arith) c.loop-m.invariant refl (coefficient_read c.requires.coefficients (omega arith)) c.add_at.ensures

pub returns : goal.returns
returns c = rw (gives {x = c.args.y} refl c.ranges.y) at (terms_end (back_spread (gives_by (sym (gives refl c.ranges.y)) c.requires)) (omega arith) c.loop-m.invariant)
