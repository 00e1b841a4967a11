use mathlib.Core.Path.{sym, ◌∙◌}
use native.Mathlib.Omega.{arith}
use Rattle.passes.proofs.Turns.{fallen_more, fallen_done}
use Rattle.passes.proofs.method.fall.Goals as goal

pub loop-i-preserved : goal.loop-i-preserved
loop-i-preserved c = let a = c.args in
    sym (fallen_more a.x.now a.h c.loop-i.i a.n c.loop-i.v (omega arith)) ∙ c.loop-i.invariant

pub returns : goal.returns
returns c = let a = c.args in
    sym (fallen_done a.x.now a.h c.loop-i.i a.n c.loop-i.v (omega arith)) ∙ c.loop-i.invariant
