use mathlib.Core.Path.{sym, ◌∙◌}
use native.Mathlib.Omega.{arith}
use Rattle.factor.proofs.Turns.{divided_more, divided_done}
use Rattle.factor.proofs.Factor.divide.Goals as goal

pub loop-j-preserved : goal.loop-j-preserved
loop-j-preserved c = let a = c.args in
    sym (divided_more a.self.pivots.now c.loop-j.j a.self.cells c.loop-j.y (omega arith)) ∙ c.loop-j.invariant

pub returns : goal.returns
returns c = let a = c.args in
    sym (divided_done a.self.pivots.now c.loop-j.j a.self.cells c.loop-j.y (omega arith)) ∙ c.loop-j.invariant
