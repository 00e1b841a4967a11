use mathlib.Core.Path.{sym, ◌∙◌}
use native.Mathlib.Omega.{arith}
use Rattle.factor.specs.Solve.{lower_term}
use Rattle.factor.proofs.Turns.{less_more, less_done}
use Rattle.factor.proofs.solve.less_lower.Goals as goal

pub loop-m-preserved : goal.loop-m-preserved
loop-m-preserved c = let a = c.args in
    sym (less_more (lower_term a.lj.now a.j a.y.now) c.loop-m.m a.j c.loop-m.rest (omega arith)) ∙ c.loop-m.invariant

pub returns : goal.returns
returns c = let a = c.args in
    sym (less_done (lower_term a.lj.now a.j a.y.now) c.loop-m.m a.j c.loop-m.rest (omega arith)) ∙ c.loop-m.invariant
