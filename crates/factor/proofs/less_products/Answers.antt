use mathlib.Core.Path.{sym, ◌∙◌}
use native.Mathlib.Omega.{arith}
use Rattle.factor.specs.Factor.{product_of}
use Rattle.factor.proofs.Turns.{less_more, less_done}
use Rattle.factor.proofs.less_products.Goals as goal

pub loop-m-preserved : goal.loop-m-preserved
loop-m-preserved c = let a = c.args in
    sym (less_more (product_of a.lj.now a.j a.li.now a.i a.d.now) c.loop-m.m a.i c.loop-m.rest (omega arith)) ∙ c.loop-m.invariant

pub returns : goal.returns
returns c = let a = c.args in
    sym (less_done (product_of a.lj.now a.j a.li.now a.i a.d.now) c.loop-m.m a.i c.loop-m.rest (omega arith)) ∙ c.loop-m.invariant
