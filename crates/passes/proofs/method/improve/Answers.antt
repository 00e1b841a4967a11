-- Each part is that of the definition.
use lib.Ieee.{of_bits}
use Rattle.passes.specs.OnWords.{link_at}
use Rattle.passes.proofs.Passing.{improved_is}
use Rattle.passes.proofs.method.improve.Goals as goal

pub returns : goal.returns
unfolding of_bits
returns c = let a = c.args in
    improved_is a.factor.pivots.now a.factor.multipliers.now a.factor.reach a.factor.cells (link_at a.link.words.now a.link.start) a.y a.v.now
    c.right_for-x.ensures
    c.solve.ensures
    c.sum_over-c.ensures
    c.sum_over-sum.ensures
    c.bound-b.ensures
    c.raised-new.ensures
    c.fall.ensures
