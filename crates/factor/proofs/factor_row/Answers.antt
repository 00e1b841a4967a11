-- The multipliers and the pivot are those of the definition, and its answer is judged.
use mathlib.Core.Path.{◌∙◌}
use Rattle.factor.proofs.Turns.{step_is}
use Rattle.factor.proofs.factor_row.Goals as goal

pub returns : goal.returns
returns c = let a = c.args in
    let q = step_is a.entries.now a.before.pivots.now a.before.multipliers.now a.before.reach a.before.cells c.lowest_of-lo.ensures c.requires.2 c.multipliers_into.ensures c.less_products.ensures in
    (c.judge.ensures ∙ q.0, q.1)
