use Rattle.std.proofs.Common.{take, ◌∙◌, rules, tests, arith}
use Rattle.std.proofs.lemmas.Iterator.{YieldsList-from_slice, YieldsList-from_map}
use Rattle.std.proofs.lemmas.Iterator.Consumers.{sum_by_from_yields_List, fits_by_from_yields_list}
use Rattle.counts.specs.Counts.{count_in}
use Rattle.counts.proofs.Below.{below_sum, below_few}
use Rattle.counts.proofs.slots_below.Goals as goal

pub sum-requires-clause-fits : goal.sum-requires-clause-fits
sum-requires-clause-fits c =
    let row = c.args.row.now in
    let p = c.requires in
    let s = c.args.s in
    fits_by_from_yields_list (λ x. x) (take s row) c.map.result _ (YieldsList-from_map _ (λ x. x) (YieldsList-from_slice (take s row) (cc)) c.map.ensures.closure (λ x r q k. search (rules, tests)))
    (omega (arith, below_sum row s p.inside, below_few (count_in row) s p.small, p.few))

pub returns : goal.returns
returns c =
    let row = c.args.row.now in
    let s = c.args.s in
    sum_by_from_yields_List (λ x. x) (take s row) c.map.result _ c.sum.ensures.ran (YieldsList-from_map _ (λ x. x) (YieldsList-from_slice (take s row) (cc)) c.map.ensures.closure (λ x r q k. search (rules, tests)))
    ∙ below_sum row s c.requires.inside
