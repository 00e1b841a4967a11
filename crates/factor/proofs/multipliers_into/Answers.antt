use mathlib.Core.Path.{sym, ap, ◌∙◌}
use Prim.Native.Nat.{◌+◌, ◌-◌}
use native.Mathlib.Omega.{arith}
use mathlib.Core.List.{List}
use lib.Ieee.{Float, binary64, div, nan}
use lib.ListN.{get_or, set, length-set}
use Rattle.factor.specs.Factor.{pivot_at, less_by, product_of, multiplier_of, row_from}
use Rattle.factor.proofs.Turns.{multipliers_more, multipliers_done}
use Rattle.factor.proofs.multipliers_into.Goals as goal

pub less_products-rest-requires : goal.less_products-rest-requires
less_products-rest-requires c = let len = c.row-li.ensures.1 in
    let own = c.loop-i.invariant.0 in
    let low = c.requires.0 in
    (omega arith, omega arith, omega arith, omega arith, omega arith)

pub loop-i-preserved : goal.loop-i-preserved
unfolding multiplier_of
loop-i-preserved c = let a = c.args in
    let i = c.loop-i.i in
    let made = c.loop-i.made in
    let row = c.row-li.ensures.0 in
    let got = c.less_products-rest.ensures ∙ ap (λ (li : List Float). less_by (product_of made a.before.cells li i a.before.pivots.now) a.lo (i - a.lo) (get_or a.entries.now (a.before.cells - i) nan)) row in (
      length-set made (a.before.cells - i - 1) (div binary64 c.less_products-rest.result (pivot_at a.before.pivots.now i)) ∙ c.loop-i.invariant.0,
      ap (λ (x : Float). row_from a.before.reach a.entries.now a.before.pivots.now a.before.multipliers.now a.before.cells a.lo (a.before.cells - (i + 1)) (i + 1) (set made (a.before.cells - i - 1) (div binary64 x (pivot_at a.before.pivots.now i)))) got
          ∙ sym (multipliers_more a.before.reach a.entries.now a.before.pivots.now a.before.multipliers.now a.before.cells a.lo i made (omega arith)) ∙ c.loop-i.invariant.1,
    )

pub returns : goal.returns
returns c = let a = c.args in
    sym (multipliers_done a.before.reach a.entries.now a.before.pivots.now a.before.multipliers.now a.before.cells a.lo c.loop-i.i c.loop-i.made (omega arith)) ∙ c.loop-i.invariant.1
