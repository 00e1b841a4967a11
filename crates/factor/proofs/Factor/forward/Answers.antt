use mathlib.Core.Path.{sym, ap, ap₂, ◌∙◌}
use Prim.Native.Nat.{ℕ, ◌+◌, ◌-◌}
use native.Mathlib.Omega.{arith}
use mathlib.Core.List.{List}
use lib.Ieee.{Float, nan}
use lib.ListN.{get_or, set}
use Rattle.factor.specs.Factor.{less_by}
use Rattle.factor.specs.Solve.{lower_term, forward_from}
use Rattle.factor.proofs.Turns.{forward_more, forward_done}
use Rattle.factor.proofs.Factor.forward.Goals as goal

pub less_lower-rest-requires : goal.less_lower-rest-requires
less_lower-rest-requires c = let len = c.row-lj.ensures.1 in
    let low = c.lowest_of-lo.ensures in
    (omega arith, omega arith, omega arith)

pub loop-j-preserved : goal.loop-j-preserved
loop-j-preserved c = let a = c.args in
    let j = c.loop-j.j in
    let y = c.loop-j.y in
    let low = c.lowest_of-lo.ensures in
    let row = c.row-lj.ensures.0 in
    let got = c.less_lower-rest.ensures ∙ ap₂ (λ (k : ℕ) (lj : List Float). less_by (lower_term lj j y) k (j - k) (get_or y j nan)) low row in
    ap (λ (x : Float). forward_from a.self.multipliers.now a.self.reach (a.self.cells - (j + 1)) (j + 1) (set y j x)) got
    ∙ sym (forward_more a.self.multipliers.now a.self.reach j a.self.cells y (omega arith)) ∙ c.loop-j.invariant

pub returns : goal.returns
returns c = let a = c.args in
    sym (forward_done a.self.multipliers.now a.self.reach c.loop-j.j a.self.cells c.loop-j.y (omega arith)) ∙ c.loop-j.invariant
