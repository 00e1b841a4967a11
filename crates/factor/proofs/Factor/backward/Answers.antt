use mathlib.Core.Path.{sym, ap, ◌∙◌}
use Prim.Native.Nat.{ℕ, ◌+◌, ◌-◌}
use native.Mathlib.Omega.{arith}
use lib.Ieee.{Float, nan}
use lib.ListN.{get_or, set}
use Rattle.factor.specs.Factor.{less_by}
use Rattle.factor.specs.Solve.{upper_term, backward_from}
use Rattle.factor.proofs.Turns.{backward_more, backward_done}
use Rattle.factor.proofs.Factor.backward.Goals as goal

pub less_upper-rest-requires : goal.less_upper-rest-requires
less_upper-rest-requires c = let high = c.highest_of-top.ensures in
    (omega arith, omega arith, omega arith)

pub loop-j-preserved : goal.loop-j-preserved
loop-j-preserved c = let a = c.args in
    let j = c.loop-j.j - 1 in
    let v = c.loop-j.v in
    let high = c.highest_of-top.ensures in
    ap (λ (x : Float). backward_from a.self.multipliers.now a.self.reach a.self.cells j (set v j x)) (c.less_upper-rest.ensures ∙ ap (λ (k : ℕ). less_by (upper_term a.self.reach a.self.multipliers.now j v) (j + 1) (k - j) (get_or v j nan)) high)
    ∙ sym (backward_more a.self.multipliers.now a.self.reach a.self.cells v c.loop-j.j (omega arith)) ∙ c.loop-j.invariant

pub returns : goal.returns
returns c = let a = c.args in
    sym (backward_done a.self.multipliers.now a.self.reach a.self.cells c.loop-j.v c.loop-j.j (omega arith)) ∙ c.loop-j.invariant
