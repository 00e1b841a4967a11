use mathlib.Core.Path.{sym, ap, ◌∙◌}
use Prim.Native.Nat.{◌+◌, ◌-◌}
use native.Mathlib.Omega.{arith}
use lib.Ieee.{Float, binary64, sub, mul, nan}
use lib.ListN.{get_or}
use Rattle.factor.specs.Factor.{less_by}
use Rattle.factor.specs.Solve.{upper_term}
use Rattle.factor.proofs.Turns.{less_more, less_done, read_inside, multiplier_read}
use Rattle.factor.proofs.Factor.less_upper.Goals as goal

pub bounds-self-place : goal.bounds-self-place
bounds-self-place c = read_inside c.args.self.placed c.loop-m.m c.args.j (omega arith) (omega arith) (omega arith) c.start_at-at.ensures.0

pub loop-m-preserved : goal.loop-m-preserved
loop-m-preserved c = let a = c.args in
    let m = c.loop-m.m in
    let read = multiplier_read c.args.self.placed m a.j (omega arith) (omega arith) (omega arith) c.start_at-at.ensures.0 in
    let t = upper_term a.self.reach a.self.multipliers.now a.j a.v.now in
    ap (λ (x : Float). less_by t (m + 1) (a.top + 1 - (m + 1)) (sub binary64 c.loop-m.rest (mul binary64 x (get_or a.v.now m nan)))) read
    ∙ sym (less_more t m (a.top + 1) c.loop-m.rest (omega arith)) ∙ c.loop-m.invariant

pub returns : goal.returns
returns c = let a = c.args in
    sym (less_done (upper_term a.self.reach a.self.multipliers.now a.j a.v.now) c.loop-m.m (a.top + 1) c.loop-m.rest (omega arith)) ∙ c.loop-m.invariant
