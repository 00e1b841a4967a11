use mathlib.Core.Path.{sym, ap, ap₂, ◌∙◌}
use Prim.Native.Nat.{ℕ, ◌+◌, ◌-◌}
use native.Mathlib.Omega.{arith}
use lib.ListN.{get_or, set, length-set}
use Rattle.factor.specs.Factor.{start_of}
use Rattle.factor.proofs.Turns.{start_next, start_small, starts_more}
use Rattle.factor.proofs.starts_of.Goals as goal

pub loop-j-init : goal.loop-j-init
unfolding start_of
loop-j-init c = (omega arith, omega arith, λ i h. absurd (omega arith))

pub overflow_cast-made : goal.overflow_cast-made
overflow_cast-made c = let e = c.loop-j.invariant.0 in
    let small = start_small c.args.z c.loop-j.j c.requires.1 (omega arith) in
    omega arith

pub overflow_add-at : goal.overflow_add-at
overflow_add-at c = let e = c.loop-j.invariant.0 in
    let small = start_small c.args.z c.loop-j.j c.requires.1 (omega arith) in
    omega arith

pub loop-j-preserved : goal.loop-j-preserved
loop-j-preserved c = let j = c.loop-j.j in
    let z = c.args.z in
    let low = c.lowest_of-lo.ensures in
    let more = starts_more z j c.loop-j.made (omega arith) c.loop-j.invariant.2 in (
      ap₂ (λ (a b : ℕ). a + (j - b)) c.loop-j.invariant.0 low ∙ sym (start_next z j),
      length-set c.loop-j.made j c.loop-j.at ∙ c.loop-j.invariant.1,
      λ i h. ap (λ (x : ℕ). get_or (set c.loop-j.made j x) i 0) c.loop-j.invariant.0 ∙ more i h,
    )
