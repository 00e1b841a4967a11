use Rattle.numbers.proofs.Reading.{at_end}
use native.Mathlib.Nat.{le_of_lt, add-zero}
use Prim.Native.Nat.{◌+◌, ◌-◌, ◌%◌}
use Rattle.numbers.proofs.Climb.{climb_start, climb_short, climb_long, climb_on, climb_last, scale_small, group_small}
use mathlib.Core.Path.{◌≡◌, sym, ◌∙◌}
use native.Mathlib.Omega.{arith}
use Rattle.numbers.proofs.plain.number_at.Goals as goal

pub returns-then-s-at : goal.returns-then-s-at
returns-then-s-at c = sym (at_end 9 _ _ (le_of_lt c.if-s-at.true))

pub loop-groups-init : goal.loop-groups-init
loop-groups-init c = rw add-zero (climb_start _ _ c.if-s-at.false)

pub returns-in_err-get : goal.returns-in_err-get
returns-in_err-get c = c.from_residual.ensures ∙ climb_short c.loop-groups.invariant c.in_err-get.ensures.lookup.3

pub last-requires : goal.last-requires
last-requires c = (c.if-b-lt128.true, (c.loop-groups.invariant.below, scale_small c.loop-groups.invariant c.loop-groups-test.true))

pub returns-then-b-lt128 : goal.returns-then-b-lt128
returns-then-b-lt128 c = let h = c.in_ok-get.ensures.lookup.3 in
    let e = c.from-b.ensures ∙ h.1 0 in
    c.last.ensures ∙ rw e (climb_last c.loop-groups.invariant c.loop-groups-test.true h.0 (rw e at c.if-b-lt128.true))

pub overflow_mul-value : goal.overflow_mul-value
overflow_mul-value c = omega (arith, group_small c.loop-groups.invariant c.loop-groups-test.true (c.from-b.result % 128) (omega arith))

pub overflow_add-value : goal.overflow_add-value
overflow_add-value c = let l = c.loop-groups.invariant in omega (arith, l.below, scale_small l c.loop-groups-test.true, group_small l c.loop-groups-test.true (c.from-b.result % 128) (omega arith))

pub overflow_mul-scale : goal.overflow_mul-scale
overflow_mul-scale c = omega (arith, scale_small c.loop-groups.invariant c.loop-groups-test.true)

pub loop-groups-preserved : goal.loop-groups-preserved
loop-groups-preserved c = let h = c.in_ok-get.ensures.lookup.3 in
    let e = c.from-b.ensures ∙ h.1 0 in
    let i : c.args.at + (c.loop-groups.groups + 1) ≡ c.args.at + c.loop-groups.groups + 1 = omega arith in
    rw (i, e) (climb_on c.loop-groups.invariant c.loop-groups-test.true h.0 (rw e at c.if-b-lt128.false))

pub returns : goal.returns
returns c = climb_long c.loop-groups.invariant c.loop-groups-test.false
