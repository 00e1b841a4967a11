-- The two tests pick the case that `rounded_out` picks.
use Rattle.std.proofs.Common.{◌^◌, T, pos, sym, ◌∙◌, subst, arith, leb→le}
use lib.Ieee.{binary64, of_int}
use Rattle.house.proofs.Halves.{whole_value, within, above_zero, below_more}
use Rattle.house.proofs.Nearest.{is_low, is_high, is_nearest}
use Rattle.house.proofs.rounding.round_out.Goals as goal

pub nearest_up-requires : goal.nearest_up-requires
nearest_up-requires c = let a = c.args in
    let w =
    within (of_int binary64 (pos a.lo)) a.v (of_int binary64 (pos a.hi)) a.lo a.hi (whole_value a.lo (omega arith)) (whole_value a.hi (omega arith))
    (subst T (sym c.if-v-l.true) tt) (subst T (sym c.if-v-h.true) tt) in (
      above_zero a.v a.lo a.hi w (of_int binary64 (pos 0)) (whole_value 0 (leb→le 0 (2 ^ 53) tt)),
      below_more a.v a.lo a.hi w (of_int binary64 (pos 1000000000)) 1000000000 (whole_value 1000000000 (leb→le 1000000000 (2 ^ 53) tt)) (omega arith),
    )

pub returns-then-v-h : goal.returns-then-v-h
returns-then-v-h c = let a = c.args in
    c.nearest_up.ensures ∙ is_nearest a.lo a.hi a.v c.if-v-l.true c.if-v-h.true

pub returns-then-v-l : goal.returns-then-v-l
returns-then-v-l c = let a = c.args in
    is_high a.lo a.hi a.v c.if-v-l.true c.if-v-h.false

pub returns : goal.returns
returns c = let a = c.args in
    is_low a.lo a.hi a.v c.if-v-l.false
