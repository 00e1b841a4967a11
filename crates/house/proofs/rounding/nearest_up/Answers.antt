-- v lies between its whole part and the next whole number, and the comparison says on which side of their middle.
use Rattle.std.proofs.Common.{◌≡◌, ℕ, T, ◌+◌, ◌-◌, ◌*◌, ◌/◌, ◌^◌, ◌<◌, false, pos, sym, refl, ◌∙◌, div-lt_iff_lt-mul, arith, lit<, leb→le}
use lib.Ieee.{Float, fin, binary64, lt, of_int, sub, to_unsigned}
use lib.Ieee.Exact.{HasValue}
use lib.Ieee.Positive.{num, den, den_pos}
use Rattle.house.proofs.Halves.{half, whole_value, minus_half, le_says, gt_says, Within, within, below_more, above_minus_one, whole_part}
use Rattle.house.proofs.Nearest.{nearest_is, goes_up, stays}
use Rattle.house.proofs.rounding.nearest_up.Goals as goal

inside : (v : Float) → T (lt (of_int binary64 (pos 0)) v) × T (lt v (of_int binary64 (pos 1000000000))) → Within v 0 1000000000
inside v h =
    within (of_int binary64 (pos 0)) v (of_int binary64 (pos 1000000000)) 0 1000000000 (whole_value 0 (leb→le 0 (2 ^ 53) tt)) (whole_value 1000000000 (leb→le 1000000000 (2 ^ 53) tt)) h.0 h.1

-- the whole part of v, as the code has it
part : (v : Float) {w : ℕ} → Within v 0 1000000000 → w ≡ to_unsigned 64 v → w ≡ num v / den v
part v h e = e ∙ whole_part v h.0 h.2

few : (v : Float) {w : ℕ} → Within v 0 1000000000 → w ≡ to_unsigned 64 v → w < 1000000000
few v h e = rw (part v h e) ((div-lt_iff_lt-mul (den_pos v)).1 h.2)

next-less-half : (n : ℕ) → n < 1000000000 → HasValue (sub binary64 (of_int binary64 (pos (n + 1))) half) false ((n + 1) * 2 - 1) 2
next-less-half n h = minus_half (of_int binary64 (pos (n + 1))) (n + 1) (whole_value (n + 1) (omega arith)) (omega arith) (omega arith)

pub truncating_f64_to_u64-whole-requires : goal.truncating_f64_to_u64-whole-requires
truncating_f64_to_u64-whole-requires c = let v = c.args.v in
    let h = inside v c.requires in
    record { lower_bound = above_minus_one v h.0; upper_bound = below_more v 0 1000000000 h (fin false 1 (pos 64)) (2 ^ 64) (refl, refl) (leb→le 1000000000 (2 ^ 64) tt) }

pub overflow_cast-down : goal.overflow_cast-down
overflow_cast-down c = omega (arith, few c.args.v (inside c.args.v c.requires) c.truncating_f64_to_u64-whole.ensures)

pub overflow_add-next : goal.overflow_add-next
overflow_add-next c = omega (arith, few c.args.v (inside c.args.v c.requires) c.truncating_f64_to_u64-whole.ensures)

pub returns-then-least-v : goal.returns-then-least-v
returns-then-least-v c = let v = c.args.v in
    let w = c.truncating_f64_to_u64-whole.result in
    let h = inside v c.requires in
    let e = c.truncating_f64_to_u64-whole.ensures in
    let l = le_says (sub binary64 (of_int binary64 (pos (w + 1))) half) v ((w + 1) * 2 - 1) 2 (omega arith) (lit< tt) (next-less-half w (few v h e)) h.0 c.if-least-v.true in
    sym (nearest_is v h.0 ∙ goes_up (num v) (den v) (den_pos v) w (part v h e) l)

pub returns-else-least-v : goal.returns-else-least-v
returns-else-least-v c = let v = c.args.v in
    let w = c.truncating_f64_to_u64-whole.result in
    let h = inside v c.requires in
    let e = c.truncating_f64_to_u64-whole.ensures in
    let l = gt_says (sub binary64 (of_int binary64 (pos (w + 1))) half) v ((w + 1) * 2 - 1) 2 (omega arith) (lit< tt) (next-less-half w (few v h e)) h.0 c.if-least-v.false in
    sym (nearest_is v h.0 ∙ stays (num v) (den v) (den_pos v) w (part v h e) l)
