-- The nearest whole number, on numbers: v is n / d with the whole part w, and the nearest whole number is (2n + d) / 2d.
use Rattle.std.proofs.Common.{◌≡◌, ℕ, zero, suc, ◌+◌, ◌-◌, ◌*◌, ◌/◌, ◌<◌, ◌≤◌, true, false, T, pos, refl, ap, ◌∙◌, subst, mul_assoc, suc-mul, mul_comm, add-mul, one-mul, mul_right_comm, div-mul-le_self, arith}
use native.Mathlib.Nat.{lt-div-mul-add, div-eq_of_lt-le}
use lib.Ieee.{Float, nan, inf, fin, binary64, lt, of_int}
use lib.Ieee.Positive.{num, den, positive}
use Rattle.house.specs.Rounding.{nearest_up, rounded_out}

module _ (n d : ℕ) where
  pub from_below : (lo : ℕ) → lo * d ≤ n → lo * 2 * d ≤ n * 2 + d
  from_below lo h = rw (mul_right_comm lo 2 d) (omega arith)

  pub from_above : (hi : ℕ) → n < hi * d → n * 2 + d < (hi + 1) * 2 * d
  from_above hi h = rw (mul_right_comm (hi + 1) 2 d, add-mul hi 1 d, one-mul) (omega arith)

  one_more : (m : ℕ) → 1 ≤ m → m * 2 * d ≡ (m * 2 - 1) * d + d
  one_more zero l = absurd (omega arith)
  one_more (suc m) l =
      let e : suc m * 2 ≡ suc (suc m * 2 - 1) = omega arith in
      ap (λ (k : ℕ). k * d) e ∙ suc-mul (suc m * 2 - 1) d

  step_low : (m : ℕ) → 1 ≤ m → (m * 2 - 1) * d ≤ n * 2 → m * 2 * d ≤ n * 2 + d
  step_low m l h = rw (one_more m l) (omega arith)

  step_high : (m : ℕ) → 1 ≤ m → n * 2 < (m * 2 - 1) * d → n * 2 + d < m * 2 * d
  step_high m l h = rw (one_more m l) (omega arith)

  swap : (a : ℕ) → a * 2 * d ≡ a * (d * 2)
  swap a = mul_assoc a 2 d ∙ ap (λ (k : ℕ). a * k) (mul_comm 2 d)

  at_end : (a : ℕ) → a * 2 * d ≤ n * 2 + d → n * 2 + d < (a + 1) * 2 * d → (n * 2 + d) / (d * 2) ≡ a
  at_end a l u = div-eq_of_lt-le (d * 2) (subst (λ (k : ℕ). k ≤ n * 2 + d) (swap a) l) (subst (λ (k : ℕ). n * 2 + d < k) (swap (a + 1)) u)

  -- w is the whole part, and n / d was compared with the next whole number less a half
  module _ (p : 0 < d) (w : ℕ) (e : w ≡ n / d) where
    part_low : w * d ≤ n
    part_low = rw e (div-mul-le_self n d)

    part_high : n < (w + 1) * d
    part_high = rw (e, add-mul (n / d) 1 d, one-mul d) (lt-div-mul-add p)

    pub goes_up : ((w + 1) * 2 - 1) * d ≤ n * 2 → (n * 2 + d) / (d * 2) ≡ w + 1
    goes_up h = at_end (w + 1) (step_low (w + 1) (omega arith) h) (from_above (w + 1) part_high)

    pub stays : n * 2 < ((w + 1) * 2 - 1) * d → (n * 2 + d) / (d * 2) ≡ w
    stays h = at_end w (from_below w part_low) (step_high (w + 1) (omega arith) h)

pub nearest_is : (v : Float) → T (positive v) → nearest_up v ≡ (num v * 2 + den v) / (den v * 2)
unfolding nearest_up
nearest_is nan p = absurd p
nearest_is (inf s) p = absurd p
nearest_is (fin true m e) p = absurd p
nearest_is (fin false m e) p = refl

-- which case `rounded_out` picks
module _ (lo hi : ℕ) (v : Float) where
  pub is_low : lt (of_int binary64 (pos lo)) v ≡ false → lo ≡ rounded_out lo hi v
  unfolding rounded_out
  is_low e = rw e

  pub is_high : lt (of_int binary64 (pos lo)) v ≡ true → lt v (of_int binary64 (pos hi)) ≡ false → hi ≡ rounded_out lo hi v
  unfolding rounded_out
  is_high e f = rw (e, f)

  pub is_nearest : lt (of_int binary64 (pos lo)) v ≡ true → lt v (of_int binary64 (pos hi)) ≡ true → nearest_up v ≡ rounded_out lo hi v
  unfolding rounded_out
  is_nearest e f = rw (e, f)
