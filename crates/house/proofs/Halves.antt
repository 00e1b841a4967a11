-- Whole numbers and halves as floats, without a rounding, and what a comparison with one says of the numbers.
use Rattle.std.proofs.Common.{◌≡◌, ℕ, zero, suc, ◌+◌, ◌-◌, ◌*◌, ◌/◌, ◌^◌, ◌<◌, ◌≤◌, min, Bool, true, false, T, leb, ◌⊎◌, pos, sym, refl, ap, ◌∙◌, subst, inl, inr, ⊎_elim, true≢false, zero-le, lt_of_lt_of_le, lt_of_le_of_lt, lt_irrefl, mul-le-mul_right, mul_assoc, suc-mul, div-lt_iff_lt-mul, add-mul, lt_of_mul-lt-mul_right, mul-pos, one-mul, lt_of_not-le, zero-mul, mul-one, mul_right_comm, arith, lit<, ltb→lt, lt→ltb, le-ltb, leb-false, leb-true}
use lib.Ieee.{Float, nan, inf, fin, binary64, up, down, round, sum, add, sub, neg, le, lt, of_int, to_unsigned, of_bits}
use lib.Ieee.Exact.{HasValue, round_exact}
use lib.Ieee.Back.{round_whole}
use lib.Ieee.Scale.{round_same}
use lib.Ieee.Fits.{down_pos}
use lib.Ieee.Order.{transfer, le_of_values}
use lib.Ieee.Positive.{num, den, positive, den_pos, own_value, first_pos, positive_of_value, values_of_le}

-- 1/2, as the code has it
abbrev pub half : Float
half = of_bits binary64 0x3fe0_0000_0000_0000

pub whole_value : (n : ℕ) → n ≤ 2 ^ 53 → HasValue (of_int binary64 (pos n)) false n 1
unfolding of_int
whole_value n h = round_whole binary64 false n h

-- (2m - 1) / 2 is a value of the format
half_value : (m : ℕ) → m ≤ 2 ^ 52 → HasValue (round binary64 false (m * 2 - 1) 2) false (m * 2 - 1) 2
half_value m h =
    let small : m * 2 - 1 < 2 ^ 53 = omega arith in
    round_exact binary64 false (m * 2 - 1) 2 (m * 2 - 1) 1073 (lit< tt) small
    (lt_of_le_of_lt (mul-le-mul_right (2 ^ 1073) (below_53 (m * 2 - 1) small)) (lit< tt))
    (sym (mul_assoc (m * 2 - 1) (2 ^ 1073) 2))
  where
    below_53 : (n : ℕ) → n < 2 ^ 53 → n ≤ 2 ^ 53
    below_53 n l = omega arith

-- a number less a half of the same size
taken : (m d : ℕ) → 1 ≤ m → m * d * 2 - d ≡ (m * 2 - 1) * d
taken zero d l = absurd (omega arith)
taken (suc m) d l =
    let e1 : suc m * d ≡ m * d + d = suc-mul m d in
    let e2 : suc m * 2 - 1 ≡ m * 2 + 1 = omega arith in
    let e3 : (m * 2 + 1) * d ≡ m * d * 2 + d = add-mul (m * 2) 1 d ∙ ap (λ (n : ℕ). n + 1 * d) (mul_right_comm m 2 d) ∙ ap (λ (n : ℕ). m * d * 2 + n) (one-mul d) in
    rw (e1, e2, e3) (omega arith)

room : (m d : ℕ) → 1 ≤ m → d ≤ m * d * 2
room zero d l = absurd (omega arith)
room (suc m) d l = rw (suc-mul m d) (omega arith)

pub minus_half : (x : Float) (m : ℕ) → HasValue x false m 1 → 1 ≤ m → m ≤ 2 ^ 52 → HasValue (sub binary64 x half) false (m * 2 - 1) 2
unfolding sub add neg sum of_bits
minus_half nan m h l u = absurd h
minus_half (inf s) m h l u = absurd h
minus_half (fin true n e) m h l u = absurd (true≢false h.0)
minus_half (fin false n e) m h l u =
    let size : n * up e ≡ m * down e = sym (mul-one (n * up e)) ∙ h.1 in
    let big : 1 * down e ≤ n * up e * 2 = rw (size, one-mul) (room m (down e) l) in
    let same : (n * up e * 2 - 1 * down e) * 2 ≡ (m * 2 - 1) * (down e * 2) = rw (size, one-mul, taken m (down e) l) (mul_assoc (m * 2 - 1) (down e) 2) in
    let r : round binary64 false (n * up e * 2 - 1 * down e) (down e * 2) ≡ round binary64 false (m * 2 - 1) 2 =
    round_same binary64 false (n * up e * 2 - 1 * down e) (down e * 2) (m * 2 - 1) 2 (mul-pos (down_pos e) (lit< tt)) (lit< tt) same in
    rw (le-ltb (n * up e * 2) (1 * down e) big, r) (half_value m u)

-- ---- what a comparison says of the numbers
le_or_gt : (a b : ℕ) → (a ≤ b) ⊎ (b < a)
le_or_gt a b = go (leb a b) refl
  where
    go : (t : Bool) → leb a b ≡ t → (a ≤ b) ⊎ (b < a)
    go true e = inl (leb-true a b e)
    go false e = inr (leb-false a b e)

module _ (x v : Float) (a c : ℕ) (A : 0 < a) (C : 0 < c) (h : HasValue x false a c) (p : T (positive v)) where
  pub le_says : le x v ≡ true → a * den v ≤ num v * c
  le_says t = values_of_le x v a c (num v) (den v) (positive_of_value x a c h A) p h (own_value v p) (subst T (sym t) tt)

  pub gt_says : le x v ≡ false → num v * c < a * den v
  gt_says t =
      ⊎_elim (λ k. absurd (subst T t (le_of_values x v a c (num v) (den v) C (den_pos v) h (own_value v p) k))) (λ k. k) (le_or_gt (a * den v) (num v * c))

-- a / 1 < n / d of two fractions with the denominators multiplied out
cancel : (a n d e m : ℕ) → m * 1 ≡ a * e → m * d < n * e → a * d < n
cancel a n d e m h l = lt_of_mul-lt-mul_right e (subst (λ (k : ℕ). k < n * e) (ap (λ (k : ℕ). k * d) (sym (mul-one m) ∙ h) ∙ mul_right_comm a e d) l)

cancel_above : (b n d e m : ℕ) → m * 1 ≡ b * e → n * e < m * d → n < b * d
cancel_above b n d e m h l = lt_of_mul-lt-mul_right e (subst (λ (k : ℕ). n * e < k) (ap (λ (k : ℕ). k * d) (sym (mul-one m) ∙ h) ∙ mul_right_comm b e d) l)

-- v is finite, above zero, above a and below b
abbrev pub Within : Float → ℕ → ℕ → Type 0
Within v a b = T (positive v) × (a * den v < num v) × (num v < b * den v)

pub within : (x v y : Float) (a b : ℕ) → HasValue x false a 1 → HasValue y false b 1 → T (lt x v) → T (lt v y) → Within v a b
unfolding lt
within nan v y a b hx hy l u = absurd hx
within (inf s) v y a b hx hy l u = absurd hx
within (fin true m e) v y a b hx hy l u = absurd (true≢false hx.0)
within (fin false m e) nan y a b hx hy l u = absurd l
within (fin false m e) (inf true) y a b hx hy l u = absurd l
within (fin false m e) (inf false) nan a b hx hy l u = absurd hy
within (fin false m e) (inf false) (inf t) a b hx hy l u = absurd hy
within (fin false m e) (inf false) (fin t k g) a b hx hy l u = absurd u
within (fin false m e) (fin true n d) y a b hx hy l u = absurd l
within (fin false m e) (fin false n d) nan a b hx hy l u = absurd hy
within (fin false m e) (fin false n d) (inf t) a b hx hy l u = absurd hy
within (fin false m e) (fin false n d) (fin true k g) a b hx hy l u = absurd (true≢false hy.0)
within (fin false m e) (fin false n d) (fin false k g) a b hx hy l u =
    let above : a * down d < n * up d = cancel a (n * up d) (down d) (down e) (m * up e) hx.1 (ltb→lt (m * up e * down d) (n * up d * down e) l) in
    let under : n * up d < b * down d = cancel_above b (n * up d) (down d) (down g) (k * up g) hy.1 (ltb→lt (n * up d * down g) (k * up g * down d) u) in
    (lt→ltb 0 n (first_pos n (up d) (lt_of_le_of_lt (zero-le) above)), above, under)

-- ---- what the numbers say of a comparison
lt_of_values : (x y : Float) (a c b d : ℕ) → HasValue x false a c → HasValue y false b d → a * d < b * c → T (lt x y)
unfolding lt
lt_of_values nan y a c b d hx hy l = absurd hx
lt_of_values (inf s) y a c b d hx hy l = absurd hx
lt_of_values (fin true m e) y a c b d hx hy l = absurd (true≢false hx.0)
lt_of_values (fin false m e) nan a c b d hx hy l = absurd hy
lt_of_values (fin false m e) (inf t) a c b d hx hy l = absurd hy
lt_of_values (fin false m e) (fin true n g) a c b d hx hy l = absurd (true≢false hy.0)
lt_of_values (fin false m e) (fin false n g) a c b d hx hy l =
    lt→ltb (m * up e * down g) (n * up g * down e)
    (lt_of_not-le (λ h. lt_irrefl (a * d)
    (lt_of_lt_of_le l (transfer b a d c (n * up g) (m * up e) (down g) (down e) (down_pos g) (down_pos e) (sym hy.1) (sym hx.1) h))))

-- a v within a box lies above 0, and below each number that the box does
module _ (v : Float) (a b : ℕ) (w : Within v a b) where
  pub above_zero : (x : Float) → HasValue x false 0 1 → T (lt x v)
  above_zero x h = lt_of_values x v 0 1 (num v) (den v) h (own_value v w.0) (rw (zero-mul (den v), mul-one (num v)) (lt_of_le_of_lt zero-le w.1))

  pub below_more : (y : Float) (c : ℕ) → HasValue y false c 1 → b ≤ c → T (lt v y)
  below_more y c h l =
      lt_of_values v y (num v) (den v) c 1 (own_value v w.0) h (rw (mul-one (num v)) (lt_of_lt_of_le w.2 (mul-le-mul_right (den v) l)))

pub above_minus_one : (v : Float) → T (positive v) → T (lt (fin true 1 (pos 0)) v)
unfolding lt
above_minus_one nan p = absurd p
above_minus_one (inf s) p = absurd p
above_minus_one (fin true m e) p = absurd p
above_minus_one (fin false m e) p = lt→ltb 0 (1 * down e + m * up e * 1) (let d = down_pos e in omega (arith, d))

-- the whole part of a v that is below 1,000,000,000
uncapped : (a : ℕ) → a < 1000000000 → min a (2 ^ 64 - 1) ≡ a
uncapped a h = omega arith

pub whole_part : (v : Float) → T (positive v) → num v < 1000000000 * den v → to_unsigned 64 v ≡ num v / den v
unfolding to_unsigned
whole_part nan p l = absurd p
whole_part (inf s) p l = absurd p
whole_part (fin true m e) p l = absurd p
whole_part (fin false m e) p l = uncapped (m * up e / down e) ((div-lt_iff_lt-mul (down_pos e)).1 l)
