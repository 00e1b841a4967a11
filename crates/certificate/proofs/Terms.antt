-- The rule's cell terms: each covers its cell, none that covers it is smaller, and none is negative for a value in its box. All comes from two laws of
-- the quotient rounded up: with m = 4, 9 is covered by quotientUp 9 4 = 3, as 9 ≤ 4 * 3, and 3 is the least such number.
use mathlib.Core.Path.{◌≡◌, refl, sym, ap, subst, subst₂}
use mathlib.Core.Logic.{◌⊎◌, inl, inr}
use mathlib.Core.Bool.{Bool, true, false, not, cond}
use Prim.Native.Nat.{ℕ, zero, suc, ◌*◌, ◌≤◌, ◌<◌, suc-le-suc, zero-le}
use native.Mathlib.Nat as N
use native.Mathlib.Omega.{arith}
use lib.Dec.{T, leb→le, T_not, leb, le→leb}
use lib.IntN.{ℤ, pos, negsuc, neg_ℤ, nat_abs, ◌-ℤ◌, ◌*ℤ◌}
use lib.Signed.{◌≤ℤ◌, ◌<ℤ◌, lt_z, le_z, lt_z_yes, le_z_yes, ≤ℤ_refl}
use mir.Facts.{and_yes, yes_and}
use Rattle.whole.proofs.Ring.{*ℤ-pos1}
use Rattle.whole.proofs.Order.{≤ℤ-sub, ≤ℤ-trans, ≤ℤ-of-eq, ≤ℤ-or->, <ℤ-le, +ℤ-nonneg, *ℤ-nonneg, *ℤ-pos, sq_nonneg, nat_of, nonneg_of_mul, pos_nonneg, pos_mono, pos_le, pos_mono_<, pos_lt}
use Rattle.whole.proofs.Magnitude.{nat_abs_sq}
use Rattle.whole.proofs.Sums.{sum_nonneg}
use Rattle.certificate.specs.Problem.{squared, link, residual}
use Rattle.certificate.specs.Terms.{box_term, quotient_up, square_term, smaller, square_counts, cell_term, Covers, by_floor, by_ceiling, flat, by_square}
use Rattle.certificate.specs.Promises.{RuleCertifies, RuleIsLeast, BoxBeyondLimit, CellTermsNotNegative, LinkTermsNotNegative, GapNotNegative}

-- ---- the quotient rounded up

pub quotient_covers : (x m : ℕ) → 0 < m → x ≤ m * quotient_up x m
quotient_covers x m h =
    omega (arith, (N.div-lt_iff_lt-mul h).0 (N.le_refl (suc (quotient_up x m))), N.suc-mul (quotient_up x m) m, N.mul_comm (quotient_up x m) m)

pub quotient_least : (x m q : ℕ) → 0 < m → x ≤ m * q → quotient_up x m ≤ q
quotient_least x m q h k = N.le_of_suc-le-suc ((N.div-lt_iff_lt-mul h).1 (omega (arith, N.suc-mul q m, N.mul_comm q m)))

-- ---- the box term, by the sign of r

pub box_above : (r lo hi v : ℤ) → pos 0 <ℤ r → box_term r lo hi v ≡ r *ℤ (v -ℤ lo)
box_above (pos zero) lo hi v h = absurd h.lt
box_above (pos (suc r)) lo hi v h = refl
box_above (negsuc r) lo hi v h = absurd h.lt

pub box_below : (r lo hi v : ℤ) → r <ℤ pos 0 → box_term r lo hi v ≡ neg_ℤ r *ℤ (hi -ℤ v)
box_below (pos zero) lo hi v h = absurd h.lt
box_below (pos (suc r)) lo hi v h = absurd (N.not-suc-le-zero (pos_lt h))
box_below (negsuc r) lo hi v h = refl

pub box_level : (r lo hi v : ℤ) → r ≡ pos 0 → box_term r lo hi v ≡ pos 0
box_level r lo hi v e = ap (λ (x : ℤ). box_term x lo hi v) e

pub box_covers : (w r lo hi v : ℤ) → Covers w r lo hi v (box_term r lo hi v)
box_covers w (pos zero) lo hi v = flat refl (≤ℤ_refl (pos 0))
box_covers w (pos (suc r)) lo hi v = by_floor (pos_mono_< (suc-le-suc zero-le)) (≤ℤ_refl (pos (suc r) *ℤ (v -ℤ lo)))
box_covers w (negsuc r) lo hi v = by_ceiling (lt_z_yes tt) (≤ℤ_refl (pos (suc r) *ℤ (hi -ℤ v)))

pub box_nonneg : (r lo hi v : ℤ) → lo ≤ℤ v → v ≤ℤ hi → pos 0 ≤ℤ box_term r lo hi v
box_nonneg (pos zero) lo hi v h k = ≤ℤ_refl (pos 0)
box_nonneg (pos (suc r)) lo hi v h k = *ℤ-nonneg (pos_nonneg (suc r)) (≤ℤ-sub h)
box_nonneg (negsuc r) lo hi v h k = *ℤ-nonneg (pos_nonneg (suc r)) (≤ℤ-sub k)

-- ---- the square term

four_times : {w : ℕ} → 0 < w → 0 < 4 * w
four_times h = omega arith

pub square_covers : (w r lo hi v : ℤ) → pos 0 <ℤ w → Covers w r lo hi v (square_term w r)
square_covers (pos w) r lo hi v h =
    by_square h
    (subst (λ (x : ℤ). x ≤ℤ (pos 4 *ℤ pos w *ℤ square_term (pos w) r)) (sym (nat_abs_sq r))
    (pos_mono (quotient_covers (nat_abs r * nat_abs r) (4 * w) (four_times (pos_lt h)))))
square_covers (negsuc w) r lo hi v h = absurd h.lt

pub square_least : (w r t : ℤ) → pos 0 <ℤ w → squared r ≤ℤ (pos 4 *ℤ w *ℤ t) → square_term w r ≤ℤ t
square_least (pos w) r t h k = go (nat_of t (nonneg_of_mul (*ℤ-pos {a = pos 4} (lt_z_yes tt) h) (≤ℤ-trans (sq_nonneg r) k)))
  where
    go : (q : ℕ) × (t ≡ pos q) → square_term (pos w) r ≤ℤ t
    go (q, e) =
        subst (λ (x : ℤ). square_term (pos w) r ≤ℤ x) (sym e)
        (pos_mono
        (quotient_least (nat_abs r * nat_abs r) (4 * w) q (four_times (pos_lt h))
        (pos_le (subst₂ (λ (x z : ℤ). x ≤ℤ (pos 4 *ℤ pos w *ℤ z)) (nat_abs_sq r) e k))))
square_least (negsuc w) r t h k = absurd h.lt

-- ---- when the square counts

counts_weight : (limit : ℕ) (w r : ℤ) → T (square_counts limit w r) → pos 0 <ℤ w
counts_weight limit w r h = lt_z_yes (and_yes (lt_z (pos 0) w) _ h).0

counts_near : (limit : ℕ) (w r : ℤ) → T (square_counts limit w r) → nat_abs r ≤ limit
counts_near limit w r h = leb→le (nat_abs r) limit (and_yes (lt_z (pos 0) w) (leb (nat_abs r) limit) h).1

counts : (limit : ℕ) (w r : ℤ) → pos 0 <ℤ w → nat_abs r ≤ limit → T (square_counts limit w r)
counts limit w r h k = yes_and (lt_z (pos 0) w) (leb (nat_abs r) limit) h.lt (le→leb (nat_abs r) limit k)

-- ---- the cell term

smaller_first : (s t : ℤ) → smaller s t ≤ℤ s
smaller_first s t = go (≤ℤ-or-> s t) (le_z s t) (λ h. h.le)
  where
    go : (s ≤ℤ t) ⊎ (t <ℤ s) → (c : Bool) → (s ≤ℤ t → T c) → cond c s t ≤ℤ s
    go o true f = ≤ℤ_refl s
    go (inl h) false f = absurd (f h)
    go (inr h) false f = <ℤ-le h

smaller_second : (s t : ℤ) → smaller s t ≤ℤ t
smaller_second s t = go (le_z s t) (λ h. le_z_yes h)
  where
    go : (c : Bool) → (T c → s ≤ℤ t) → cond c s t ≤ℤ t
    go true f = f tt
    go false f = ≤ℤ_refl t

-- what holds of either of two terms, where each may use which it is
pick : (P : ℤ → Type 0) (c : Bool) (s t : ℤ) → (T c → P s) → (T (not c) → P t) → P (cond c s t)
pick P true s t f g = f tt
pick P false s t f g = g tt

module _ (limit : ℕ) (w r lo hi v : ℤ) where
  pub cell_covers : Covers w r lo hi v (cell_term limit w r lo hi v)
  cell_covers =
      pick (Covers w r lo hi v) (square_counts limit w r) _ _
      (λ h.
      pick (Covers w r lo hi v) (le_z (box_term r lo hi v) (square_term w r)) _ _ (λ k. box_covers w r lo hi v)
      (λ k. square_covers w r lo hi v (counts_weight limit w r h)))
      (λ h. box_covers w r lo hi v)

  within_box : cell_term limit w r lo hi v ≤ℤ box_term r lo hi v
  within_box =
      pick (λ x. x ≤ℤ box_term r lo hi v) (square_counts limit w r) _ _ (λ h. smaller_first (box_term r lo hi v) (square_term w r))
      (λ h. ≤ℤ_refl (box_term r lo hi v))

  within_square : T (square_counts limit w r) → cell_term limit w r lo hi v ≤ℤ square_term w r
  within_square c =
      pick (λ x. x ≤ℤ square_term w r) (square_counts limit w r) _ _ (λ h. smaller_second (box_term r lo hi v) (square_term w r))
      (λ h. absurd (T_not (square_counts limit w r) h c))

-- ---- what is promised

pub rule_is_least : RuleIsLeast
rule_is_least limit w r lo hi v t h (by_floor p k) = ≤ℤ-trans (within_box limit w r lo hi v) (≤ℤ-trans (≤ℤ-of-eq (box_above r lo hi v p)) k)
rule_is_least limit w r lo hi v t h (by_ceiling p k) = ≤ℤ-trans (within_box limit w r lo hi v) (≤ℤ-trans (≤ℤ-of-eq (box_below r lo hi v p)) k)
rule_is_least limit w r lo hi v t h (flat p k) = ≤ℤ-trans (within_box limit w r lo hi v) (≤ℤ-trans (≤ℤ-of-eq (box_level r lo hi v p)) k)
rule_is_least limit w r lo hi v t h (by_square p k) = ≤ℤ-trans (within_square limit w r lo hi v (counts limit w r p h)) (square_least w r t p k)

pub box_beyond_limit : BoxBeyondLimit
box_beyond_limit limit w r lo hi v far =
    pick (λ x. x ≡ box_term r lo hi v) (square_counts limit w r) _ _
    (λ h. absurd (N.not-le_of_lt far (counts_near limit w r h)))
    (λ h. refl)

pub rule_certifies : RuleCertifies
rule_certifies limit P v y s = record {
  signs = s;
  cells = λ i k. cell_covers limit (P.w i) (residual P v y i) (P.lo i) (P.hi i) (v i);
}

pub cell_terms_not_negative : CellTermsNotNegative
cell_terms_not_negative limit w r lo hi v h k =
    pick (λ x. pos 0 ≤ℤ x) (square_counts limit w r) _ _
    (λ c. pick (λ x. pos 0 ≤ℤ x) (le_z (box_term r lo hi v) (square_term w r)) _ _ (λ o. box) (λ o. pos_nonneg (nat_abs (square_term w r))))
    (λ c. box)
  where
    box : pos 0 ≤ℤ box_term r lo hi v
    box = box_nonneg r lo hi v h k

pub link_terms_not_negative : LinkTermsNotNegative
link_terms_not_negative P v y s M j h =
    *ℤ-nonneg (s.multipliers j h) (≤ℤ-sub (subst (λ (x : ℤ). link P j v ≤ℤ x) (*ℤ-pos1 (P.b j)) (M.links j h)))

pub gap_not_negative : GapNotNegative
gap_not_negative limit P v y s M =
    +ℤ-nonneg (sum_nonneg P.n (λ i h. cell_terms_not_negative limit (P.w i) (residual P v y i) (P.lo i) (P.hi i) (v i) (floor i h) (ceiling i h)))
    (sum_nonneg P.p (link_terms_not_negative P v y s M))
  where
    floor : (i : ℕ) → i < P.n → P.lo i ≤ℤ v i
    floor i h = subst (λ (x : ℤ). x ≤ℤ v i) (*ℤ-pos1 (P.lo i)) (M.floors i h)

    ceiling : (i : ℕ) → i < P.n → v i ≤ℤ P.hi i
    ceiling i h = subst (λ (x : ℤ). v i ≤ℤ x) (*ℤ-pos1 (P.hi i)) (M.ceilings i h)
