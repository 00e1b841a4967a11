-- Magnitudes: how large |z| can be (`nat_abs z`), by the magnitudes of the parts of z. `bound-* a b h k : nat_abs (a *ℤ b) ≤ 10 * 20` where
-- `h : nat_abs a ≤ 10` and `k : nat_abs b ≤ 20`.
use mathlib.Core.Path.{◌≡◌, refl, sym, ap, subst, subst₂}
use mathlib.Core.Bool.{Bool, true, false, cond}
use Prim.Native.Nat.{ℕ, zero, suc, ◌+◌, ◌-◌, ◌*◌, ◌≤◌, ◌<◌, suc-le-suc, zero-le}
use native.Mathlib.Nat as N
use native.Mathlib.Omega.{arith}
use borrow.Author.Tests.{ltb-true, ltb-false}
use lib.IntN.{ℤ, pos, negsuc, neg_ℤ, nat_abs, sub_ℕ, ◌+ℤ◌, ◌-ℤ◌, ◌*ℤ◌, neg_ℤ-neg_ℤ}
use lib.Signed.{◌≤ℤ◌, le_z_yes, ≤ℤ_refl}
use lib.Dec.{T, ltb, leb→le, ltb→lt}
use Rattle.whole.proofs.Order.{nat_of, pos_mono, pos_le, negℤ-mono}

-- the magnitude of a sum, a negation, a difference, a product
nat_abs_sub : (a b : ℕ) → nat_abs (sub_ℕ a b) ≤ a + b
nat_abs_sub a b = go (ltb a b) (λ t. ltb→lt a b t)
  where
    go : (c : Bool) → (T c → a < b) → nat_abs (cond c (negsuc (b - suc a)) (pos (a - b))) ≤ a + b
    go true f = let h : a < b = f tt in omega arith
    go false f = omega arith

pub nat_abs_+ : (a b : ℤ) → nat_abs (a +ℤ b) ≤ nat_abs a + nat_abs b
nat_abs_+ (pos a) (pos b) = N.le_refl (a + b)
nat_abs_+ (pos a) (negsuc b) = nat_abs_sub a (suc b)
nat_abs_+ (negsuc a) (pos b) = N.le_trans (nat_abs_sub b (suc a)) (omega arith)
nat_abs_+ (negsuc a) (negsuc b) = omega arith

pub nat_abs_neg : (a : ℤ) → nat_abs (neg_ℤ a) ≡ nat_abs a
nat_abs_neg (pos zero) = refl
nat_abs_neg (pos (suc n)) = refl
nat_abs_neg (negsuc n) = refl

pub nat_abs__ : (a b : ℤ) → nat_abs (a -ℤ b) ≤ nat_abs a + nat_abs b
nat_abs__ a b = subst (λ (x : ℕ). nat_abs (a -ℤ b) ≤ nat_abs a + x) (nat_abs_neg b) (nat_abs_+ a (neg_ℤ b))

pub nat_abs_* : (a b : ℤ) → nat_abs (a *ℤ b) ≡ nat_abs a * nat_abs b
nat_abs_* (pos a) (pos b) = refl
nat_abs_* (pos a) (negsuc b) = nat_abs_neg (pos (a * suc b))
nat_abs_* (negsuc a) (pos b) = nat_abs_neg (pos (suc a * b))
nat_abs_* (negsuc a) (negsuc b) = refl

-- bounds that are known pass through sums and products
pub bound-+ : (a b : ℤ) {m n : ℕ} → nat_abs a ≤ m → nat_abs b ≤ n → nat_abs (a +ℤ b) ≤ m + n
bound-+ a b h k = N.le_trans (nat_abs_+ a b) (N.add-le-add h k)

pub bound-- : (a b : ℤ) {m n : ℕ} → nat_abs a ≤ m → nat_abs b ≤ n → nat_abs (a -ℤ b) ≤ m + n
bound-- a b h k = N.le_trans (nat_abs__ a b) (N.add-le-add h k)

pub bound-* : (a b : ℤ) {m n : ℕ} → nat_abs a ≤ m → nat_abs b ≤ n → nat_abs (a *ℤ b) ≤ m * n
bound-* a b h k = N.le_trans (N.le_of_eq (nat_abs_* a b)) (N.mul-le-mul h k)

-- |z| ≤ B is -B ≤ z ≤ B
abs_le_cases : (z : ℤ) (m : ℕ) → z ≤ℤ pos m → neg_ℤ (pos m) ≤ℤ z → nat_abs z ≤ m
abs_le_cases (pos n) m h k = pos_le h
abs_le_cases (negsuc n) zero h k = absurd k.le
abs_le_cases (negsuc n) (suc m) h k = suc-le-suc (leb→le n m k.le)

pub nat_abs_le_of : {z : ℤ} {m : ℕ} → z ≤ℤ pos m → neg_ℤ (pos m) ≤ℤ z → nat_abs z ≤ m
nat_abs_le_of {z} {m} h k = abs_le_cases z m h k

pub le_nat_abs : (z : ℤ) → z ≤ℤ pos (nat_abs z)
le_nat_abs (pos n) = ≤ℤ_refl (pos n)
le_nat_abs (negsuc n) = le_z_yes tt

pub neg_nat_abs_le : (z : ℤ) → neg_ℤ (pos (nat_abs z)) ≤ℤ z
neg_nat_abs_le z = subst (λ (x : ℤ). neg_ℤ (pos (nat_abs z)) ≤ℤ x) (neg_ℤ-neg_ℤ z)
    (negℤ-mono (subst (λ (x : ℕ). neg_ℤ z ≤ℤ pos x) (nat_abs_neg z) (le_nat_abs (neg_ℤ z))))

-- a square is that of the magnitude, and the smaller of two squares is that of the smaller
pub nat_abs_sq : (z : ℤ) → z *ℤ z ≡ pos (nat_abs z * nat_abs z)
nat_abs_sq (pos n) = refl
nat_abs_sq (negsuc n) = refl

root : (a b : ℕ) → a * a ≤ b * b → a ≤ b
root a b h = go (ltb b a) refl
  where
    go : (t : Bool) → ltb b a ≡ t → a ≤ b
    go true e =
        let l : b < a = ltb-true b a e in
        absurd (N.not-le_of_lt (N.lt_of_le_of_lt (N.mul-le-mul_right b (N.le_of_lt l)) (N.mul-lt-mul_of_pos_left l (N.lt_of_le_of_lt zero-le l))) h)
    go false e = ltb-false b a e

pub abs_by_square : (e m : ℤ) → pos 0 ≤ℤ m → (e *ℤ e) ≤ℤ (m *ℤ m) → pos (nat_abs e) ≤ℤ m
abs_by_square e m p h =
    let n = nat_of m p in
    subst (λ (x : ℤ). pos (nat_abs e) ≤ℤ x) (sym n.1)
    (pos_mono (root (nat_abs e) n.0 (pos_le (subst₂ (λ (x z : ℤ). x ≤ℤ z) (nat_abs_sq e) (ap (λ (x : ℤ). x *ℤ x) n.1) h))))
