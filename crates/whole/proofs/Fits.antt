-- Signed numbers of code: that a result fits its width, and what a signed local reads back as. Of an expression of code, `fits_by e f` is the need
-- that it fits and `gives e f` is what its bits read back as, where e says which number it is and f that this number fits. A loop that adds up
-- has the invariant `Holds acc (sum i t)`: with `A : Adds t n c`, `adds_fits A` is the need of its sum and `adds_next A` the invariant after it.
use Prim.Native.Nat.{ℕ, ◌+◌, ◌*◌, ◌^◌, ◌≤◌, ◌<◌}
use mathlib.Core.Path.{◌≡◌, sym, ap, ap₂, subst, ◌∙◌}
use mathlib.Core.Bool.{Bool}
use native.Mathlib.Nat as N
use lib.IntN.{ℤ, pos, negsuc, nat_abs, ◌+ℤ◌}
use lib.Signed.{mag}
use mir.Syntax.{Width, w64}
use mir.Val.{SFits, hbits, to_z, of_z}
use mir.Facts.{to_z-of_z}
use Rattle.whole.specs.Sum.{sum}
use Rattle.whole.proofs.Magnitude.{bound-+}
use Rattle.whole.proofs.Sums.{sum_step, sum_bound}

-- ---- by magnitude

mag_nat_abs : (z : ℤ) → mag z ≤ nat_abs z
mag_nat_abs (pos n) = N.le_refl n
mag_nat_abs (negsuc n) = N.le-suc n

pub sfits : (w : Width) (z : ℤ) → nat_abs z < 2 ^ hbits w → SFits w z
sfits w z h = record { sfits = N.lt_of_le_of_lt (mag_nat_abs z) h }

pub sfits64 : (z : ℤ) → nat_abs z < 2 ^ 63 → SFits w64 z
sfits64 z h = sfits w64 z h

pub small_fits : (z : ℤ) {c : ℕ} → nat_abs z ≤ c → c < 2 ^ 63 → SFits w64 z
small_fits z h k = sfits64 z (N.lt_of_le_of_lt h k)

-- ---- an expression of code, by the number that it is

pub fits_by : {w : Width} {x y : ℤ} → x ≡ y → SFits w y → SFits w x
fits_by {w} e f = subst (λ (z : ℤ). SFits w z) (sym e) f

pub gives : {w : Width} {x y : ℤ} → x ≡ y → SFits w y → to_z w (of_z w x) ≡ y
gives {w} e f = ap (λ (z : ℤ). to_z w (of_z w z)) e ∙ to_z-of_z f

-- what a test of a signed local says of the number in it
pub tested : {w : Width} {x : ℤ} → SFits w x → (f : ℤ → Bool) {t : Bool} → f (to_z w (of_z w x)) ≡ t → f x ≡ t
tested h f e = sym (ap f (to_z-of_z h)) ∙ e

-- ---- a signed local that adds up a sum

-- a signed local holds a number
pub record Holds (acc : ℕ) (z : ℤ) : Type 0 where
  pub is : to_z w64 acc ≡ z

pub holds : {z : ℤ} → SFits w64 z → Holds (of_z w64 z) z
holds f = record { is = to_z-of_z f }

-- n terms of magnitude c at most, and room for their sum
pub record Adds (t : ℕ → ℤ) (n c : ℕ) : Type 0 where
  pub small : (i : ℕ) → i < n → nat_abs (t i) ≤ c
  pub room : n * c + c < 2 ^ 63

module _ {t : ℕ → ℤ} {n c : ℕ} (A : Adds t n c) where
  pub partial_small : (i : ℕ) → i ≤ n → nat_abs (sum i t) ≤ n * c
  partial_small i h = N.le_trans (sum_bound i t c (λ k l. A.small k (N.le_trans l h))) (N.mul-le-mul_right c h)

  -- r is what the code adds in the round i
  module _ {i acc : ℕ} {r : ℤ} (h : i < n) (a : Holds acc (sum i t)) (e : r ≡ t i) where
    read : to_z w64 (of_z w64 r) ≡ t i
    read = gives e (small_fits (t i) (A.small i h) (N.lt_of_le_of_lt (N.le-add_left c (n * c)) A.room))

    pub adds_fits : SFits w64 (to_z w64 acc +ℤ to_z w64 (of_z w64 r))
    adds_fits =
        fits_by (ap₂ ◌+ℤ◌ a.is read)
        (small_fits (sum i t +ℤ t i) (bound-+ (sum i t) (t i) (partial_small i (N.le_of_lt h)) (A.small i h)) A.room)

    pub adds_next : Holds (of_z w64 (to_z w64 acc +ℤ to_z w64 (of_z w64 r))) (sum (i + 1) t)
    adds_next = record { is = to_z-of_z adds_fits ∙ ap₂ ◌+ℤ◌ a.is read ∙ sym (sum_step i t) }
