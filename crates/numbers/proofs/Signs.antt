-- Signed numbers: what a test of a signed local tells, a number taken apart by its sign, and that the stored form is one to one, both ways.
use Prim.Native.Nat.{ℕ, zero, suc, ◌+◌, ◌*◌, ◌/◌, ◌%◌, ◌^◌, ◌≤◌, ◌<◌}
use mathlib.Core.Path.{◌≡◌, refl, ap, ◌∙◌}
use mathlib.Core.Bool.{Bool, true, false}
use native.Mathlib.Nat.{zero-add}
use native.Mathlib.Omega.{arith}
use borrow.Author.Tests.{ltb-true, eq-eqb, ne_eqb, eqb-true, eqb-false, le-ltb}
use lib.Dec.{eqb}
use lib.IntN.{ℤ, pos, negsuc, nat_abs, ◌-ℤ◌}
use lib.Signed.{mag, lt_z}
use mir.Syntax.{w64}
use mir.Val.{SFits, to_z, of_z}
use mir.Facts.{to_z-of_z, to_z_pos, to_z-neg}
use Rattle.numbers.specs.declared.zigzag.Sign.TheVariants.{Plus, Minus}
use Rattle.std.specs.Prelude.{if◌then◌else◌}
use Rattle.numbers.specs.Zigzag.{stored_of, signed_of, sign_of}
use Rattle.numbers.specs.Promises.{SignsReadBack, SignsWrittenBack}
use Rattle.numbers.proofs.Clash.{clash}

pub minus_one_pos : (n : ℕ) → negsuc 0 -ℤ pos n ≡ negsuc n
minus_one_pos zero = refl
minus_one_pos (suc n) = rw zero-add

pub below_is : (n : ℕ) → n < 2 ^ 63 → to_z w64 (of_z w64 (negsuc 0 -ℤ to_z w64 n)) ≡ negsuc n
below_is n h =
    ap (λ (z : ℤ). to_z w64 (of_z w64 (negsuc 0 -ℤ z))) (to_z_pos w64 h) ∙ ap (λ (z : ℤ). to_z w64 (of_z w64 z)) (minus_one_pos n) ∙ to_z-neg w64 n h

minus_one_neg : (n : ℕ) → negsuc 0 -ℤ negsuc n ≡ pos n
minus_one_neg n = rw (le-ltb (suc n) 1 (omega arith)) (ap pos (omega arith))

below_zero : (x : ℤ) → lt_z x (pos 0) ≡ true → x ≡ negsuc (mag x)
below_zero (pos n) e = absurd (omega (arith, ltb-true n 0 e))
below_zero (negsuc n) e = refl

not_below : (x : ℤ) → lt_z x (pos 0) ≡ false → x ≡ pos (mag x)
not_below (pos n) e = refl
not_below (negsuc n) e = clash (cc)

-- a signed local that is tested against 0
module _ (x : ℤ) (f : SFits w64 x) where
  pub is_neg : lt_z (to_z w64 (of_z w64 x)) (pos 0) ≡ true → x ≡ negsuc (mag x)
  is_neg e = below_zero x (rw (to_z-of_z {w = w64} {z = x} f) at e)

  pub is_pos : lt_z (to_z w64 (of_z w64 x)) (pos 0) ≡ false → x ≡ pos (mag x)
  is_pos e = not_below x (rw (to_z-of_z {w = w64} {z = x} f) at e)

  pub flipped : lt_z (to_z w64 (of_z w64 x)) (pos 0) ≡ true → negsuc 0 -ℤ to_z w64 (of_z w64 x) ≡ pos (mag x)
  flipped e = ap (λ (z : ℤ). negsuc 0 -ℤ z) (to_z-of_z {w = w64} {z = x} f ∙ is_neg e) ∙ minus_one_neg (mag x)

-- a number taken apart
pub plus_is : (x : ℤ) (n : ℕ) → sign_of x ≡ Plus n → x ≡ pos n
plus_is (pos m) n e = cc
plus_is (negsuc m) n e = clash (cc)

pub minus_is : (x : ℤ) (n : ℕ) → sign_of x ≡ Minus n → x ≡ negsuc n
minus_is (pos m) n e = clash (cc)
minus_is (negsuc m) n e = cc

-- ---- the stored form is one to one

pub signs_read_back : SignsReadBack
signs_read_back (pos n) = rw (eq-eqb (n * 2 % 2) 0 (omega arith)) (ap pos (omega arith))
signs_read_back (negsuc n) = rw (ne_eqb ((n * 2 + 1) % 2) 0 (omega arith)) (ap negsuc (omega arith))

pub signs_written_back : SignsWrittenBack
signs_written_back raw = go (eqb (raw % 2) 0) refl
  where
    go : (t : Bool) → eqb (raw % 2) 0 ≡ t → stored_of (if t then pos (raw / 2) else negsuc (raw / 2)) ≡ raw
    go true e = omega (arith, eqb-true (raw % 2) 0 e)
    go false e = omega (arith, eqb-false (raw % 2) 0 e)

-- the numbers from -most to most are stored as 0 to twice the most
pub stored_most : (x : ℤ) (most : ℕ) → nat_abs x ≤ most → stored_of x ≤ 2 * most
stored_most (pos n) most h = omega arith
stored_most (negsuc n) most h = omega arith

pub signed_most : (raw most : ℕ) → raw ≤ 2 * most → nat_abs (signed_of raw) ≤ most
signed_most raw most h = go (eqb (raw % 2) 0) refl
  where
    go : (t : Bool) → eqb (raw % 2) 0 ≡ t → nat_abs (if t then pos (raw / 2) else negsuc (raw / 2)) ≤ most
    go true e = omega (arith, eqb-true (raw % 2) 0 e)
    go false e = omega (arith, eqb-false (raw % 2) 0 e)
