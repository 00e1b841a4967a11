-- The rule of the difference rows, by one computed test of the whole table each: coefficients of 6 at most, rows that come to 0, magnitudes that come to 16
-- at most, and rows that are themselves up to sign when they are read backwards.
use Prim.Native.Nat.{ℕ, zero, suc, ◌≤◌}
use mathlib.Core.Path.{◌≡◌, ap}
use mathlib.Core.Bool.{Bool, false}
use native.Mathlib.Omega.{arith}
use lib.Dec.{T, leb, leb→le, eqb, eqb→eq}
use lib.IntN.{ℤ, pos, negsuc, neg_ℤ, nat_abs, ◌-ℤ◌, ◌*ℤ◌}
use Rattle.whole.specs.Sum.{sum, sumℕ}
use Rattle.whole.specs.Turned.{from_last}
use Rattle.whole.proofs.Ring.{eq_of_sub}
use Rattle.whole.proofs.Tested.{below, below_at}
use Rattle.rows.specs.Rows.{row_of}

small_row : ℕ → Bool
small_row z = below 5 (λ m. leb (nat_abs (row_of z m)) 6)

pub row_small : (z m : ℕ) → z ≤ 4 → m ≤ 4 → nat_abs (row_of z m) ≤ 6
unfolding small_row row_of
row_small z m h k =
    leb→le (nat_abs (row_of z m)) 6
    (below_at 5 (λ m. leb (nat_abs (row_of z m)) 6) (below_at 5 small_row tt z (omega arith)) m (omega arith))

abbrev is_zero : ℤ → Bool
is_zero (pos n) = eqb n 0
is_zero (negsuc n) = false

zero_is : (x : ℤ) → T (is_zero x) → x ≡ pos 0
zero_is (pos n) t = ap pos (eqb→eq n 0 t)
zero_is (negsuc n) t = absurd t

-- a row of an order from 1 on comes to 0
pub row_sum : (z : ℕ) → 1 ≤ z → z ≤ 4 → sum (suc z) (row_of z) ≡ pos 0
unfolding row_of sum
row_sum zero h k = absurd (omega arith)
row_sum (suc z) h k = zero_is (sum (suc (suc z)) (row_of (suc z))) (below_at 4 (λ z. is_zero (sum (suc (suc z)) (row_of (suc z)))) tt z (omega arith))

pub row_size : (z : ℕ) → z ≤ 4 → sumℕ (suc z) (λ m. nat_abs (row_of z m)) ≤ 16
unfolding row_of sumℕ
row_size z h =
    leb→le (sumℕ (suc z) (λ m. nat_abs (row_of z m))) 16 (below_at 5 (λ z. leb (sumℕ (suc z) (λ m. nat_abs (row_of z m))) 16) tt z (omega arith))

-- and below order 4 to 8
pub less_size : (z : ℕ) → z ≤ 3 → sumℕ (suc z) (λ m. nat_abs (row_of z m)) ≤ 8
unfolding row_of sumℕ
less_size z h =
    leb→le (sumℕ (suc z) (λ m. nat_abs (row_of z m))) 8 (below_at 4 (λ z. leb (sumℕ (suc z) (λ m. nat_abs (row_of z m))) 8) tt z (omega arith))

-- ---- read backwards

-- 1 for an even order, -1 for an odd one
abbrev pub sign_of : (z : ℕ) → ℤ
sign_of zero = pos 1
sign_of (suc z) = neg_ℤ (sign_of z)

pub sign_squared : (z : ℕ) → z ≤ 4 → sign_of z *ℤ sign_of z ≡ pos 1
sign_squared z h =
    eq_of_sub (sign_of z *ℤ sign_of z) (pos 1)
    (zero_is (sign_of z *ℤ sign_of z -ℤ pos 1) (below_at 5 (λ z. is_zero (sign_of z *ℤ sign_of z -ℤ pos 1)) tt z (omega arith)))

backwards_row : ℕ → Bool
backwards_row z = below (suc z) (λ m. is_zero (row_of z (from_last (suc z) m) -ℤ sign_of z *ℤ row_of z m))

pub row_backwards : (z m : ℕ) → z ≤ 4 → m ≤ z → row_of z (from_last (suc z) m) ≡ sign_of z *ℤ row_of z m
unfolding backwards_row row_of
row_backwards z m h k =
    eq_of_sub (row_of z (from_last (suc z) m)) (sign_of z *ℤ row_of z m)
    (zero_is (row_of z (from_last (suc z) m) -ℤ sign_of z *ℤ row_of z m)
    (below_at (suc z) (λ m. is_zero (row_of z (from_last (suc z) m) -ℤ sign_of z *ℤ row_of z m)) (below_at 5 backwards_row tt z (omega arith)) m (omega arith)))
