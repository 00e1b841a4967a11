-- The whole entries of the band: that each fits 64 bits and is held exactly by an f64, and what the code's signed locals read back as.
use Rattle.std.proofs.Common.{◌≡◌, ℕ, suc, ◌+◌, ◌-◌, ◌*◌, ◌^◌, ◌<◌, ◌≤◌, Bool, true, false, T, eqb, ℤ, pos, negsuc, ◌+ℤ◌, ◌*ℤ◌, nat_abs, sym, subst, ap₂, arith, lit<, le→leb, lt→ltb, to_z-of_z, w64, SFits, to_z, of_z}
use native.Mathlib.Nat as N
use lib.Ieee.{binary64, in_float}
use Rattle.std.specs.Prelude.{if◌then◌else◌}
use Rattle.whole.proofs.Fits.{small_fits, fits_by, gives, Adds, partial_small}
use Rattle.whole.proofs.Magnitude.{bound-+, bound-*}
use Rattle.rows.specs.Rows.{row_of}
use Rattle.rows.proofs.Rule.{row_small}
use Rattle.house.specs.Band.{uses_both, product_term, squares_at, whole_entry}

-- ---- an exact cast

held : (x : ℤ) → nat_abs x ≤ 1000000000 → T (in_float binary64 x)
unfolding in_float
held (pos n) h = le→leb n (2 ^ 53) (omega arith)
held (negsuc n) h = lt→ltb n (2 ^ 53) (omega arith)

pub cast_exact : (x : ℤ) → SFits w64 x → nat_abs x ≤ 1000000000 → T (in_float binary64 (to_z w64 (of_z w64 x)))
cast_exact x f h = subst (λ (z : ℤ). T (in_float binary64 z)) (sym (to_z-of_z f)) (held x h)

-- ---- a product of two signed locals, by the numbers in them

module _ {a b x y : ℤ} (e : a ≡ x) (d : b ≡ y) {m n : ℕ} (h : nat_abs x ≤ m) (k : nat_abs y ≤ n) (mm : m < 2 ^ 63) (nn : n < 2 ^ 63) (r : m * n < 2 ^ 63) where
  both : to_z w64 (of_z w64 a) *ℤ to_z w64 (of_z w64 b) ≡ x *ℤ y
  both = ap₂ ◌*ℤ◌ (gives e (small_fits x h mm)) (gives d (small_fits y k nn))

  pub product_fits : SFits w64 (to_z w64 (of_z w64 a) *ℤ to_z w64 (of_z w64 b))
  product_fits = fits_by both (small_fits (x *ℤ y) (bound-* x y h k) r)

  pub product_is : to_z w64 (of_z w64 (to_z w64 (of_z w64 a) *ℤ to_z w64 (of_z w64 b))) ≡ x *ℤ y
  product_is = gives both (small_fits (x *ℤ y) (bound-* x y h k) r)

-- ---- K'K

term_small : (n z i o m : ℕ) → z ≤ 4 → m ≤ z → nat_abs (product_term n z i o m) ≤ 36
term_small n z i o m h k = go (uses_both n z i o m)
  where
    go : (t : Bool) → nat_abs (if t then row_of z m *ℤ row_of z (m - o) else pos 0) ≤ 36
    go true = bound-* (row_of z m) (row_of z (m - o)) (row_small z m h (omega arith)) (row_small z (m - o) h (omega arith))
    go false = omega arith

pub squares_adds : (n z i o : ℕ) → z ≤ 4 → Adds (product_term n z i o) (suc z) 36
squares_adds n z i o h = record { small = λ m k. term_small n z i o m h (omega arith); room = N.lt_of_le_of_lt (room_few z h) (lit< tt) }
  where
    room_few : (z : ℕ) → z ≤ 4 → suc z * 36 + 36 ≤ 216
    room_few z h = omega arith

pub squares_small : (n z i o : ℕ) → z ≤ 4 → nat_abs (squares_at n z i o) ≤ 180
squares_small n z i o h = N.le_trans (partial_small (squares_adds n z i o h) (suc z) (N.le_refl (suc z))) (few z h)
  where
    few : (z : ℕ) → z ≤ 4 → suc z * 36 ≤ 180
    few z h = omega arith

-- ---- an entry of A

module _ (w k s : ℤ) (hw : nat_abs w ≤ 181000) (hk : nat_abs k ≤ 1000) (hs : nat_abs s ≤ 180) where
  smooth_small : nat_abs (k *ℤ s) ≤ 180000
  smooth_small = bound-* k s hk hs

  sum_small : nat_abs (w +ℤ k *ℤ s) ≤ 361000
  sum_small = bound-+ w (k *ℤ s) hw smooth_small

  pub smooth_is : {a b : ℤ} → a ≡ k → b ≡ s → to_z w64 (of_z w64 (to_z w64 (of_z w64 a) *ℤ to_z w64 (of_z w64 b))) ≡ k *ℤ s
  smooth_is e d = product_is e d hk hs (lit< tt) (lit< tt) (lit< tt)

  pub entry_is : {a b : ℤ} → a ≡ w → b ≡ k *ℤ s → to_z w64 (of_z w64 (to_z w64 (of_z w64 a) +ℤ b)) ≡ w +ℤ k *ℤ s
  entry_is e d = gives (ap₂ ◌+ℤ◌ (gives e (small_fits w hw (lit< tt))) d) (small_fits (w +ℤ k *ℤ s) sum_small (lit< tt))

  pub entry_small : (o : ℕ) → nat_abs (whole_entry w k s o) ≤ 1000000000
  entry_small o = go (eqb o 0)
    where
      go : (t : Bool) → nat_abs (if t then w +ℤ k *ℤ s else k *ℤ s) ≤ 1000000000
      go true = N.le_trans sum_small (omega arith)
      go false = N.le_trans smooth_small (omega arith)
