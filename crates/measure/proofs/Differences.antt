-- Differences of any row, order and stride fit 64 bits. Those of the orders' rows have closer bounds: a row that comes to 0 does not see a shift, so
-- rates are taken from their middle, 500,000.
use Prim.Native.Nat.{ℕ, suc, ◌+◌, ◌-◌, ◌*◌, ◌≤◌, ◌<◌}
use mathlib.Core.Path.{◌≡◌, refl, sym, ap, ap₂, subst}
use mathlib.Core.Bool.{Bool, true, false, cond}
use mathlib.Core.List.{List}
use native.Mathlib.Nat as N
use native.Mathlib.Omega.{arith}
use lib.Dec.{T, lit<, leb→le, ltb, ltb→lt}
use lib.IntN.{ℤ, pos, negsuc, nat_abs, ◌+ℤ◌, ◌-ℤ◌, ◌*ℤ◌}
use lib.ListN.{length}
use mir.Syntax.{w64}
use mir.Val.{SFits}
use Rattle.whole.specs.Sum.{sumℕ, only, coefficient_of}
use Rattle.whole.proofs.Sums.{sum_ext}
use Rattle.whole.proofs.Magnitude.{bound-*}
use Rattle.whole.proofs.Fits.{small_fits, gives, Adds}
use Rattle.certificate.specs.Differences.{along, form_at}
use Rattle.certificate.proofs.Differences.{shift_unseen, difference_size}
use Rattle.jobs.specs.Words.{word_at}
use Rattle.jobs.specs.Allowed.{Upto}
use Rattle.rows.specs.Rows.{row_of, IsRow}
use Rattle.rows.proofs.Rule.{row_small, row_sum, row_size, less_size}
use Rattle.tally.proofs.Locals.{read, rate_read}
use Rattle.measure.specs.Given.{Coefficients, Differs}

-- ---- a difference of rates, by any row

pub coefficient_read : {row : List ℤ} {z m : ℕ} → Coefficients z row → m ≤ z → read (word_at row m) ≡ word_at row m
coefficient_read {row} {z} {m} C h = gives refl (small_fits (word_at row m) (C.small m h) (lit< tt))

-- a rate lies at most half the range from the middle
middle : (n : ℕ) → n ≤ 1000000 → nat_abs (pos n -ℤ pos 500000) ≤ 500000
middle n h = go (ltb n 500000) (λ t. ltb→lt n 500000 t)
  where
    go : (c : Bool) → (T c → n < 500000) → nat_abs (cond c (negsuc (500000 - suc n)) (pos (n - 500000))) ≤ 500000
    go true f = let l : n < 500000 = f tt in omega arith
    go false f = omega arith

rate_middle : (z : ℤ) → Upto 1000000 z → nat_abs (z -ℤ pos 500000) ≤ 500000
rate_middle z h = subst (λ (x : ℤ). nat_abs (x -ℤ pos 500000) ≤ 500000) (sym h.natural) (middle (nat_abs z) h.small)

module _ {row : List ℤ} {z stride i : ℕ} {v : List ℤ} (D : Differs row z stride i v) where
  pub difference_adds : Adds (λ m. word_at row m *ℤ word_at v (i + m * stride)) (suc z) 1000000000
  difference_adds = record {
    small = λ m h.
        bound-* (word_at row m) (word_at v (i + m * stride)) (D.coefficients.small m (N.le_of_suc-le-suc h)) (D.rates m (N.le_of_suc-le-suc h)).small;
    room = omega (arith, D.coefficients.few);
  }

  pub difference_cell : (m : ℕ) → m ≤ z → i + m * stride < length v
  difference_cell m h = omega (arith, N.mul-le-mul_right stride h, D.inside)

  module _ {m : ℕ} (h : m ≤ z) where
    pub difference_term_fits : SFits w64 (word_at row m *ℤ word_at v (i + m * stride))
    difference_term_fits = small_fits (word_at row m *ℤ word_at v (i + m * stride)) (difference_adds.small m (omega arith)) (lit< tt)

    -- the product of the code
    pub difference_term_is : read (word_at row m) *ℤ read (word_at v (i + m * stride)) ≡ word_at row m *ℤ word_at v (i + m * stride)
    difference_term_is = ap₂ ◌*ℤ◌ (coefficient_read D.coefficients h) (rate_read (D.rates m h))

-- ---- the rows of the orders

module _ {z : ℕ} {row : List ℤ} (R : IsRow z row) where
  pub row_coefficients : z ≤ 4 → Coefficients z row
  row_coefficients few = record {
    few = few;
    small = λ m h. subst (λ (c : ℤ). nat_abs c ≤ 1000) (sym (R.at m)) (N.le_trans (row_small z m few (omega arith)) (leb→le 6 1000 tt));
  }

  pub row_form : (stride i : ℕ) (x : ℕ → ℤ) → form_at (word_at row) z stride i x ≡ form_at (row_of z) z stride i x
  row_form stride i x = sum_ext (suc z) (λ m. ap (λ (c : ℤ). c *ℤ x (i + m * stride)) (R.at m))

  pub row_coefficient : (stride f i : ℕ) → coefficient_of (suc z) (λ m. f + m * stride) (word_at row) i ≡ coefficient_of (suc z) (λ m. f + m * stride) (row_of z) i
  row_coefficient stride f i = sum_ext (suc z) (λ m. ap (λ (c : ℤ). only (f + m * stride) c i) (R.at m))

module _ (z stride i : ℕ) (v : ℕ → ℤ) (some : 1 ≤ z) (few : z ≤ 4) (rates : (m : ℕ) → m ≤ z → Upto 1000000 (v (i + m * stride))) where
  by_rows : nat_abs (form_at (row_of z) z stride i v) ≤ sumℕ (suc z) (λ m. nat_abs (row_of z m)) * 500000
  by_rows =
      subst (λ (d : ℤ). nat_abs d ≤ sumℕ (suc z) (λ m. nat_abs (row_of z m)) * 500000)
      (shift_unseen (along (row_of z) z stride 0) v (negsuc 499999) i (row_sum z some few))
      (difference_size (along (row_of z) z stride 0) (λ k. v k +ℤ negsuc 499999) i 500000 (λ m h. rate_middle (v (i + m * stride)) (rates m h)))

  pub difference_small : nat_abs (form_at (row_of z) z stride i v) ≤ 8000000
  difference_small = N.le_trans by_rows (N.mul-le-mul_right 500000 (row_size z few))

  -- of an order below 4
  pub difference_less : z ≤ 3 → nat_abs (form_at (row_of z) z stride i v) ≤ 4000000
  difference_less h = N.le_trans by_rows (N.mul-le-mul_right 500000 (less_size z h))
