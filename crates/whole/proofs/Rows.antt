-- Rows given by their terms, and what they come to: `row_value` turns a sum over all cells into a sum over the row's terms. A row of two terms, 3 at
-- the cell 0 and -1 at the cell 4, has `coefficient_of 2 cell coef 4 ≡ negsuc 0` by `coefficient_at`, and 0 at the cell 1 by `coefficient_off`.
use mathlib.Core.Path.{◌≡◌, refl, sym, ap, ◌∙◌}
use mathlib.Core.Logic.{◌≢◌}
use Prim.Native.Nat.{ℕ, zero, suc, ◌*◌, ◌≤◌, ◌<◌}
use mathlib.Core.Bool.{Bool, true, false, cond}
use lib.Dec.{T, eqb, eqb→eq, eqb_refl}
use native.Mathlib.Nat as N
use lib.IntN.{ℤ, pos, nat_abs, ◌*ℤ◌, zero-*ℤ, *ℤ-zero}
use Rattle.whole.specs.Sum.{sum, sumℕ, only, coefficient_of}
use Rattle.whole.proofs.Magnitude.{nat_abs_+, bound-*}
use Rattle.whole.proofs.Sums.{sum_ext, sum_cong, sum_vanish, sum_swap, sum-*l, sum-*r}
use Rattle.whole.proofs.Parts.{sum_one}

pub only_same : (k : ℕ) (z : ℤ) → only k z k ≡ z
only_same k z = go (eqb k k) (eqb_refl k)
  where
    go : (b : Bool) → T b → cond b z (pos 0) ≡ z
    go true t = refl
    go false t = absurd t

pub only_other : (k : ℕ) (z : ℤ) (i : ℕ) → i ≢ k → only k z i ≡ pos 0
only_other k z i h = go (eqb k i) (λ t. h (sym (eqb→eq k i t)))
  where
    go : (b : Bool) → (T b → ⊥) → cond b z (pos 0) ≡ pos 0
    go true f = absurd (f tt)
    go false f = refl

pub sum_only : (n k : ℕ) (z : ℤ) (x : ℕ → ℤ) → k < n → sum n (λ i. only k z i *ℤ x i) ≡ z *ℤ x k
sum_only n k z x h =
    sum_one n k {f = λ i. only k z i *ℤ x i} h (λ i l q. ap (λ (y : ℤ). y *ℤ x i) (only_other k z i q) ∙ zero-*ℤ (x i))
    ∙ ap (λ (y : ℤ). y *ℤ x k) (only_same k z)

-- a factor goes in
pub only_times : (k : ℕ) (y z : ℤ) (i : ℕ) → only k (y *ℤ z) i ≡ y *ℤ only k z i
only_times k y z i = go (eqb k i)
  where
    go : (b : Bool) → cond b (y *ℤ z) (pos 0) ≡ y *ℤ cond b z (pos 0)
    go true = refl
    go false = sym (*ℤ-zero y)

-- ---- the coefficient of a cell

module _ (k : ℕ) (cell : ℕ → ℕ) (coef : ℕ → ℤ) where
  -- that of term m at its cell, if no other term names it
  pub coefficient_at : (m : ℕ) → m < k → ((j : ℕ) → j < k → cell j ≡ cell m → j ≡ m) → coefficient_of k cell coef (cell m) ≡ coef m
  coefficient_at m h alone =
      sum_one k m {f = λ j. only (cell j) (coef j) (cell m)} h (λ j l q. only_other (cell j) (coef j) (cell m) (λ e. q (alone j l (sym e))))
      ∙ only_same (cell m) (coef m)

  -- 0 at a cell that no term names
  pub coefficient_off : (i : ℕ) → ((m : ℕ) → m < k → i ≢ cell m) → coefficient_of k cell coef i ≡ pos 0
  coefficient_off i h = sum_vanish k (λ m l. only_other (cell m) (coef m) i (h m l))

  -- a factor goes into every term
  pub coefficient_times : (y : ℤ) (i : ℕ) → coefficient_of k cell (λ m. y *ℤ coef m) i ≡ y *ℤ coefficient_of k cell coef i
  coefficient_times y i = sum_ext k (λ m. only_times (cell m) y (coef m) i) ∙ sum-*l k y (λ m. only (cell m) (coef m) i)

  -- a row's value, by its terms
  pub row_value : (n : ℕ) (x : ℕ → ℤ) → ((m : ℕ) → m < k → cell m < n)
      → sum n (λ i. coefficient_of k cell coef i *ℤ x i) ≡ sum k (λ m. coef m *ℤ x (cell m))
  row_value n x h =
      sum_ext n (λ i. sym (sum-*r k (λ m. only (cell m) (coef m) i) (x i)))
      ∙ sum_swap n k (λ i m. only (cell m) (coef m) i *ℤ x i)
      ∙ sum_cong k (λ m l. sum_only n (cell m) (coef m) x (h m l))

-- ---- size

-- a sum of products is bounded by the magnitudes of one side
pub sum_size : (n : ℕ) (a x : ℕ → ℤ) (c : ℕ) → ((m : ℕ) → m < n → nat_abs (x m) ≤ c)
    → nat_abs (sum n (λ m. a m *ℤ x m)) ≤ sumℕ n (λ m. nat_abs (a m)) * c
unfolding sum sumℕ
sum_size zero a x c h = N.le_of_eq (sym (N.zero-mul c))
sum_size (suc n) a x c h =
    N.le_trans (nat_abs_+ (sum n (λ m. a m *ℤ x m)) (a n *ℤ x n))
    (N.le_trans
    (N.add-le-add (sum_size n a x c (λ m k. h m (N.le_step k))) (bound-* (a n) (x n) (N.le_refl (nat_abs (a n))) (h n (N.le_refl (suc n)))))
    (N.le_of_eq (sym (N.add-mul (sumℕ n (λ m. nat_abs (a m))) (nat_abs (a n)) c))))
