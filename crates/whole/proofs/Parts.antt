-- Parts of a finite sum: one term, a first part and the rest, a window outside which the terms are 0, the other way round. For instance
-- `sum_split 2 3 f : sum (2 + 3) f ≡ sum 2 f +ℤ sum 3 (λ i. f (2 + i))`.
use mathlib.Core.Path.{◌≡◌, refl, sym, ap, ap₂, ◌∙◌}
use mathlib.Core.Logic.{◌≢◌}
use Prim.Native.Nat.{ℕ, zero, suc, ◌+◌, ◌-◌, ◌≤◌, ◌<◌}
use native.Mathlib.Nat as N
use native.Mathlib.Decide.{ℕ_discrete}
use native.Mathlib.Omega.{arith}
use lib.IntN.{ℤ, pos, ◌+ℤ◌, +ℤ_comm, +ℤ_assoc, +ℤ_idl, +ℤ_idr}
use lib.Signed.{◌≤ℤ◌}
use Rattle.whole.specs.Sum.{sum}
use Rattle.whole.proofs.Order.{≤ℤ-trans, ≤ℤ-by}
use Rattle.whole.proofs.Sums.{sum_suc, sum_ext, sum_vanish, sum_nonneg}

-- one term only
pub sum_one : (n k : ℕ) {f : ℕ → ℤ} → k < n → ((i : ℕ) → i < n → i ≢ k → f i ≡ pos 0) → sum n f ≡ f k
unfolding sum
sum_one zero k h z = absurd (N.not-suc-le-zero h)
sum_one (suc n) k {f} h z = go (ℕ_discrete n k) (sum_one n k {f = f})
  where
    last : n ≡ k → sum n f +ℤ f n ≡ f k
    last e =
        ap (λ (x : ℤ). x +ℤ f n) (sum_vanish n {f = f} (λ i l. z i (N.le_step l) (λ q. N.ne_of_lt l (q ∙ sym e))))
        ∙ +ℤ_idl (f n) ∙ ap f e

    go : Dec (n ≡ k) → (k < n → ((i : ℕ) → i < n → i ≢ k → f i ≡ pos 0) → sum n f ≡ f k) → sum n f +ℤ f n ≡ f k
    go (yes e) ih = last e
    go (no e) ih =
        ap₂ ◌+ℤ◌ (ih (below h e) (λ i l. z i (N.le_step l))) (z n (N.le_refl (suc n)) e) ∙ +ℤ_idr (f k)
      where
        below : k < suc n → n ≢ k → k < n
        below p q = omega arith

pub sum_split : (m n : ℕ) (f : ℕ → ℤ) → sum (m + n) f ≡ sum m f +ℤ sum n (λ i. f (m + i))
unfolding sum
sum_split m zero f = ap (λ (k : ℕ). sum k f) (N.add-zero m) ∙ sym (+ℤ_idr (sum m f))
sum_split m (suc n) f =
    ap (λ (k : ℕ). sum k f) (N.add-suc m n) ∙ ap (λ (x : ℤ). x +ℤ f (m + n)) (sum_split m n f) ∙ +ℤ_assoc (sum m f) (sum n (λ i. f (m + i))) (f (m + n))

pub sum_head : (n : ℕ) (f : ℕ → ℤ) → sum (suc n) f ≡ f 0 +ℤ sum n (λ i. f (suc i))
unfolding sum
sum_head zero f = +ℤ_comm (pos 0) (f 0)
sum_head (suc n) f = ap (λ (x : ℤ). x +ℤ f (suc n)) (sum_head n f) ∙ +ℤ_assoc (f 0) (sum n (λ i. f (suc i))) (f (suc n))

-- f is 0 outside k .. k + len
pub sum_window : (n k len : ℕ) {f : ℕ → ℤ} → k + len ≤ n → ((i : ℕ) → i < k → f i ≡ pos 0) → ((i : ℕ) → k + len ≤ i → i < n → f i ≡ pos 0)
    → sum n f ≡ sum len (λ i. f (k + i))
sum_window n k len {f} h before after =
    ap (λ (m : ℕ). sum m f) whole
    ∙ sum_split (k + len) (n - (k + len)) f
    ∙ ap₂ ◌+ℤ◌ (sum_split k len f) (sum_vanish (n - (k + len)) (λ i l. after (k + len + i) (N.le-add_right (k + len) i) (inside i l)))
    ∙ +ℤ_idr (sum k f +ℤ sum len (λ i. f (k + i)))
    ∙ ap (λ (x : ℤ). x +ℤ sum len (λ i. f (k + i))) (sum_vanish k before)
    ∙ +ℤ_idl (sum len (λ i. f (k + i)))
  where
    whole : n ≡ k + len + (n - (k + len))
    whole = omega arith

    inside : (i : ℕ) → i < n - (k + len) → k + len + i < n
    inside i l = omega arith

-- the other way round
pub sum_reverse : (n : ℕ) (f : ℕ → ℤ) → sum n (λ i. f (n - suc i)) ≡ sum n f
unfolding sum
sum_reverse zero f = refl
sum_reverse (suc n) f =
    sum_head n (λ i. f (suc n - suc i))
    ∙ ap₂ ◌+ℤ◌ (ap f last) (sum_ext n (λ i. ap f (N.suc-sub-suc n (suc i))) ∙ sum_reverse n f)
    ∙ +ℤ_comm (f n) (sum n f)
  where
    last : suc n - suc 0 ≡ n
    last = omega arith

-- more terms that are not negative
pub sum_longer : (m n : ℕ) {f : ℕ → ℤ} → m ≤ n → ((i : ℕ) → i < n → pos 0 ≤ℤ f i) → sum m f ≤ℤ sum n f
sum_longer m n {f} h k =
    ≤ℤ-by (sum (n - m) (λ i. f (m + i))) (sum_nonneg (n - m) (λ i l. k (m + i) (inside i l)))
    (ap (λ (x : ℕ). sum x f) whole ∙ sum_split m (n - m) f)
  where
    whole : n ≡ m + (n - m)
    whole = omega arith

    inside : (i : ℕ) → i < n - m → m + i < n
    inside i l = omega arith

-- no term is above a sum of which none is negative
pub term_in_sum : (n : ℕ) {f : ℕ → ℤ} → ((i : ℕ) → i < n → pos 0 ≤ℤ f i) → (i : ℕ) → i < n → f i ≤ℤ sum n f
term_in_sum n {f} h i k =
    ≤ℤ-trans (≤ℤ-by (sum i f) (sum_nonneg i (λ m l. h m (N.lt_trans l k))) (sum_suc i f ∙ +ℤ_comm (sum i f) (f i))) (sum_longer (suc i) n k h)
