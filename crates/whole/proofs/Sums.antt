-- Finite sums: equal terms, linearity, order, size and exchange. A sum is rewritten term by term, `sum_ext n (λ i. ring ..)`, taken apart by
-- `sum-+` and `sum-*l`, and the whole is put together by one `ring` with the sums as its variables. For instance
-- `sum_adjoint n m p a x` moves the multipliers p of m rows over to the n cells.
use mathlib.Core.Path.{◌≡◌, refl, sym, ap, ap₂, ◌∙◌}
use Prim.Native.Nat.{ℕ, zero, suc, ◌+◌, ◌*◌, ◌≤◌, ◌<◌}
use native.Mathlib.Numerals.{add-one}
use native.Mathlib.Nat as N
use lib.IntN.{ℤ, pos, neg_ℤ, nat_abs, ◌+ℤ◌, ◌-ℤ◌, ◌*ℤ◌, +ℤ_idr, zero-*ℤ, *ℤ-zero, neg_ℤ-+ℤ}
use lib.Signed.{◌≤ℤ◌, ≤ℤ_refl}
use Rattle.whole.specs.Sum.{sum, sumℕ}
use Rattle.whole.proofs.Ring.{+ℤ-*ℤ, *ℤ-+ℤ, *ℤ-assoc, +ℤ-swap4}
use Rattle.whole.proofs.Order.{+ℤ-mono, +ℤ-nonneg}
use Rattle.whole.proofs.Magnitude.{nat_abs_+}

pub sum_zero : (f : ℕ → ℤ) → sum 0 f ≡ pos 0
unfolding sum
sum_zero f = refl

pub sum_suc : (n : ℕ) (f : ℕ → ℤ) → sum (suc n) f ≡ sum n f +ℤ f n
unfolding sum
sum_suc n f = refl

pub sum_step : (n : ℕ) (f : ℕ → ℤ) → sum (n + 1) f ≡ sum n f +ℤ f n
sum_step n f = ap (λ (k : ℕ). sum k f) (add-one n) ∙ sum_suc n f

-- equal terms
pub sum_cong : (n : ℕ) {f g : ℕ → ℤ} → ((i : ℕ) → i < n → f i ≡ g i) → sum n f ≡ sum n g
unfolding sum
sum_cong zero h = refl
sum_cong (suc n) {f} {g} h = ap₂ ◌+ℤ◌ (sum_cong n {f = f} {g = g} (λ i k. h i (N.le_step k))) (h n (N.le_refl (suc n)))

pub sum_ext : (n : ℕ) {f g : ℕ → ℤ} → ((i : ℕ) → f i ≡ g i) → sum n f ≡ sum n g
sum_ext n h = sum_cong n (λ i k. h i)

-- the sum of zeros
pub sum_0 : (n : ℕ) → sum n (λ i. pos 0) ≡ pos 0
unfolding sum
sum_0 zero = refl
sum_0 (suc n) = +ℤ_idr (sum n (λ i. pos 0)) ∙ sum_0 n

pub sum_vanish : (n : ℕ) {f : ℕ → ℤ} → ((i : ℕ) → i < n → f i ≡ pos 0) → sum n f ≡ pos 0
sum_vanish n h = sum_cong n h ∙ sum_0 n

-- sums of sums, differences and multiples
pub sum-+ : (n : ℕ) (f g : ℕ → ℤ) → sum n (λ i. f i +ℤ g i) ≡ sum n f +ℤ sum n g
unfolding sum
sum-+ zero f g = refl
sum-+ (suc n) f g = ap (λ (x : ℤ). x +ℤ (f n +ℤ g n)) (sum-+ n f g) ∙ +ℤ-swap4 (sum n f) (sum n g) (f n) (g n)

pub sum_neg : (n : ℕ) (f : ℕ → ℤ) → sum n (λ i. neg_ℤ (f i)) ≡ neg_ℤ (sum n f)
unfolding sum
sum_neg zero f = refl
sum_neg (suc n) f = ap (λ (x : ℤ). x +ℤ neg_ℤ (f n)) (sum_neg n f) ∙ sym (neg_ℤ-+ℤ (sum n f) (f n))

pub sum-- : (n : ℕ) (f g : ℕ → ℤ) → sum n (λ i. f i -ℤ g i) ≡ sum n f -ℤ sum n g
sum-- n f g = sum-+ n f (λ i. neg_ℤ (g i)) ∙ ap (λ (x : ℤ). sum n f +ℤ x) (sum_neg n g)

pub sum-*l : (n : ℕ) (k : ℤ) (f : ℕ → ℤ) → sum n (λ i. k *ℤ f i) ≡ k *ℤ sum n f
unfolding sum
sum-*l zero k f = sym (*ℤ-zero k)
sum-*l (suc n) k f = ap (λ (x : ℤ). x +ℤ k *ℤ f n) (sum-*l n k f) ∙ sym (*ℤ-+ℤ k (sum n f) (f n))

pub sum-*r : (n : ℕ) (f : ℕ → ℤ) (k : ℤ) → sum n (λ i. f i *ℤ k) ≡ sum n f *ℤ k
unfolding sum
sum-*r zero f k = sym (zero-*ℤ k)
sum-*r (suc n) f k = ap (λ (x : ℤ). x +ℤ f n *ℤ k) (sum-*r n f k) ∙ sym (+ℤ-*ℤ (sum n f) (f n) k)

-- order
pub sum_mono : (n : ℕ) {f g : ℕ → ℤ} → ((i : ℕ) → i < n → f i ≤ℤ g i) → sum n f ≤ℤ sum n g
unfolding sum
sum_mono zero h = ≤ℤ_refl (pos 0)
sum_mono (suc n) {f} {g} h = +ℤ-mono (sum_mono n {f = f} {g = g} (λ i k. h i (N.le_step k))) (h n (N.le_refl (suc n)))

pub sum_nonneg : (n : ℕ) {f : ℕ → ℤ} → ((i : ℕ) → i < n → pos 0 ≤ℤ f i) → pos 0 ≤ℤ sum n f
unfolding sum
sum_nonneg zero h = ≤ℤ_refl (pos 0)
sum_nonneg (suc n) {f} h = +ℤ-nonneg (sum_nonneg n {f = f} (λ i k. h i (N.le_step k))) (h n (N.le_refl (suc n)))

-- two sums exchanged
pub sum_swap : (n m : ℕ) (f : ℕ → ℕ → ℤ) → sum n (λ i. sum m (λ j. f i j)) ≡ sum m (λ j. sum n (λ i. f i j))
unfolding sum
sum_swap zero m f = sym (sum_0 m)
sum_swap (suc n) m f =
    ap (λ (x : ℤ). x +ℤ sum m (λ j. f n j)) (sum_swap n m f) ∙ sym (sum-+ m (λ j. sum n (λ i. f i j)) (λ j. f n j))

-- coefficients p over forms with coefficients a: Σ_j p j (Σ_i a j i x i) = Σ_i (Σ_j p j a j i) x i
pub sum_adjoint : (n m : ℕ) (p : ℕ → ℤ) (a : ℕ → ℕ → ℤ) (x : ℕ → ℤ)
    → sum m (λ j. p j *ℤ sum n (λ i. a j i *ℤ x i)) ≡ sum n (λ i. sum m (λ j. p j *ℤ a j i) *ℤ x i)
sum_adjoint n m p a x =
    sum_ext m (λ j. sym (sum-*l n (p j) (λ i. a j i *ℤ x i)))
    ∙ sum_swap m n (λ j i. p j *ℤ (a j i *ℤ x i))
    ∙ sum_ext n (λ i. sum_ext m (λ j. sym (*ℤ-assoc (p j) (a j i) (x i))) ∙ sum-*r m (λ j. p j *ℤ a j i) (x i))

-- ---- size

-- n terms of magnitude c at most
pub sum_bound : (n : ℕ) (f : ℕ → ℤ) (c : ℕ) → ((i : ℕ) → i < n → nat_abs (f i) ≤ c) → nat_abs (sum n f) ≤ n * c
unfolding sum
sum_bound zero f c h = N.le_of_eq (sym (N.zero-mul c))
sum_bound (suc n) f c h =
    N.le_trans (nat_abs_+ (sum n f) (f n))
    (N.le_trans (N.add-le-add (sum_bound n f c (λ i k. h i (N.le_step k))) (h n (N.le_refl (suc n)))) (N.le_of_eq (sym (N.suc-mul n c))))

-- a sum of natural numbers
pub sum_pos : (n : ℕ) (f : ℕ → ℕ) → sum n (λ i. pos (f i)) ≡ pos (sumℕ n f)
unfolding sum sumℕ
sum_pos zero f = refl
sum_pos (suc n) f = ap (λ (x : ℤ). x +ℤ pos (f n)) (sum_pos n f)
