-- Facts about differences, for any row, order and stride. `difference_is_form` makes a difference a form of `Problem`. What a cell gets back from all
-- differences is `returned`; where start f is f, `returned_is_gathered F p i (λ f l. refl)` says that it is `gathered`, one number for each coefficient,
-- and `gathered_size` how large that can be.
use mathlib.Core.Path.{◌≡◌, refl, sym, ap, ◌∙◌}
use mathlib.Core.Bool.{Bool, true, false, cond}
use Prim.Native.Nat.{ℕ, suc, ◌+◌, ◌-◌, ◌*◌, ◌≤◌, ◌<◌, zero-le, suc-le-suc}
use native.Mathlib.Nat as N
use native.Mathlib.Omega.{arith}
use borrow.Author.Tests.{leb-true, leb-false, ltb-true, ltb-false}
use lib.Dec.{leb, ltb}
use lib.IntN.{ℤ, pos, nat_abs, ◌+ℤ◌, ◌*ℤ◌, *ℤ_comm, zero-*ℤ, +ℤ_idr}
use Rattle.whole.specs.Sum.{sum, sumℕ, only}
use Rattle.whole.proofs.Ring.{*ℤ-+ℤ}
use Rattle.whole.proofs.Sums.{sum_cong, sum_ext, sum_vanish, sum-+, sum-*l, sum-*r, sum_swap, sum_adjoint}
use Rattle.whole.proofs.Parts.{sum_one}
use Rattle.whole.proofs.Rows.{only_same, only_other, only_times, coefficient_at, coefficient_off, row_value, sum_size}
use Rattle.certificate.specs.Problem.{squared}
use Rattle.certificate.specs.Differences.{Family, Inside, Consecutive, cell_of, difference, coefficient, earlier, gathered}
use Rattle.certificate.specs.Promises.{DifferenceIsForm, CoefficientAtPlace, CoefficientElsewhere, ExchangedSums, ReturnedByRow, ReturnedIsGathered, ShiftUnseen}

-- ---- a difference as a form

pub difference_is_form : DifferenceIsForm
difference_is_form F n f x h = row_value (suc F.order) (cell_of F f) F.row n x below
  where
    below : (m : ℕ) → m < suc F.order → F.start f + m * F.stride < n
    below m l = omega (arith, N.mul-le-mul_right F.stride (N.le_of_suc-le-suc l))

pub coefficient_at_place : CoefficientAtPlace
coefficient_at_place F f m h l =
    coefficient_at (suc F.order) (cell_of F f) F.row m (suc-le-suc l)
    (λ j k e. N.eq_of_mul-eq-mul_right F.stride h j m (N.add_left_cancel (F.start f) e))

pub coefficient_elsewhere : CoefficientElsewhere
coefficient_elsewhere F f i h = coefficient_off (suc F.order) (cell_of F f) F.row i (λ m l. h m (N.le_of_suc-le-suc l))

-- ---- what a cell gets back

pub exchanged_sums : ExchangedSums
exchanged_sums F n p x h =
    sum_cong F.count (λ f l. ap (λ (z : ℤ). p f *ℤ z) (sym (difference_is_form F n f x (h f l))))
    ∙ sum_adjoint n F.count p (coefficient F) x

pub returned_by_row : ReturnedByRow
returned_by_row F p i =
    sum_ext F.count (λ f. sym (sum-*l (suc F.order) (p f) (λ m. only (cell_of F f m) (F.row m) i)))
    ∙ sum_swap F.count (suc F.order) (λ f m. p f *ℤ only (cell_of F f m) (F.row m) i)
    ∙ sum_ext (suc F.order)
    (λ m. sum_ext F.count (λ f. turned (cell_of F f m) (p f) (F.row m)) ∙ sum-*l F.count (F.row m) (λ f. only (cell_of F f m) (p f) i))
  where
    turned : (k : ℕ) (q r : ℤ) → q *ℤ only k r i ≡ r *ℤ only k q i
    turned k q r = sym (only_times k q r i) ∙ ap (λ (z : ℤ). only k z i) (*ℤ_comm q r) ∙ only_times k r q i

-- of the differences that use the cell i with the coefficient k cells on, there is one at most: that which starts k cells before i
module _ (F : Family) (c : Consecutive F) (p : ℕ → ℤ) (i k : ℕ) where
  one_earlier : sum F.count (λ f. only (F.start f + k) (p f) i) ≡ earlier p F.count i k
  one_earlier = go (leb k i) (ltb (i - k) F.count) refl refl
    where
      other : (f : ℕ) → f < F.count → (i ≡ f + k → ⊥) → only (F.start f + k) (p f) i ≡ pos 0
      other f l h = only_other (F.start f + k) (p f) i (λ e. h (e ∙ ap (λ (s : ℕ). s + k) (c f l)))

      go : (a b : Bool) → leb k i ≡ a → ltb (i - k) F.count ≡ b
          → sum F.count (λ f. only (F.start f + k) (p f) i) ≡ cond a (cond b (p (i - k)) (pos 0)) (pos 0)
      go true true a b =
          sum_one F.count (i - k) {f = λ f. only (F.start f + k) (p f) i} (ltb-true (i - k) F.count b) (λ f l n. other f l (λ e. n (alone f e)))
          ∙ ap (λ (s : ℕ). only s (p (i - k)) i) (ap (λ (s : ℕ). s + k) (c (i - k) (ltb-true (i - k) F.count b)) ∙ back)
          ∙ only_same i (p (i - k))
        where
          alone : (f : ℕ) → i ≡ f + k → f ≡ i - k
          alone f e = omega arith

          back : i - k + k ≡ i
          back = omega (arith, leb-true k i a)
      go true false a b = sum_vanish F.count (λ f l. other f l (late f l))
        where
          late : (f : ℕ) → f < F.count → i ≡ f + k → ⊥
          late f l e = omega (arith, ltb-false (i - k) F.count b)
      go false t a b = sum_vanish F.count (λ f l. other f l (early f))
        where
          early : (f : ℕ) → i ≡ f + k → ⊥
          early f e = omega (arith, leb-false k i a)

pub returned_is_gathered : ReturnedIsGathered
returned_is_gathered F p i c =
    returned_by_row F p i ∙ sum_ext (suc F.order) (λ m. ap (λ (z : ℤ). F.row m *ℤ z) (one_earlier F c p i (m * F.stride)))

-- ---- a shift

pub shift_unseen : ShiftUnseen
shift_unseen F x c f h =
    sum_ext (suc F.order) (λ m. *ℤ-+ℤ (F.row m) (x (cell_of F f m)) c)
    ∙ sum-+ (suc F.order) (λ m. F.row m *ℤ x (cell_of F f m)) (λ m. F.row m *ℤ c)
    ∙ ap (λ (z : ℤ). difference F x f +ℤ z) (sum-*r (suc F.order) F.row c ∙ ap (λ (z : ℤ). z *ℤ c) h ∙ zero-*ℤ c)
    ∙ +ℤ_idr (difference F x f)

-- ---- in a problem whose forms are a family's differences

module _ (F : Family) (n : ℕ) (within : Inside F n) (κ v : ℕ → ℤ) where
  -- the smoothness of the loss
  pub smooth_loss : sum F.count (λ f. κ f *ℤ squared (sum n (λ i. coefficient F f i *ℤ v i)))
      ≡ sum F.count (λ f. κ f *ℤ squared (difference F v f))
  smooth_loss = sum_cong F.count (λ f l. ap (λ (x : ℤ). κ f *ℤ squared x) (difference_is_form F n f v (within f l)))

-- ---- size

-- of values of magnitude c at most, by the magnitudes of the row
pub difference_size : (F : Family) (x : ℕ → ℤ) (f c : ℕ) → ((m : ℕ) → m ≤ F.order → nat_abs (x (cell_of F f m)) ≤ c)
    → nat_abs (difference F x f) ≤ sumℕ (suc F.order) (λ m. nat_abs (F.row m)) * c
difference_size F x f c h = sum_size (suc F.order) F.row (λ m. x (cell_of F f m)) c (λ m l. h m (N.le_of_suc-le-suc l))

pub gathered_size : (F : Family) (p : ℕ → ℤ) (i c : ℕ) → ((f : ℕ) → f < F.count → nat_abs (p f) ≤ c)
    → nat_abs (gathered F p i) ≤ sumℕ (suc F.order) (λ m. nat_abs (F.row m)) * c
gathered_size F p i c h =
    sum_size (suc F.order) F.row (λ m. earlier p F.count i (m * F.stride)) c
    (λ m l. small (leb (m * F.stride) i) (ltb (i - m * F.stride) F.count) (i - m * F.stride) refl)
  where
    small : (a b : Bool) (f : ℕ) → ltb f F.count ≡ b → nat_abs (cond a (cond b (p f) (pos 0)) (pos 0)) ≤ c
    small true true f e = h f (ltb-true f F.count e)
    small true false f e = zero-le
    small false b f e = zero-le
