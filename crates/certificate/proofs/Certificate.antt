-- The theorem: nothing of what the expansion leaves over is negative, so d²(F - G) is at most the scaled loss. `lower_bound P v y t C d X h M` is that
-- inequality for the problem P and the table X / d.
use mathlib.Core.Path.{◌≡◌, refl, sym, ap, ap₂, ◌∙◌}
use Prim.Native.Nat.{ℕ}
use lib.IntN.{ℤ, pos, ◌+ℤ◌, ◌-ℤ◌, ◌*ℤ◌}
use lib.Signed.{◌≤ℤ◌}
use Rattle.whole.specs.Sum.{sum}
use Rattle.whole.proofs.Solve.{num, ◌⊖◌, ◌⊗◌, ◌≗◌, ring}
use Rattle.whole.proofs.Ring.{*ℤ-+ℤ, *ℤ-lcomm}
use Rattle.whole.proofs.Order.{≤ℤ-by, ≤ℤ-sub, ≤ℤ-trans, +ℤ-nonneg, *ℤ-nonneg, sq_nonneg, pos_nonneg}
use Rattle.whole.proofs.Sums.{sum_ext, sum-*l, sum_nonneg}
use Rattle.certificate.specs.Problem.{squared, form, rough}
use Rattle.certificate.specs.Promises.{LowerBound, ScaledByOne, ScaledAlike}
use Rattle.certificate.proofs.Cell.{excess_nonneg}
use Rattle.certificate.proofs.Expansion.{over_cells, over_forms, over_links, expansion}

pub lower_bound : LowerBound
lower_bound P v y t C d X h M =
    ≤ℤ-by (over_cells P v d X y t +ℤ (over_forms P v d X y t +ℤ d *ℤ over_links P v d X y t))
    (+ℤ-nonneg
    (sum_nonneg P.n (λ i k. excess_nonneg d (X i) (C.cells i k) (C.signs.weights i k) d≥0 (M.floors i k) (M.ceilings i k)))
    (+ℤ-nonneg
    (sum_nonneg P.m (λ f k. *ℤ-nonneg (C.signs.constants f k) (sq_nonneg (form P f (λ i. X i -ℤ d *ℤ v i)))))
    (*ℤ-nonneg d≥0 (sum_nonneg P.p (λ j k. *ℤ-nonneg (C.signs.multipliers j k) (≤ℤ-sub (M.links j k)))))))
    (expansion P v d X y t)
  where
    d≥0 : pos 0 ≤ℤ d
    d≥0 = ≤ℤ-trans (pos_nonneg 1) h

-- ---- the scale

pub scaled_by_one : ScaledByOne
scaled_by_one P v =
    ap₂ ◌+ℤ◌
    (sum_ext P.n (λ i. ring 3 (λ w v u. w ⊗ ((v ⊖ num 1 ⊗ u) ⊗ (v ⊖ num 1 ⊗ u)) ≗ w ⊗ ((v ⊖ u) ⊗ (v ⊖ u))) tt (P.w i) (v i) (P.u i)))
    refl

pub scaled_alike : ScaledAlike
scaled_alike P k d X =
    ap₂ ◌+ℤ◌
    (sum_ext P.n
    (λ i.
    ring 5 (λ k w x d u. w ⊗ ((k ⊗ x ⊖ k ⊗ d ⊗ u) ⊗ (k ⊗ x ⊖ k ⊗ d ⊗ u)) ≗ k ⊗ k ⊗ (w ⊗ ((x ⊖ d ⊗ u) ⊗ (x ⊖ d ⊗ u)))) tt k (P.w i) (X i) d (P.u i))
    ∙ sum-*l P.n (k *ℤ k) (λ i. P.w i *ℤ squared (X i -ℤ d *ℤ P.u i)))
    (sum_ext P.m
    (λ f. ap (λ (x : ℤ). P.κ f *ℤ squared x) (longer f) ∙ ring 3 (λ k c x. c ⊗ (k ⊗ x ⊗ (k ⊗ x)) ≗ k ⊗ k ⊗ (c ⊗ (x ⊗ x))) tt k (P.κ f) (form P f X))
    ∙ sum-*l P.m (k *ℤ k) (λ f. P.κ f *ℤ squared (form P f X)))
    ∙ sym
    (*ℤ-+ℤ (k *ℤ k) (sum P.n (λ i. P.w i *ℤ squared (X i -ℤ d *ℤ P.u i))) (rough P X))
  where
    longer : (f : ℕ) → form P f (λ i. k *ℤ X i) ≡ k *ℤ form P f X
    longer f = sum_ext P.n (λ i. *ℤ-lcomm (P.a f i) k (X i)) ∙ sum-*l P.n k (λ i. P.a f i *ℤ X i)
