-- How far off a table can be (W-208). The middle of X / d and v, (X + d v) / 2d, is off from v by as much as X / d is, in parts half as large. It meets the
-- problem, so the theorem holds there; and its loss is taken apart at v as that of X is, with twice the slope. What remains is the bound (`off_by_lem`).
use mathlib.Core.Path.{◌≡◌, refl, sym, ap, ap₂, subst, fun_ext, ◌∙◌}
use Prim.Native.Nat.{ℕ, ◌<◌}
use lib.IntN.{ℤ, pos, ◌+ℤ◌, ◌-ℤ◌, ◌*ℤ◌}
use lib.Signed.{◌≤ℤ◌}
use Rattle.whole.proofs.Solve.{num, ◌⊕◌, ◌⊖◌, ◌⊗◌, ◌≗◌, ring}
use Rattle.whole.proofs.Order.{≤ℤ-trans, ≤ℤ-by, ≤ℤ-of-mul, *ℤ-nonneg, sq_nonneg, pos_nonneg}
use Rattle.whole.proofs.Inequality.{◌⊑◌, ◌⇒◌, ◌by◌, hyp, nat, sqr, ◌⊞◌, ◌⊠◌, ineq}
use Rattle.whole.proofs.Magnitude.{abs_by_square}
use Rattle.whole.proofs.Sums.{sum_cong, sum_ext, sum_nonneg}
use Rattle.whole.proofs.Parts.{term_in_sum}
use Rattle.certificate.specs.Problem.{Problem, squared, form, link, rough, loss, scaled_loss, gap, Meets}
use Rattle.certificate.specs.Far.{off_by, farness, Reaches, by_weight, by_box}
use Rattle.certificate.specs.Promises.{NoneFar, NoRateFar}
use Rattle.certificate.proofs.Expansion.{slope, apart, loss_apart}
use Rattle.certificate.proofs.Certificate.{lower_bound}

module _ (P : Problem) (v : ℕ → ℤ) (d : ℤ) (X : ℕ → ℤ) where
  abbrev δ : ℕ → ℤ
  δ = off_by d X v

  -- the middle of X / d and v is middle / 2d
  abbrev twice : ℤ
  twice = pos 2 *ℤ d

  abbrev middle : ℕ → ℤ
  middle i = X i +ℤ d *ℤ v i

  middle_off : off_by twice middle v ≡ δ
  middle_off = fun_ext (λ i. ring 3 (λ x d v. x ⊕ d ⊗ v ⊖ num 2 ⊗ d ⊗ v ≗ x ⊖ d ⊗ v) tt (X i) d (v i))

  middle_loss : scaled_loss P twice middle ≡ twice *ℤ twice *ℤ loss P v +ℤ (twice *ℤ slope P v δ +ℤ farness P δ)
  middle_loss = loss_apart P v twice middle ∙ ap (λ (e : ℕ → ℤ). twice *ℤ twice *ℤ loss P v +ℤ (twice *ℤ slope P v e +ℤ farness P e)) middle_off

  middle_link : (j : ℕ) → link P j middle ≡ link P j δ +ℤ twice *ℤ link P j v
  middle_link j = apart P v twice middle (P.c j) ∙ ap (λ (e : ℕ → ℤ). link P j e +ℤ twice *ℤ link P j v) middle_off

  middle_meets : pos 0 ≤ℤ d → Meets P (pos 1) v → Meets P d X → Meets P twice middle
  middle_meets h O M = record {
    floors = λ i k.
        ineq 4 (λ d b x v. num 0 ⊑ d ⇒ b ⊗ d ⊑ x ⇒ b ⊗ num 1 ⊑ v ⇒ b ⊗ (num 2 ⊗ d) ⊑ x ⊕ d ⊗ v by hyp 1 ⊞ hyp 0 ⊠ hyp 2) tt
        d (P.lo i) (X i) (v i) h (M.floors i k) (O.floors i k);
    ceilings = λ i k.
        ineq 4 (λ d b x v. num 0 ⊑ d ⇒ x ⊑ b ⊗ d ⇒ v ⊑ b ⊗ num 1 ⇒ x ⊕ d ⊗ v ⊑ b ⊗ (num 2 ⊗ d) by hyp 1 ⊞ hyp 0 ⊠ hyp 2) tt
        d (P.hi i) (X i) (v i) h (M.ceilings i k) (O.ceilings i k);
    links = λ j k.
        subst (λ (x : ℤ). x ≤ℤ (P.b j *ℤ twice)) (sym (middle_link j))
        (ineq 4 (λ d b e v. num 0 ⊑ d ⇒ e ⊕ d ⊗ v ⊑ b ⊗ d ⇒ v ⊑ b ⊗ num 1 ⇒ e ⊕ num 2 ⊗ d ⊗ v ⊑ b ⊗ (num 2 ⊗ d) by hyp 1 ⊞ hyp 0 ⊠ hyp 2) tt
        d (P.b j) (link P j δ) (link P j v) h (subst (λ (x : ℤ). x ≤ℤ (P.b j *ℤ d)) (apart P v d X (P.c j)) (M.links j k)) (O.links j k));
  }

  -- from the theorem's inequality at the middle alone
  off_by_lem : (G : ℤ) → scaled_loss P d X ≤ℤ (d *ℤ d *ℤ loss P v) → (twice *ℤ twice *ℤ (loss P v -ℤ G)) ≤ℤ scaled_loss P twice middle
      → farness P δ ≤ℤ (pos 4 *ℤ G *ℤ (d *ℤ d))
  off_by_lem G h k =
      ineq 5
      (λ d f g s q.
      d ⊗ d ⊗ f ⊕ (d ⊗ s ⊕ q) ⊑ d ⊗ d ⊗ f ⇒ num 2 ⊗ d ⊗ (num 2 ⊗ d) ⊗ (f ⊖ g) ⊑ num 2 ⊗ d ⊗ (num 2 ⊗ d) ⊗ f ⊕ (num 2 ⊗ d ⊗ s ⊕ q)
      ⇒ q ⊑ num 4 ⊗ g ⊗ (d ⊗ d)
      by nat 2 ⊠ hyp 0 ⊞ hyp 1)
      tt d (loss P v) G (slope P v δ) (farness P δ)
      (subst (λ (x : ℤ). x ≤ℤ (d *ℤ d *ℤ loss P v)) (loss_apart P v d X) h)
      (subst (λ (x : ℤ). (twice *ℤ twice *ℤ (loss P v -ℤ G)) ≤ℤ x) middle_loss k)

pub none_far : NoneFar
none_far P v y t C O d X h M no_worse =
    off_by_lem P v d X (gap P v y t) no_worse
    (lower_bound P v y t C (twice P v d X) (middle P v d X) (ineq 1 (λ d. num 1 ⊑ d ⇒ num 1 ⊑ num 2 ⊗ d by nat 2 ⊠ hyp 0 ⊞ nat 1) tt d h)
    (middle_meets P v d X (≤ℤ-trans (pos_nonneg 1) h) O M))

-- differences beyond the cells do not count
pub farness_below : (P : Problem) {δ ε : ℕ → ℤ} → ((i : ℕ) → i < P.n → δ i ≡ ε i) → farness P δ ≡ farness P ε
farness_below P same =
    ap₂ ◌+ℤ◌ (sum_cong P.n (λ i h. ap (λ (x : ℤ). P.w i *ℤ squared x) (same i h)))
    (sum_ext P.m (λ f. ap (λ (x : ℤ). P.κ f *ℤ squared x) (sum_cong P.n (λ i h. ap (λ (x : ℤ). P.a f i *ℤ x) (same i h)))))

-- ---- a rate by itself

pub no_rate_far : NoRateFar
no_rate_far P v y S most d X h M far i k r reaches =
    abs_by_square (off_by d X v i) (d *ℤ pos r) (*ℤ-nonneg d≥0 (pos_nonneg r)) (go reaches)
  where
    d≥0 : pos 0 ≤ℤ d
    d≥0 = ≤ℤ-trans (pos_nonneg 1) h

    -- its part of what all is off by
    weighed : (P.w i *ℤ squared (off_by d X v i)) ≤ℤ (most *ℤ (d *ℤ d))
    weighed =
        ≤ℤ-trans (term_in_sum P.n (λ m l. *ℤ-nonneg (S.weights m l) (sq_nonneg (off_by d X v m))) i k)
        (≤ℤ-trans
        (≤ℤ-by (rough P (off_by d X v)) (sum_nonneg P.m (λ f l. *ℤ-nonneg (S.constants f l) (sq_nonneg (form P f (off_by d X v))))) refl)
        far)

    go : Reaches (P.w i) (P.lo i) (P.hi i) (v i) most r → squared (off_by d X v i) ≤ℤ squared (d *ℤ pos r)
    go (by_weight w e) =
        ≤ℤ-of-mul w
        (ineq 5
        (λ w e d m r. w ⊗ (e ⊗ e) ⊑ m ⊗ (d ⊗ d) ⇒ m ⊑ w ⊗ (r ⊗ r) ⇒ w ⊗ (e ⊗ e) ⊑ w ⊗ (d ⊗ r ⊗ (d ⊗ r)) by hyp 0 ⊞ hyp 1 ⊠ sqr d)
        tt (P.w i) (off_by d X v i) d most (pos r) weighed e)
    go (by_box a b) =
        ineq 6
        (λ d x v l u r.
        num 0 ⊑ d ⇒ l ⊗ d ⊑ x ⇒ x ⊑ u ⊗ d ⇒ v ⊖ l ⊑ r ⇒ u ⊖ v ⊑ r ⇒ (x ⊖ d ⊗ v) ⊗ (x ⊖ d ⊗ v) ⊑ d ⊗ r ⊗ (d ⊗ r)
        by (hyp 1 ⊞ hyp 0 ⊠ hyp 3) ⊠ (hyp 2 ⊞ hyp 0 ⊠ hyp 4))
        tt d (X i) (v i) (P.lo i) (P.hi i) (pos r) d≥0 (M.floors i k) (M.ceilings i k) a b
