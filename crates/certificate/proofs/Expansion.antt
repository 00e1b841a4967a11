-- The scaled loss of a table X / d, exactly. With δ = X - d v, every sum at X is taken apart into a sum at v and one at δ: so it is d²F, d times the slope
-- of the loss at v along δ, and the farness of δ (`loss_apart`); or d²(F - G) and what is left over by the cells, the forms and the links (`expansion`).
use mathlib.Core.Path.{◌≡◌, sym, ap, ap₂, ◌∙◌}
use Prim.Native.Nat.{ℕ}
use lib.IntN.{ℤ, pos, ◌+ℤ◌, ◌-ℤ◌, ◌*ℤ◌}
use Rattle.whole.specs.Sum.{sum}
use Rattle.whole.proofs.Solve.{num, ◌⊕◌, ◌⊖◌, ◌⊗◌, ◌≗◌, ring}
use Rattle.whole.proofs.Sums.{sum_ext, sum-+, sum--, sum-*l, sum_adjoint}
use Rattle.certificate.specs.Problem.{Problem, squared, form, link, rough, loss, scaled_loss, fit_part, smooth_part, link_part, residual, link_term, gap}
use Rattle.certificate.specs.Far.{off_by, farness}
use Rattle.certificate.proofs.Cell.{excess}

-- Σ (k f i + (d g i + h i)) = k Σ f + (d Σ g + Σ h)
three : (n : ℕ) (k d : ℤ) (f g h : ℕ → ℤ) → sum n (λ i. k *ℤ f i +ℤ (d *ℤ g i +ℤ h i)) ≡ k *ℤ sum n f +ℤ (d *ℤ sum n g +ℤ sum n h)
three n k d f g h =
    sum-+ n (λ i. k *ℤ f i) (λ i. d *ℤ g i +ℤ h i)
    ∙ ap₂ ◌+ℤ◌ (sum-*l n k f) (sum-+ n (λ i. d *ℤ g i) h ∙ ap (λ (x : ℤ). x +ℤ sum n h) (sum-*l n d g))

-- the slope of the loss at v along δ
abbrev pub slope : Problem → (v δ : ℕ → ℤ) → ℤ
slope P v δ = sum P.n (λ i. fit_part P v i *ℤ δ i) +ℤ sum P.n (λ i. smooth_part P v i *ℤ δ i)

module _ (P : Problem) (v : ℕ → ℤ) (d : ℤ) (X : ℕ → ℤ) where
  abbrev δ : ℕ → ℤ
  δ = off_by d X v

  -- a form or a link at X
  pub apart : (k : ℕ → ℤ) → sum P.n (λ i. k i *ℤ X i) ≡ sum P.n (λ i. k i *ℤ δ i) +ℤ d *ℤ sum P.n (λ i. k i *ℤ v i)
  apart k =
      sum_ext P.n (λ i. ring 4 (λ k x d v. k ⊗ x ≗ k ⊗ (x ⊖ d ⊗ v) ⊕ d ⊗ (k ⊗ v)) tt (k i) (X i) d (v i))
      ∙ sum-+ P.n (λ i. k i *ℤ δ i) (λ i. d *ℤ (k i *ℤ v i))
      ∙ ap (λ (x : ℤ). sum P.n (λ i. k i *ℤ δ i) +ℤ x) (sum-*l P.n d (λ i. k i *ℤ v i))

  -- the fit at X
  fit_apart : sum P.n (λ i. P.w i *ℤ squared (X i -ℤ d *ℤ P.u i))
      ≡ d *ℤ d *ℤ sum P.n (λ i. P.w i *ℤ squared (v i -ℤ P.u i))
      +ℤ (d *ℤ sum P.n (λ i. fit_part P v i *ℤ δ i) +ℤ sum P.n (λ i. P.w i *ℤ squared (δ i)))
  fit_apart =
      sum_ext P.n
      (λ i.
      ring 5
      (λ w u v x d.
      w ⊗ ((x ⊖ d ⊗ u) ⊗ (x ⊖ d ⊗ u))
      ≗ d ⊗ d ⊗ (w ⊗ ((v ⊖ u) ⊗ (v ⊖ u))) ⊕ (d ⊗ (num 2 ⊗ w ⊗ (v ⊖ u) ⊗ (x ⊖ d ⊗ v)) ⊕ w ⊗ ((x ⊖ d ⊗ v) ⊗ (x ⊖ d ⊗ v))))
      tt (P.w i) (P.u i) (v i) (X i) d)
      ∙ three P.n (d *ℤ d) d (λ i. P.w i *ℤ squared (v i -ℤ P.u i)) (λ i. fit_part P v i *ℤ δ i) (λ i. P.w i *ℤ squared (δ i))

  -- the smoothness at X
  smooth_apart : rough P X ≡ d *ℤ d *ℤ rough P v +ℤ (d *ℤ sum P.n (λ i. smooth_part P v i *ℤ δ i) +ℤ rough P δ)
  smooth_apart =
      sum_ext P.m
      (λ f.
      ap (λ (x : ℤ). P.κ f *ℤ squared x) (apart (P.a f))
      ∙ ring 4 (λ k e v d. k ⊗ ((e ⊕ d ⊗ v) ⊗ (e ⊕ d ⊗ v)) ≗ d ⊗ d ⊗ (k ⊗ (v ⊗ v)) ⊕ (d ⊗ (num 2 ⊗ k ⊗ v ⊗ e) ⊕ k ⊗ (e ⊗ e))) tt
      (P.κ f) (form P f δ) (form P f v) d)
      ∙ three P.m (d *ℤ d) d (λ f. P.κ f *ℤ squared (form P f v)) (λ f. pos 2 *ℤ P.κ f *ℤ form P f v *ℤ form P f δ) (λ f. P.κ f *ℤ squared (form P f δ))
      ∙ ap (λ (x : ℤ). d *ℤ d *ℤ rough P v +ℤ (d *ℤ x +ℤ rough P δ)) (sum_adjoint P.n P.m (λ f. pos 2 *ℤ P.κ f *ℤ form P f v) P.a δ)

  -- the loss at X
  pub loss_apart : scaled_loss P d X ≡ d *ℤ d *ℤ loss P v +ℤ (d *ℤ slope P v δ +ℤ farness P δ)
  loss_apart =
      ap₂ ◌+ℤ◌ fit_apart smooth_apart
      ∙ ring 7
      (λ d a b p q w r. d ⊗ d ⊗ a ⊕ (d ⊗ p ⊕ w) ⊕ (d ⊗ d ⊗ b ⊕ (d ⊗ q ⊕ r)) ≗ d ⊗ d ⊗ (a ⊕ b) ⊕ (d ⊗ (p ⊕ q) ⊕ (w ⊕ r)))
      tt
      d
      (sum P.n (λ i. P.w i *ℤ squared (v i -ℤ P.u i)))
      (rough P v)
      (sum P.n (λ i. fit_part P v i *ℤ δ i))
      (sum P.n (λ i. smooth_part P v i *ℤ δ i))
      (sum P.n (λ i. P.w i *ℤ squared (δ i)))
      (rough P δ)

  module _ (y t : ℕ → ℤ) where
    -- what is left over by the cells, the forms and the links
    abbrev pub over_cells : ℤ
    over_cells = sum P.n (λ i. excess (P.w i) (residual P v y i) (v i) (t i) d (X i))

    abbrev pub over_forms : ℤ
    over_forms = rough P δ

    abbrev pub over_links : ℤ
    over_links = sum P.p (λ j. y j *ℤ (P.b j *ℤ d -ℤ link P j X))

    cells_apart : over_cells
        ≡ d *ℤ d *ℤ sum P.n t
        +ℤ (d *ℤ (sum P.n (λ i. fit_part P v i *ℤ δ i) +ℤ sum P.n (λ i. smooth_part P v i *ℤ δ i) +ℤ sum P.n (λ i. link_part P y i *ℤ δ i))
        +ℤ sum P.n (λ i. P.w i *ℤ squared (δ i)))
    cells_apart =
        three P.n (d *ℤ d) d t (λ i. residual P v y i *ℤ δ i) (λ i. P.w i *ℤ squared (δ i))
        ∙ ap (λ (x : ℤ). d *ℤ d *ℤ sum P.n t +ℤ (d *ℤ x +ℤ sum P.n (λ i. P.w i *ℤ squared (δ i))))
        (sum_ext P.n (λ i. ring 4 (λ a b c e. (a ⊕ b ⊕ c) ⊗ e ≗ a ⊗ e ⊕ b ⊗ e ⊕ c ⊗ e) tt (fit_part P v i) (smooth_part P v i) (link_part P y i) (δ i))
        ∙ sum-+ P.n (λ i. fit_part P v i *ℤ δ i +ℤ smooth_part P v i *ℤ δ i) (λ i. link_part P y i *ℤ δ i)
        ∙ ap (λ (x : ℤ). x +ℤ sum P.n (λ i. link_part P y i *ℤ δ i)) (sum-+ P.n (λ i. fit_part P v i *ℤ δ i) (λ i. smooth_part P v i *ℤ δ i)))

    links_apart : over_links ≡ d *ℤ sum P.p (link_term P v y) -ℤ sum P.n (λ i. link_part P y i *ℤ δ i)
    links_apart =
        sum_ext P.p
        (λ j.
        ap (λ (x : ℤ). y j *ℤ (P.b j *ℤ d -ℤ x)) (apart (P.c j))
        ∙ ring 5 (λ y b e v d. y ⊗ (b ⊗ d ⊖ (e ⊕ d ⊗ v)) ≗ d ⊗ (y ⊗ (b ⊖ v)) ⊖ y ⊗ e) tt (y j) (P.b j) (link P j δ) (link P j v) d)
        ∙ sum-- P.p (λ j. d *ℤ link_term P v y j) (λ j. y j *ℤ link P j δ)
        ∙ ap₂ ◌-ℤ◌ (sum-*l P.p d (link_term P v y)) (sum_adjoint P.n P.p y P.c δ)

    pub expansion : scaled_loss P d X ≡ d *ℤ d *ℤ (loss P v -ℤ gap P v y t) +ℤ (over_cells +ℤ (over_forms +ℤ d *ℤ over_links))
    expansion =
        loss_apart
        ∙ ring 9
        (λ d f t y p q c w r.
        d ⊗ d ⊗ f ⊕ (d ⊗ (p ⊕ q) ⊕ (w ⊕ r)) ≗ d ⊗ d ⊗ (f ⊖ (t ⊕ y)) ⊕ (d ⊗ d ⊗ t ⊕ (d ⊗ (p ⊕ q ⊕ c) ⊕ w) ⊕ (r ⊕ d ⊗ (d ⊗ y ⊖ c))))
        tt
        d
        (loss P v)
        (sum P.n t)
        (sum P.p (link_term P v y))
        (sum P.n (λ i. fit_part P v i *ℤ δ i))
        (sum P.n (λ i. smooth_part P v i *ℤ δ i))
        (sum P.n (λ i. link_part P y i *ℤ δ i))
        (sum P.n (λ i. P.w i *ℤ squared (δ i)))
        over_forms
        ∙ ap₂ (λ (x z : ℤ). d *ℤ d *ℤ (loss P v -ℤ gap P v y t) +ℤ (x +ℤ (over_forms +ℤ d *ℤ z))) (sym cells_apart) (sym links_apart)
