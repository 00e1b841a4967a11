-- A cell by itself: if t covers it, d²t + d r (X - d v) + w (X - d v)² is not negative for every X / d in its box. With r > 0 that is since X is at
-- least lo · d; by the square, since 4w times it is d²(4wt - r²) + (d r + 2w(X - d v))².
use mathlib.Core.Path.{sym, subst}
use lib.IntN.{ℤ, pos, ◌+ℤ◌, ◌-ℤ◌, ◌*ℤ◌}
use lib.Signed.{◌≤ℤ◌, lt_z_yes}
use Rattle.whole.proofs.Solve.{num, neg, ◌⊕◌, ◌⊖◌, ◌⊗◌}
use Rattle.whole.proofs.Order.{<ℤ-le, *ℤ-pos, nonneg_of_mul}
use Rattle.whole.proofs.Inequality.{◌⊑◌, ◌⇒◌, ◌by◌, hyp, sqr, ◌⊞◌, ◌⊠◌, ineq}
use Rattle.certificate.specs.Problem.{squared}
use Rattle.certificate.specs.Terms.{Covers, by_floor, by_ceiling, flat, by_square}

-- what a cell leaves over
abbrev pub excess : (w r v t d X : ℤ) → ℤ
excess w r v t d X = d *ℤ d *ℤ t +ℤ (d *ℤ (r *ℤ (X -ℤ d *ℤ v)) +ℤ w *ℤ squared (X -ℤ d *ℤ v))

pub excess_nonneg : {w r lo hi v t : ℤ} (d X : ℤ) → Covers w r lo hi v t → pos 0 ≤ℤ w → pos 0 ≤ℤ d → (lo *ℤ d) ≤ℤ X → X ≤ℤ (hi *ℤ d)
    → pos 0 ≤ℤ excess w r v t d X
excess_nonneg {w} {r} {lo} {hi} {v} {t} d X (by_floor h k) hw hd hl hh =
    ineq 7
    (λ w r v t d X lo.
    num 0 ⊑ w ⇒ num 0 ⊑ d ⇒ num 0 ⊑ r ⇒ r ⊗ (v ⊖ lo) ⊑ t ⇒ lo ⊗ d ⊑ X
    ⇒ num 0 ⊑ d ⊗ d ⊗ t ⊕ (d ⊗ (r ⊗ (X ⊖ d ⊗ v)) ⊕ w ⊗ ((X ⊖ d ⊗ v) ⊗ (X ⊖ d ⊗ v)))
    by sqr d ⊠ hyp 3 ⊞ hyp 1 ⊠ hyp 2 ⊠ hyp 4 ⊞ hyp 0 ⊠ sqr (X ⊖ d ⊗ v))
    tt w r v t d X lo hw hd (<ℤ-le h) k hl
excess_nonneg {w} {r} {lo} {hi} {v} {t} d X (by_ceiling h k) hw hd hl hh =
    ineq 7
    (λ w r v t d X hi.
    num 0 ⊑ w ⇒ num 0 ⊑ d ⇒ r ⊑ num 0 ⇒ neg r ⊗ (hi ⊖ v) ⊑ t ⇒ X ⊑ hi ⊗ d
    ⇒ num 0 ⊑ d ⊗ d ⊗ t ⊕ (d ⊗ (r ⊗ (X ⊖ d ⊗ v)) ⊕ w ⊗ ((X ⊖ d ⊗ v) ⊗ (X ⊖ d ⊗ v)))
    by sqr d ⊠ hyp 3 ⊞ hyp 1 ⊠ hyp 2 ⊠ hyp 4 ⊞ hyp 0 ⊠ sqr (X ⊖ d ⊗ v))
    tt w r v t d X hi hw hd (<ℤ-le h) k hh
excess_nonneg {w} {r} {lo} {hi} {v} {t} d X (flat h k) hw hd hl hh =
    subst (λ (x : ℤ). pos 0 ≤ℤ excess w x v t d X) (sym h)
    (ineq 5
    (λ w v t d X.
    num 0 ⊑ w ⇒ num 0 ⊑ t
    ⇒ num 0 ⊑ d ⊗ d ⊗ t ⊕ (d ⊗ (num 0 ⊗ (X ⊖ d ⊗ v)) ⊕ w ⊗ ((X ⊖ d ⊗ v) ⊗ (X ⊖ d ⊗ v)))
    by sqr d ⊠ hyp 1 ⊞ hyp 0 ⊠ sqr (X ⊖ d ⊗ v))
    tt w v t d X hw k)
excess_nonneg {w} {r} {lo} {hi} {v} {t} d X (by_square h k) hw hd hl hh =
    nonneg_of_mul (*ℤ-pos {a = pos 4} (lt_z_yes tt) h)
    (ineq 6
    (λ w r v t d X.
    r ⊗ r ⊑ num 4 ⊗ w ⊗ t
    ⇒ num 0 ⊑ num 4 ⊗ w ⊗ (d ⊗ d ⊗ t ⊕ (d ⊗ (r ⊗ (X ⊖ d ⊗ v)) ⊕ w ⊗ ((X ⊖ d ⊗ v) ⊗ (X ⊖ d ⊗ v))))
    by sqr d ⊠ hyp 0 ⊞ sqr (d ⊗ r ⊕ num 2 ⊗ w ⊗ (X ⊖ d ⊗ v)))
    tt w r v t d X k)
