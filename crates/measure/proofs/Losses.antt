-- The bounds of the fit, of at most 10^15 a cell.
use Prim.Native.Nat.{ℕ, ◌≤◌, ◌<◌}
use mathlib.Core.Path.{◌≡◌, refl, ap, ap₂, subst, ◌∙◌}
use mathlib.Core.List.{List}
use native.Mathlib.Nat as N
use native.Mathlib.Omega.{arith}
use lib.Dec.{lit<}
use lib.IntN.{ℤ, nat_abs, ◌-ℤ◌, ◌*ℤ◌}
use mir.Syntax.{w64}
use mir.Val.{SFits}
use Rattle.whole.proofs.Magnitude.{bound-*}
use Rattle.whole.proofs.Fits.{Adds, partial_small, small_fits, gives}
use Rattle.certificate.specs.Problem.{squared}
use Rattle.jobs.specs.Words.{word_at, cells_of, job_of}
use Rattle.tally.proofs.Locals.{read, rate_read, weight_read}
use Rattle.tally.proofs.Terms.{apart_small}
use Rattle.measure.specs.Given.{Given}
use Rattle.measure.specs.OnWords.{fit_term_on, fit_on}

module _ {ws ps : List ℤ} (G : Given ws ps) (i : ℕ) (h : i < cells_of ws) where
  far_small : nat_abs (word_at ps i -ℤ (job_of ws).crude i) ≤ 1000000
  far_small = apart_small (G.proposed.value i h) (G.allowed.cell i h).crude

  square_small : nat_abs (squared (word_at ps i -ℤ (job_of ws).crude i)) ≤ 1000000000000
  square_small = bound-* (word_at ps i -ℤ (job_of ws).crude i) (word_at ps i -ℤ (job_of ws).crude i) far_small far_small

  fit_small : nat_abs (fit_term_on ws ps i) ≤ 1000000000000000
  fit_small = bound-* ((job_of ws).weight i) (squared (word_at ps i -ℤ (job_of ws).crude i)) (G.allowed.cell i h).weight.small square_small

  -- the expressions of the code, with the words that it has
  module _ {u w : ℤ} (eu : u ≡ (job_of ws).crude i) (ew : w ≡ (job_of ws).weight i) where
    pub far_is : read (word_at ps i) -ℤ read u ≡ word_at ps i -ℤ (job_of ws).crude i
    far_is = ap₂ ◌-ℤ◌ (rate_read (G.proposed.value i h)) (ap read eu ∙ rate_read (G.allowed.cell i h).crude)

    pub far_fits : SFits w64 (word_at ps i -ℤ (job_of ws).crude i)
    far_fits = small_fits (word_at ps i -ℤ (job_of ws).crude i) far_small (lit< tt)

    pub square_is : read (read (word_at ps i) -ℤ read u) *ℤ read (read (word_at ps i) -ℤ read u) ≡ squared (word_at ps i -ℤ (job_of ws).crude i)
    square_is = ap₂ ◌*ℤ◌ (gives far_is far_fits) (gives far_is far_fits)

    pub square_fits : SFits w64 (squared (word_at ps i -ℤ (job_of ws).crude i))
    square_fits = small_fits (squared (word_at ps i -ℤ (job_of ws).crude i)) square_small (lit< tt)

    pub fit_is : read w *ℤ read (read (read (word_at ps i) -ℤ read u) *ℤ read (read (word_at ps i) -ℤ read u)) ≡ fit_term_on ws ps i
    fit_is = ap₂ ◌*ℤ◌ (ap read ew ∙ weight_read (G.allowed.cell i h).weight) (gives square_is square_fits)

    pub fit_fits : SFits w64 (fit_term_on ws ps i)
    fit_fits = small_fits (fit_term_on ws ps i) fit_small (lit< tt)

pub fit_adds : {ws ps : List ℤ} {n : ℕ} → Given ws ps → n ≡ cells_of ws → Adds (fit_term_on ws ps) n 1000000000000000
fit_adds {ws} {ps} {n} G e = record {
  small = λ i l. fit_small G i (subst (λ (x : ℕ). i < x) e l);
  room = omega (arith, G.allowed.cells_few);
}

pub fit_at_most : {ws ps : List ℤ} → Given ws ps → nat_abs (fit_on ws ps) ≤ 120000000000000000
fit_at_most {ws} {ps} G = N.le_trans (partial_small (fit_adds G refl) (cells_of ws) (N.le_refl (cells_of ws))) (omega (arith, G.allowed.cells_few))
