-- The residual of a cell: each part by its bound, so that a residual is at most 7·10^12.
use Prim.Native.Nat.{ℕ, ◌≤◌}
use mathlib.Core.Path.{◌≡◌, refl, sym, ap, ap₂, subst}
use mathlib.Core.List.{List}
use native.Mathlib.Nat as N
use lib.Dec.{lit<}
use lib.IntN.{ℤ, pos, nat_abs, ◌+ℤ◌, ◌-ℤ◌, ◌*ℤ◌}
use mir.Syntax.{w64}
use mir.Val.{SFits}
use Rattle.whole.proofs.Magnitude.{bound-+, bound--, bound-*}
use Rattle.whole.proofs.Fits.{small_fits, gives}
use Rattle.jobs.specs.Words.{word_at, job_of}
use Rattle.jobs.specs.Allowed.{Upto}
use Rattle.tally.proofs.Locals.{read, rate_read, weight_read}
use Rattle.measure.specs.Given.{Slopes, ResidualAt}

module _ {w v u part : ℤ} (h : Slopes w v u part) where
  ww : nat_abs (pos 2 *ℤ w) ≤ 2000
  ww = bound-* (pos 2) w (N.le_refl 2) h.w_in.small

  far : nat_abs (v -ℤ u) ≤ 2000000
  far = bound-- v u h.v_in.small h.u_in.small

  fit : nat_abs (pos 2 *ℤ w *ℤ (v -ℤ u)) ≤ 4000000000
  fit = bound-* (pos 2 *ℤ w) (v -ℤ u) ww far

  pub slopes_small : nat_abs (pos 2 *ℤ w *ℤ (v -ℤ u) +ℤ part) ≤ 6916000000000
  slopes_small = bound-+ (pos 2 *ℤ w *ℤ (v -ℤ u)) part fit h.part_small

  part_read : read part ≡ part
  part_read = gives refl (small_fits part h.part_small (lit< tt))

  -- the expressions of the code
  pub ww_is : pos 2 *ℤ read w ≡ pos 2 *ℤ w
  ww_is = ap (λ (x : ℤ). pos 2 *ℤ x) (weight_read h.w_in)

  pub ww_fits : SFits w64 (pos 2 *ℤ w)
  ww_fits = small_fits (pos 2 *ℤ w) ww (lit< tt)

  pub far_is : read v -ℤ read u ≡ v -ℤ u
  far_is = ap₂ ◌-ℤ◌ (rate_read h.v_in) (rate_read h.u_in)

  pub far_fits : SFits w64 (v -ℤ u)
  far_fits = small_fits (v -ℤ u) far (lit< tt)

  pub fit_is : read (pos 2 *ℤ read w) *ℤ read (read v -ℤ read u) ≡ pos 2 *ℤ w *ℤ (v -ℤ u)
  fit_is = ap₂ ◌*ℤ◌ (gives ww_is ww_fits) (gives far_is far_fits)

  pub fit_fits : SFits w64 (pos 2 *ℤ w *ℤ (v -ℤ u))
  fit_fits = small_fits (pos 2 *ℤ w *ℤ (v -ℤ u)) fit (lit< tt)

  pub all_is : read (read (pos 2 *ℤ read w) *ℤ read (read v -ℤ read u)) +ℤ read part ≡ pos 2 *ℤ w *ℤ (v -ℤ u) +ℤ part
  all_is = ap₂ ◌+ℤ◌ (gives fit_is fit_fits) part_read

  pub all_fits : SFits w64 (pos 2 *ℤ w *ℤ (v -ℤ u) +ℤ part)
  all_fits = small_fits (pos 2 *ℤ w *ℤ (v -ℤ u) +ℤ part) slopes_small (lit< tt)

  -- a call with these numbers, and its answer
  slopes_call : Slopes (read w) (read v) (read u) (read part)
  slopes_call = rw (weight_read h.w_in, rate_read h.v_in, rate_read h.u_in, part_read) h

-- with the words that the code has
module _ {ws ps : List ℤ} {i : ℕ} {part : ℤ} (R : ResidualAt ws ps i part) {w u : ℤ} (ew : w ≡ (job_of ws).weight i) (eu : u ≡ (job_of ws).crude i) where
  pub slopes : Slopes w (word_at ps i) u part
  slopes = record {
    w_in = subst (λ (x : ℤ). Upto 1000 x) (sym ew) (R.given.allowed.cell i R.inside).weight;
    v_in = R.given.proposed.value i R.inside;
    u_in = subst (λ (x : ℤ). Upto 1000000 x) (sym eu) (R.given.allowed.cell i R.inside).crude;
    part_small = R.part_small;
  }

  pub residual_call : Slopes (read w) (read (word_at ps i)) (read u) (read part)
  residual_call = slopes_call slopes
