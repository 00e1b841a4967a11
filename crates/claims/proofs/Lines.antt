-- A job that is no grid: its differences stand 1 apart, and those across count nothing, in the loss and in how far off a table is.
use Prim.Native.Nat.{ℕ, ◌-◌, ◌*◌}
use mathlib.Core.Path.{◌≡◌, ap, ap₂, subst, ◌∙◌}
use mathlib.Core.Bool.{false}
use native.Mathlib.Nat as N
use lib.IntN.{ℤ, ◌+ℤ◌, ◌*ℤ◌, zero-*ℤ, +ℤ_idr}
use Rattle.whole.specs.Sum.{sum}
use Rattle.rows.specs.Rows.{row_of}
use Rattle.certificate.specs.Problem.{squared}
use Rattle.certificate.specs.Differences.{form_at}
use Rattle.jobs.specs.Job.{Job}
use Rattle.jobs.specs.Allowed.{Allowed, LineAllowed, ShapeAllowed}
use Rattle.measure.specs.Loss.{family_across, across_at, fit_of, roughness, rough_of, loss_of}
use Rattle.claims.specs.Far.{farness_of}
use Rattle.claims.specs.Promises.{line_rough, LineLoss, LineFarness}

rough_of_line : (j : Job) → Allowed j → j.grid ≡ false → (v : ℕ → ℤ) → rough_of j v ≡ line_rough j v
rough_of_line j A e v =
    let L : LineAllowed j = subst (ShapeAllowed j) e A.shape in
    let one : j.order * j.columns ≡ j.order = ap (λ (c : ℕ). j.order * c) L.columns_one ∙ N.mul-one j.order in
    ap₂ ◌+ℤ◌
    (ap (λ (x : ℤ). j.constant *ℤ x)
    (ap₂ (λ (reach c : ℕ). sum (j.cells - reach) (λ i. squared (form_at (row_of j.order) j.order c i v))) one L.columns_one))
    (ap (λ (s : ℤ). s *ℤ roughness (family_across j) (across_at j v)) L.second_none ∙ zero-*ℤ (roughness (family_across j) (across_at j v)))
    ∙ +ℤ_idr (line_rough j v)

pub line_loss : LineLoss
unfolding loss_of
line_loss j A e v = ap (λ (x : ℤ). fit_of j v +ℤ x) (rough_of_line j A e v)

pub line_farness : LineFarness
unfolding farness_of
line_farness j A e δ = ap (λ (x : ℤ). sum j.cells (λ i. j.weight i *ℤ squared (δ i)) +ℤ x) (rough_of_line j A e δ)
