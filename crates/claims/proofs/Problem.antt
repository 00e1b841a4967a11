-- A job as a problem of `certificate`: its forms are the job's differences, down and across, its rows of link coefficients the links' terms. Loss, residual and gap of
-- the job are those of the problem, because a difference is the form of its coefficients and a link's sum the row of its terms.
use Prim.Native.Nat.{ℕ, ◌+◌, ◌-◌, ◌<◌}
use mathlib.Core.Path.{◌≡◌, refl, sym, ap, ap₂, subst, ◌∙◌}
use mathlib.Core.Bool.{Bool, true, false}
use native.Mathlib.Omega.{arith}
use lib.Dec.{ltb}
use lib.IntN.{ℤ, pos, ◌+ℤ◌, ◌-ℤ◌, ◌*ℤ◌, zero-*ℤ, *ℤ-zero}
use lib.Signed.{◌≤ℤ◌}
use Rattle.whole.specs.Sum.{sum}
use Rattle.whole.proofs.Order.{pos_nonneg}
use Rattle.whole.proofs.Ring.{*ℤ-assoc, *ℤ-+ℤ}
use Rattle.whole.proofs.Sums.{sum_cong, sum_ext, sum-*l}
use Rattle.whole.proofs.Rows.{row_value}
use Rattle.certificate.specs.Problem.{Problem, squared, rough, loss, scaled_loss, link, residual, gap}
use Rattle.certificate.specs.Problem as P
use Rattle.certificate.specs.Terms.{cell_term, terms, NotNegative}
use Rattle.certificate.specs.Differences.{Inside, in_row, difference, coefficient, returned}
use Rattle.certificate.specs.Far.{farness}
use Rattle.certificate.proofs.Differences.{difference_is_form, smooth_loss}
use Rattle.certificate.proofs.Families.{either, sum_forms}
use Rattle.std.specs.Prelude.{if◌then◌else◌}
use Rattle.jobs.specs.Job.{Job, link_coefficient}
use Rattle.jobs.specs.Allowed.{Allowed}
use Rattle.jobs.proofs.Places.{upto_nonneg}
use Rattle.tally.specs.Supplied.{limit}
use Rattle.measure.specs.Loss.{family_of, family_across, across_at, fit_of, rough_of, loss_of}
use Rattle.measure.specs.Gap.{link_sum, smooth_part, residual_of, gap_of}
use Rattle.claims.specs.Meets.{Meets, scaled_loss_of}
use Rattle.claims.specs.Far.{farness_of}

-- Document 01's constant for a difference down; for one across the second constant, and 0 where the difference would run over its row's end. So both families
-- start at every cell, and the laws of consecutive starts serve both.
abbrev across_constant : Job → ℕ → ℤ
across_constant j f = if in_row j.columns j.across 1 f then j.second else pos 0

abbrev pub problem_of : Job → Problem
problem_of j = record {
  n = j.cells;
  u = j.crude;
  w = j.weight;
  lo = j.floor;
  hi = j.ceiling;
  m = (family_of j).count + (family_across j).count;
  κ = either (family_of j).count (λ f. j.constant) (across_constant j);
  a = λ f i. either (family_of j).count (λ f. coefficient (family_of j) f i) (λ f. coefficient (family_across j) f i) f;
  p = j.links;
  c = link_coefficient j;
  b = j.bound;
}

module _ (j : Job) where
  pub inside : Inside (family_of j) j.cells
  inside f h = omega arith

  pub inside_across : Inside (family_across j) j.cells
  inside_across f h = omega arith

  -- a masked constant is a masked difference
  masked_square : (s d : ℤ) (t : Bool) → (if t then s else pos 0) *ℤ squared d ≡ s *ℤ squared (if t then d else pos 0)
  masked_square s d true = refl
  masked_square s d false = zero-*ℤ (squared d) ∙ sym (*ℤ-zero s)

  masked_slope : (s d c : ℤ) (t : Bool) → pos 2 *ℤ (if t then s else pos 0) *ℤ d *ℤ c ≡ pos 2 *ℤ s *ℤ ((if t then d else pos 0) *ℤ c)
  masked_slope s d c true = *ℤ-assoc (pos 2 *ℤ s) d c
  masked_slope s d c false =
      ap (λ (x : ℤ). x *ℤ c) (zero-*ℤ d) ∙ zero-*ℤ c ∙ sym (ap (λ (x : ℤ). pos 2 *ℤ s *ℤ x) (zero-*ℤ c) ∙ *ℤ-zero (pos 2 *ℤ s))

  -- the loss, whole and scaled, and how far off a table is
  rough_same : (v : ℕ → ℤ) → rough (problem_of j) v ≡ rough_of j v
  rough_same v =
      sum_forms (family_of j).count (family_across j).count (λ f. j.constant) (across_constant j) (coefficient (family_of j)) (coefficient (family_across j))
      (λ κ row. κ *ℤ squared (sum j.cells (λ i. row i *ℤ v i)))
      ∙ ap₂ ◌+ℤ◌
      (smooth_loss (family_of j) j.cells inside (λ f. j.constant) v
      ∙ sum-*l (family_of j).count j.constant (λ f. squared (difference (family_of j) v f)))
      (smooth_loss (family_across j) j.cells inside_across (across_constant j) v
      ∙ sum_ext (family_across j).count (λ f. masked_square j.second (difference (family_across j) v f) (in_row j.columns j.across 1 f))
      ∙ sum-*l (family_across j).count j.second (λ f. squared (across_at j v f)))

  pub loss_same : (v : ℕ → ℤ) → loss (problem_of j) v ≡ loss_of j v
  unfolding loss_of
  loss_same v = ap (λ (x : ℤ). fit_of j v +ℤ x) (rough_same v)

  pub scaled_same : (d : ℤ) (X : ℕ → ℤ) → scaled_loss (problem_of j) d X ≡ scaled_loss_of j d X
  unfolding scaled_loss_of
  scaled_same d X = ap (λ (x : ℤ). sum j.cells (λ i. j.weight i *ℤ squared (X i -ℤ d *ℤ j.crude i)) +ℤ x) (rough_same X)

  pub farness_same : (δ : ℕ → ℤ) → farness (problem_of j) δ ≡ farness_of j δ
  unfolding farness_of
  farness_same δ = ap (λ (x : ℤ). sum j.cells (λ i. j.weight i *ℤ squared (δ i)) +ℤ x) (rough_same δ)

  -- the residual
  doubled : (k s a b : ℤ) → pos 2 *ℤ k *ℤ a +ℤ pos 2 *ℤ s *ℤ b ≡ pos 2 *ℤ (k *ℤ a +ℤ s *ℤ b)
  doubled k s a b = ap₂ ◌+ℤ◌ (*ℤ-assoc (pos 2) k a) (*ℤ-assoc (pos 2) s b) ∙ sym (*ℤ-+ℤ (pos 2) (k *ℤ a) (s *ℤ b))

  smooth_same : (v : ℕ → ℤ) (i : ℕ) → P.smooth_part (problem_of j) v i ≡ smooth_part j v i
  smooth_same v i =
      sum_forms (family_of j).count (family_across j).count (λ f. j.constant) (across_constant j) (coefficient (family_of j)) (coefficient (family_across j))
      (λ κ row. pos 2 *ℤ κ *ℤ sum j.cells (λ i. row i *ℤ v i) *ℤ row i)
      ∙ ap₂ ◌+ℤ◌
      (sum_cong (family_of j).count
      (λ f l.
      ap (λ (x : ℤ). pos 2 *ℤ j.constant *ℤ x *ℤ coefficient (family_of j) f i) (difference_is_form (family_of j) j.cells f v (inside f l))
      ∙ *ℤ-assoc (pos 2 *ℤ j.constant) (difference (family_of j) v f) (coefficient (family_of j) f i))
      ∙ sum-*l (family_of j).count (pos 2 *ℤ j.constant) (λ f. difference (family_of j) v f *ℤ coefficient (family_of j) f i))
      (sum_cong (family_across j).count
      (λ f l.
      ap (λ (x : ℤ). pos 2 *ℤ across_constant j f *ℤ x *ℤ coefficient (family_across j) f i) (difference_is_form (family_across j) j.cells f v (inside_across f l))
      ∙ masked_slope j.second (difference (family_across j) v f) (coefficient (family_across j) f i) (in_row j.columns j.across 1 f))
      ∙ sum-*l (family_across j).count (pos 2 *ℤ j.second) (λ f. across_at j v f *ℤ coefficient (family_across j) f i))
      ∙ doubled j.constant j.second (returned (family_of j) (difference (family_of j) v) i) (returned (family_across j) (across_at j v) i)

  pub residual_same : (v y : ℕ → ℤ) (i : ℕ) → residual (problem_of j) v y i ≡ residual_of j v y i
  unfolding residual_of
  residual_same v y i = ap (λ (x : ℤ). P.fit_part (problem_of j) v i +ℤ x +ℤ P.link_part (problem_of j) y i) (smooth_same v i)

module _ (j : Job) (A : Allowed j) where
  -- a link's sum
  pub link_same : (l : ℕ) → l < j.links → (x : ℕ → ℤ) → link (problem_of j) l x ≡ link_sum j l x
  unfolding link_sum
  link_same l h x = row_value (j.terms l) (j.cell l) (j.coefficient l) j.cells x (λ m k. ((A.link l h).term m k).cell)

  -- the gap, by the rule's cell terms
  pub gap_same : (v y : ℕ → ℤ) → gap (problem_of j) v y (terms limit (problem_of j) v y) ≡ gap_of j v y
  unfolding gap_of
  gap_same v y =
      ap₂ ◌+ℤ◌
      (sum_ext j.cells (λ i. ap (λ (r : ℤ). cell_term limit (j.weight i) r (j.floor i) (j.ceiling i) (v i)) (residual_same j v y i)))
      (sum_cong j.links (λ l h. ap (λ (x : ℤ). y l *ℤ (j.bound l -ℤ x)) (link_same l h v)))

  pub meets_same : (d : ℤ) (X : ℕ → ℤ) → Meets j d X → P.Meets (problem_of j) d X
  meets_same d X M = record {
    floors = M.floors;
    ceilings = M.ceilings;
    links = λ l h. subst (λ (x : ℤ). x ≤ℤ (j.bound l *ℤ d)) (sym (link_same l h X)) (M.sums l h);
  }

  pub not_negative : (y : ℕ → ℤ) → ((l : ℕ) → l < j.links → pos 0 ≤ℤ y l) → NotNegative (problem_of j) y
  not_negative y h = record {
    weights = λ i k. upto_nonneg (A.cell i k).weight;
    constants = λ f k. go (ltb f (family_of j).count) (in_row j.columns j.across 1 (f - (family_of j).count));
    multipliers = h;
  }
    where
      go : (s t : Bool) → pos 0 ≤ℤ (if s then j.constant else if t then j.second else pos 0)
      go true t = upto_nonneg A.constant
      go false true = upto_nonneg A.second
      go false false = pos_nonneg 0
