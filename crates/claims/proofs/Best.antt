-- Demand 3: the theorem of `certificate` for a job as a problem, with the rule's cell terms as the certificate.
use Prim.Native.Nat.{ℕ, ◌<◌}
use mathlib.Core.Path.{◌≡◌, refl, sym, ap, ap₂, subst, subst₂, ◌∙◌}
use lib.IntN.{ℤ, pos, ◌-ℤ◌, ◌*ℤ◌, *ℤ_comm}
use lib.Signed.{◌≤ℤ◌}
use Rattle.whole.proofs.Ring.{*ℤ-pos1, *ℤ-lcomm}
use Rattle.whole.proofs.Order.{≤ℤ-trans, *ℤ-mono-l, pos_nonneg}
use Rattle.whole.proofs.Sums.{sum_ext, sum-*l}
use Rattle.certificate.specs.Problem.{scaled_loss}
use Rattle.certificate.specs.Terms.{terms}
use Rattle.certificate.proofs.Certificate.{lower_bound, scaled_by_one, scaled_alike}
use Rattle.certificate.proofs.Terms.{rule_certifies}
use Rattle.jobs.specs.Job.{Job}
use Rattle.jobs.specs.Allowed.{Allowed}
use Rattle.jobs.proofs.Readings.{read_jobs_allowed}
use Rattle.jobs.specs.Packs.{job_in}
use Rattle.tally.specs.Supplied.{limit}
use Rattle.measure.specs.Loss.{loss_of}
use Rattle.measure.specs.Gap.{link_sum, gap_of}
use Rattle.claims.specs.Read.{values_in, multipliers_in, BothRead}
use Rattle.claims.specs.Meets.{EveryInBox, EveryLinkHolds, Meets, scaled_loss_of}
use Rattle.claims.specs.Verdicts.{Acceptable}
use Rattle.claims.specs.Promises.{Best, AcceptedMeets}
use Rattle.claims.proofs.Accepted.{accepted_exactly}
use Rattle.claims.proofs.Terms.{multipliers_read}
use Rattle.claims.proofs.Problem.{problem_of, loss_same, scaled_same, gap_same, meets_same, not_negative}

-- for any allowed job, table and multipliers that are not negative
pub best_of : (j : Job) → Allowed j → (v y : ℕ → ℤ) → ((l : ℕ) → l < j.links → pos 0 ≤ℤ y l) → (d : ℤ) (X : ℕ → ℤ) → pos 1 ≤ℤ d → Meets j d X
    → (d *ℤ d *ℤ (loss_of j v -ℤ gap_of j v y)) ≤ℤ scaled_loss_of j d X
best_of j A v y S d X h M =
    subst₂ (λ (x z : ℤ). (d *ℤ d *ℤ x) ≤ℤ z) (ap₂ ◌-ℤ◌ (loss_same j v) (gap_same j A v y)) (scaled_same j d X)
    (lower_bound (problem_of j) v y (terms limit (problem_of j) v y) (rule_certifies limit (problem_of j) v y (not_negative j A y S)) d X h
    (meets_same j A d X M))

-- a table of whole rates, written with any d
module _ (j : Job) (v : ℕ → ℤ) (d : ℤ) where
  abbrev written : ℕ → ℤ
  written i = d *ℤ v i

  link_written : (l : ℕ) → link_sum j l written ≡ d *ℤ link_sum j l v
  unfolding link_sum
  link_written l =
      sum_ext (j.terms l) (λ m. *ℤ-lcomm (j.coefficient l m) d (v (j.cell l m)))
      ∙ sum-*l (j.terms l) d (λ m. j.coefficient l m *ℤ v (j.cell l m))

  -- what is at most a bound is so times d
  scaled_up : {a b x : ℤ} → pos 1 ≤ℤ d → x ≡ d *ℤ a → a ≤ℤ b → x ≤ℤ (b *ℤ d)
  scaled_up {a} {b} h e k =
      subst₂ (λ (x z : ℤ). x ≤ℤ z) (sym e) (*ℤ_comm d b) (*ℤ-mono-l {k = d} (≤ℤ-trans (pos_nonneg 1) h) k)

  pub written_meets : pos 1 ≤ℤ d → EveryInBox j v → EveryLinkHolds j v → Meets j d written
  written_meets h I H = record {
    floors = λ i k. subst (λ (x : ℤ). x ≤ℤ written i) (*ℤ_comm d (j.floor i)) (*ℤ-mono-l {k = d} (≤ℤ-trans (pos_nonneg 1) h) (I i k).0);
    ceilings = λ i k. scaled_up h refl (I i k).1;
    sums = λ l k. scaled_up h (link_written l) (H l k);
  }

  pub written_loss : scaled_loss_of j d written ≡ d *ℤ d *ℤ loss_of j v
  written_loss =
      sym (scaled_same j d written)
      ∙ ap (λ (x : ℤ). scaled_loss (problem_of j) x written) (sym (*ℤ-pos1 d))
      ∙ scaled_alike (problem_of j) d (pos 1) v
      ∙ ap (λ (x : ℤ). d *ℤ d *ℤ x) (scaled_by_one (problem_of j) v ∙ loss_same j v)

pub best : Best
best job proposal F G e d X h M =
    let a : Acceptable job proposal F G = (accepted_exactly job proposal F G).0 e in
    let B : BothRead job proposal = a.both_read in
    subst (λ (x : ℤ). (d *ℤ d *ℤ x) ≤ℤ scaled_loss_of (job_in job) d X) (ap₂ ◌-ℤ◌ (sym a.loss_is) (sym a.gap_is))
    (best_of (job_in job) (read_jobs_allowed job B.job_reads.0 B.job_reads.1) (values_in job proposal) (multipliers_in job proposal)
    (multipliers_read job proposal B) d X h M)

pub accepted_meets : AcceptedMeets
accepted_meets job proposal F G e d h =
    let a : Acceptable job proposal F G = (accepted_exactly job proposal F G).0 e in (
      written_meets (job_in job) (values_in job proposal) d h a.values_in_boxes a.links_hold,
      written_loss (job_in job) (values_in job proposal) d ∙ ap (λ (x : ℤ). d *ℤ d *ℤ x) (sym a.loss_is),
    )
