-- W-208: how far off a rate can be, by the laws of `certificate` for a job as a problem, with the rule's cell terms as the certificate.
use Prim.Native.Nat.{ℕ, ◌<◌}
use mathlib.Core.Path.{◌≡◌, sym, ap, subst, subst₂, fun_ext, ◌∙◌}
use lib.IntN.{ℤ, pos, nat_abs, ◌-ℤ◌, ◌*ℤ◌}
use lib.Signed.{◌≤ℤ◌, ≤ℤ_refl}
use Rattle.whole.proofs.Ring.{pos1-*ℤ}
use Rattle.certificate.specs.Problem as P
use Rattle.certificate.specs.Terms.{terms, NotNegative}
use Rattle.certificate.specs.Far.{off_by, farness, Reaches}
use Rattle.certificate.proofs.Terms.{rule_certifies}
use Rattle.certificate.proofs.Far.{none_far, farness_below, no_rate_far}
use Rattle.jobs.specs.Job.{Job}
use Rattle.jobs.specs.Allowed.{Allowed}
use Rattle.jobs.proofs.Readings.{read_jobs_allowed}
use Rattle.jobs.specs.Packs.{job_in}
use Rattle.tally.specs.Supplied.{limit}
use Rattle.measure.specs.Loss.{loss_of}
use Rattle.measure.specs.Gap.{gap_of}
use Rattle.claims.specs.Read.{values_in, multipliers_in, BothRead}
use Rattle.claims.specs.Meets.{EveryInBox, EveryLinkHolds, Meets}
use Rattle.claims.specs.Far.{farness_of, AsGood, NoneFar}
use Rattle.claims.specs.Verdicts.{Acceptable}
use Rattle.claims.specs.Promises.{AcceptedClose}
use Rattle.claims.proofs.Accepted.{accepted_exactly}
use Rattle.claims.proofs.Terms.{multipliers_read}
use Rattle.claims.proofs.Best.{written_meets}
use Rattle.claims.proofs.Problem.{problem_of, loss_same, scaled_same, farness_same, gap_same, meets_same, not_negative}

-- for any allowed job, table that meets it and multipliers that are not negative
module _ (j : Job) (A : Allowed j) (v y : ℕ → ℤ) (I : EveryInBox j v) (H : EveryLinkHolds j v) (S : (l : ℕ) → l < j.links → pos 0 ≤ℤ y l) where
  signs : NotNegative (problem_of j) y
  signs = not_negative j A y S

  meets : P.Meets (problem_of j) (pos 1) v
  meets = meets_same j A (pos 1) v (subst (Meets j (pos 1)) (fun_ext (λ i. pos1-*ℤ (v i))) (written_meets j v (pos 1) (≤ℤ_refl (pos 1)) I H))

  far : (d : ℤ) (X : ℕ → ℤ) → AsGood j (loss_of j v) d X → farness (problem_of j) (off_by d X v) ≤ℤ (pos 4 *ℤ gap_of j v y *ℤ (d *ℤ d))
  far d X B =
      subst (λ (g : ℤ). farness (problem_of j) (off_by d X v) ≤ℤ (pos 4 *ℤ g *ℤ (d *ℤ d))) (gap_same j A v y)
      (none_far (problem_of j) v y (terms limit (problem_of j) v y) (rule_certifies limit (problem_of j) v y signs) meets d X B.at_least_one
      (meets_same j A d X B.meets)
      (subst₂ (λ (x z : ℤ). x ≤ℤ (d *ℤ d *ℤ z)) (sym (scaled_same j d X)) (sym (loss_same j v)) B.no_worse))

  close_of : NoneFar j v (loss_of j v) (gap_of j v y)
  close_of d X B = record {
    together = subst (λ (x : ℤ). x ≤ℤ (pos 4 *ℤ gap_of j v y *ℤ (d *ℤ d))) (farness_same j (off_by d X v)) (far d X B);
    each = no_rate_far (problem_of j) v y signs (pos 4 *ℤ gap_of j v y) d X B.at_least_one (meets_same j A d X B.meets) (far d X B);
  }

pub accepted_close : AcceptedClose
accepted_close job proposal F G e =
    let a : Acceptable job proposal F G = (accepted_exactly job proposal F G).0 e in
    let B : BothRead job proposal = a.both_read in
    subst₂ (NoneFar (job_in job) (values_in job proposal)) (sym a.loss_is) (sym a.gap_is)
    (close_of (job_in job) (read_jobs_allowed job B.job_reads.0 B.job_reads.1) (values_in job proposal) (multipliers_in job proposal)
    a.values_in_boxes a.links_hold (multipliers_read job proposal B))

-- what is said of a table is said of every list of values that has the same in its cells
pub close_same : (j : Job) (v x : ℕ → ℤ) → ((i : ℕ) → i < j.cells → x i ≡ v i) → (F G : ℤ) → NoneFar j v F G → NoneFar j x F G
close_same j v x same F G close d X B = record {
  together = subst (λ (z : ℤ). z ≤ℤ (pos 4 *ℤ G *ℤ (d *ℤ d))) off_same (close d X B).together;
  each = λ i h r.
      subst (λ (z : ℤ). Reaches (j.weight i) (j.floor i) (j.ceiling i) z (pos 4 *ℤ G) r → pos (nat_abs (X i -ℤ d *ℤ z)) ≤ℤ (d *ℤ pos r)) (sym (same i h))
      ((close d X B).each i h r);
}
  where
    off_same : farness_of j (off_by d X v) ≡ farness_of j (off_by d X x)
    off_same =
        sym (farness_same j (off_by d X v)) ∙ farness_below (problem_of j) (λ i h. ap (λ (z : ℤ). X i -ℤ d *ℤ z) (sym (same i h)))
        ∙ farness_same j (off_by d X x)
