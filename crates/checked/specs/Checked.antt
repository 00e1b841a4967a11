-- What a keep goes by (document 01, "The shelf": "Keeping runs the check; if accepted, the table goes …"): the check's verdict on two packs, the
-- society and the job number that the job pack names, and the values and multipliers of the proposal (W-203).
use Rattle.std.specs.Prelude.{ℕ, List, map, ℤ, nat_abs, take, drop}
use Rattle.jobs.specs.Job.{Job}
use Rattle.jobs.specs.Words.{job_of}
use Rattle.jobs.specs.Packs.{read_job, read_proposal}
use Rattle.measure.specs.Check.{Verdict, check_of}

pub record Checked : Type 0 where
  pub verdict : Verdict
  pub society : ℕ
  pub job : ℕ
  pub values : List ℕ
  pub multipliers : List ℕ

-- n numbers from the number a on
abbrev pub taken_from : (a n : ℕ) → List ℤ → List ℕ
taken_from a n words = take n (drop a (map nat_abs words))

-- The values of a proposal for a job: its first n numbers.
abbrev pub values_of : Job → (proposal : List ℕ) → List ℕ
values_of j proposal = taken_from 0 j.cells (read_proposal j.cells j.links proposal).words

-- Its multipliers: the numbers after them, one a link.
abbrev pub multipliers_of : Job → (proposal : List ℕ) → List ℕ
multipliers_of j proposal = taken_from j.cells j.links (read_proposal j.cells j.links proposal).words

unfoldable pub checked_of : (job proposal : List ℕ) → Checked
checked_of job proposal = record {
  verdict = check_of job proposal;
  society = (job_of (read_job job).words).society;
  job = (job_of (read_job job).words).number;
  values = values_of (job_of (read_job job).words) proposal;
  multipliers = multipliers_of (job_of (read_job job).words) proposal;
}
