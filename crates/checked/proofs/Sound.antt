-- What the check has read where it accepts: both packs read, and what reads is allowed.
use mathlib.Core.Path.{◌≡◌, refl, sym}
use mathlib.Core.Bool.{true, true≢false}
use mathlib.Core.List.{List, map}
use Prim.Native.Nat.{ℕ}
use native.Mathlib.Omega.{arith}
use lib.IntN.{nat_abs}
use lib.ListN.{length, drop, length-drop}
use lib.Seq.{length-take-le}
use Rattle.std.specs.Prelude.{Ok, Err}
use Rattle.packs.specs.Reading.{Outcome}
use Rattle.jobs.specs.Job.{Job}
use Rattle.jobs.specs.Words.{job_of}
use Rattle.jobs.specs.Allowed.{Allowed, Laid, Proposed}
use Rattle.jobs.specs.Packs.{read_job, read_proposal}
use Rattle.jobs.proofs.Readings.{read_jobs_allowed, read_jobs_laid, read_proposals_proposed}
use Rattle.measure.specs.Check.{Verdict, check_of, on_read, proposal_verdict}
use Rattle.checked.specs.Checked.{values_of, multipliers_of}
use Rattle.checked.specs.Answers.{accepted}
use Rattle.checked.proofs.Values.{length_map}

-- an accepted verdict on what was read comes of a reading that is done
pub read_done : (o : Outcome) (v : Verdict) → accepted (on_read o v) ≡ true → (k : ℕ) × (o ≡ Ok k) × (accepted v ≡ true)
read_done (Ok k) v e = (k, refl, e)
read_done (Err r) v e = absurd (true≢false (sym e))

-- what the check has read where it accepts
pub record Packed (job proposal : List ℕ) : Type 0 where
  pub allowed : Allowed (job_of (read_job job).words)
  pub laid : Laid (read_job job).words
  pub proposed : Proposed (job_of (read_job job).words).cells (job_of (read_job job).words).links (read_proposal (job_of (read_job job).words).cells (job_of (read_job job).words).links proposal).words
  pub job_done : (k : ℕ) × ((read_job job).outcome ≡ Ok k)
  pub proposal_done : (k : ℕ) × ((read_proposal (job_of (read_job job).words).cells (job_of (read_job job).words).links proposal).outcome ≡ Ok k)

module _ (job proposal : List ℕ) where
  abbrev j : Job
  j = job_of (read_job job).words

  pub accepted_read : accepted (check_of job proposal) ≡ true → Packed job proposal
  accepted_read e =
      let a = read_done (read_job job).outcome (proposal_verdict j proposal) e in
      let b = read_done (read_proposal j.cells j.links proposal).outcome _ a.2 in
      record {
        allowed = read_jobs_allowed job a.0 a.1;
        laid = read_jobs_laid job a.0 a.1;
        proposed = read_proposals_proposed j.cells j.links proposal b.0 b.1;
        job_done = (a.0, a.1);
        proposal_done = (b.0, b.1);
      }

  pub values_count : Packed job proposal → length (values_of j proposal) ≡ j.cells
  values_count p =
      let ws = (read_proposal j.cells j.links proposal).words in
      length-take-le j.cells (map nat_abs ws) (omega (arith, length_map nat_abs ws, p.proposed.count))

  pub multipliers_count : Packed job proposal → length (multipliers_of j proposal) ≡ j.links
  multipliers_count p =
      let ws = (read_proposal j.cells j.links proposal).words in
      length-take-le j.links (drop j.cells (map nat_abs ws)) (rw length-drop (omega (arith, length_map nat_abs ws, p.proposed.count)))
