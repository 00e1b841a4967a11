-- What stands behind a fetched table: two packs that were sent and accepted, and that the check accepts that proposal for the job presented, with the
-- F and G that the fetch gives.
use Rattle.std.specs.Prelude.{ℕ, ◌<◌, ◌≡◌, ◌⊎◌, List, [], ◌∷◌, pos, length, get_or}
use Rattle.jobs.specs.Packs.{job_in}
use Rattle.measure.specs.Check.{accepting, check_of}
use Rattle.checked.specs.Answers.{Reply}
use Rattle.shelf.specs.Calls.{Call, own, keep}
use Rattle.claims.specs.Read.{values_in}
use Rattle.claims.specs.Meets.{NoneBelow}
use Rattle.claims.specs.Far.{NoneFar}

-- the call is one of those
abbrev pub Sent : Call → List Call → Type 0
Sent call [] = ⊥
Sent call (other ∷ calls) = (call ≡ other) ⊎ Sent call calls

-- The reply hands out a table that was kept for the society and under the number of the job presented, and that is accepted for this job: the check of
-- its proposal against the job presented gives the reply's F and G, the values are the proposal's, no table that meets the job, fractions included, has a
-- loss below F - G, and every one whose loss is not above F is close to these values (W-208).
pub record IsAccepted (calls : List Call) (job : List ℕ) (r : Reply) : Type 0 where
  pub kept_under : List ℕ
  pub proposal : List ℕ
  pub sent : Sent (own (keep kept_under proposal)) calls
  pub its_society : (job_in kept_under).society ≡ (job_in job).society
  pub its_number : (job_in kept_under).number ≡ (job_in job).number
  pub accepted : check_of job proposal ≡ accepting (pos r.answer.loss) (pos r.answer.gap)
  pub count : length r.values ≡ (job_in job).cells
  pub values : (i : ℕ) → i < (job_in job).cells → pos (get_or r.values i 0) ≡ values_in job proposal i
  pub best : NoneBelow (job_in job) (pos r.answer.loss) (pos r.answer.gap)
  pub close : NoneFar (job_in job) (λ i. pos (get_or r.values i 0)) (pos r.answer.loss) (pos r.answer.gap)
