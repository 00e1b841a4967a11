-- What is promised of the proposal that honours links.
use Rattle.std.specs.Prelude.{ℕ, ◌+◌, ◌≤◌, ◌<◌, ◌≡◌, ◌⊎◌, true, false, List, ℤ, length, Ok, Err}
use Rattle.refusals.specs.declared.Refusal.{Refusal}
use Rattle.refusals.specs.declared.Refusal.TheVariants.{NotReached, PassesNotAllowed}
use Rattle.refusals.specs.Refusals.{number_of}
use Rattle.jobs.specs.Job.{Job}
use Rattle.jobs.specs.Packs.{job_in, read_job, read_proposal}
use Rattle.measure.specs.Check.{accepting, check_of}
use Rattle.house.specs.Proposal.{solved_of, most_columns, propose_of}
use Rattle.passes.specs.Hildreth.{State, after_pass}
use Rattle.linked.specs.Proposal.{linked_words, verdict_after, accepted_at, most_passes, offering, refused, linked_of}

-- "The answer is the first pass whose proposal is accepted, with the count of passes made, at most a number that the caller gives": of the defined
-- sequence, whose first pass is 1.
pub record FirstAccepted (j : Job) (given passes : ℕ) : Type 0 where
  pub some : 1 ≤ passes
  pub within : passes ≤ given
  pub accepted : accepted_at j passes ≡ true
  pub none_before : (p : ℕ) → 1 ≤ p → p < passes → accepted_at j p ≡ false

abbrev pub PassesCounted : Type 0
PassesCounted =
    (room given : ℕ) (job : List ℕ) (n passes : ℕ) → (linked_of room given job).offer ≡ offering n passes → FirstAccepted (job_in job) given passes

-- What is written are n bytes within the room, and they read back as the values and multipliers after that pass, rounded.
pub record Written (room : ℕ) (job : List ℕ) (bytes : List ℕ) (n passes : ℕ) : Type 0 where
  pub long : length bytes ≡ n
  pub room_for : n ≤ room
  pub reads : read_proposal (job_in job).cells (job_in job).links bytes
      ≡ record { words = linked_words (job_in job) (after_pass (job_in job) passes); outcome = Ok ((job_in job).cells + (job_in job).links) }

abbrev pub PassWritten : Type 0
PassWritten =
    (room given : ℕ) (job : List ℕ) (n passes : ℕ) → (linked_of room given job).offer ≡ offering n passes → Written room job (linked_of room given job).bytes n passes

-- The check accepts what is proposed.
abbrev pub LinkedAccepted : Type 0
LinkedAccepted =
    (room given : ℕ) (job : List ℕ) (n passes : ℕ) → (linked_of room given job).offer ≡ offering n passes
    → (loss : ℤ) × ((gap : ℤ) × (check_of job (linked_of room given job).bytes ≡ accepting loss gap))

-- "Allowing more passes never changes an answer given": 14 alone gives none.
abbrev pub MorePassesSame : Type 0
MorePassesSame =
    (room given more : ℕ) (job : List ℕ) → 1 ≤ given → given ≤ more → more ≤ most_passes → ((linked_of room given job).offer ≡ Err (NotReached given) → ⊥)
    → linked_of room more job ≡ linked_of room given job

-- "14 exactly when no pass within the number is accepted, place that number": where no refusal stands before it.
pub record NoneAccepted (job : List ℕ) (given place : ℕ) : Type 0 where
  pub some : 1 ≤ given
  pub few : given ≤ most_passes
  pub words : ℕ
  pub read : (read_job job).outcome ≡ Ok words
  pub narrow : (job_in job).columns ≤ most_columns
  pub whole : (solved_of (job_in job)).ending ≡ Ok tt
  pub none : (p : ℕ) → 1 ≤ p → p ≤ given → accepted_at (job_in job) p ≡ false
  pub place_is : place ≡ given

abbrev pub FourteenExactly : Type 0
FourteenExactly =
    (room given : ℕ) (job : List ℕ) (place : ℕ)
    → ((linked_of room given job).offer ≡ Err (NotReached place) → NoneAccepted job given place)
    × (NoneAccepted job given place → (linked_of room given job).offer ≡ Err (NotReached place))

-- What stands in the way of a pass that is not accepted is a broken link (8) or a gap above the tolerance (9): its values lie in their boxes.
abbrev pub RejectedByLinkOrGap : Type 0
RejectedByLinkOrGap =
    (job : List ℕ) (k : ℕ) → (read_job job).outcome ≡ Ok k → (s : State) (r : Refusal) → verdict_after (job_in job) s ≡ Err r
    → (number_of r ≡ 8) ⊎ (number_of r ≡ 9)

-- "21 passes outside 1..200, first, place 0"
abbrev pub TwentyOneFirst : Type 0
TwentyOneFirst = (room given : ℕ) (job : List ℕ) → (given < 1) ⊎ (most_passes < given) → linked_of room given job ≡ refused PassesNotAllowed

-- "20 and 10 as at the house proposal", and the job pack's own: what the house refuses but for room is refused, with the same number and place, and nothing else
-- but for 14 and room.
abbrev pub RefusedAsByTheHouse : Type 0
RefusedAsByTheHouse =
    (room given : ℕ) (job : List ℕ) → 1 ≤ given → given ≤ most_passes → (r : Refusal) → (number_of r ≡ 13 → ⊥) → (number_of r ≡ 14 → ⊥)
    → ((linked_of room given job).offer ≡ Err r → (propose_of room job).outcome ≡ Err r)
    × ((propose_of room job).outcome ≡ Err r → (linked_of room given job).offer ≡ Err r)
