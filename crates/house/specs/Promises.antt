-- What is promised of the house proposal.
use Rattle.std.specs.Prelude.{◌≡◌, ℕ, ◌+◌, ◌<◌, ◌≤◌, List, length, pos, ◌≤ℤ◌, Ok}
use Rattle.packs.specs.Reading.{Ran}
use Rattle.jobs.specs.Job.{Job}
use Rattle.jobs.specs.Words.{word_at, job_of}
use Rattle.jobs.specs.Packs.{read_job, read_proposal}
use Rattle.house.specs.Proposal.{propose_of}

-- What was read is a proposal for the job: a value a cell and a multiplier a link, every value inside its box and every multiplier 0.
pub record Fit (j : Job) (r : Ran) : Type 0 where
  pub whole : r.outcome ≡ Ok (j.cells + j.links)
  pub above : (i : ℕ) → i < j.cells → j.floor i ≤ℤ word_at r.words i
  pub below : (i : ℕ) → i < j.cells → word_at r.words i ≤ℤ j.ceiling i
  pub multiplier : (l : ℕ) → l < j.links → word_at r.words (j.cells + l) ≡ pos 0

-- Whatever the house proposes is a proposal pack that reads back, for the job that was read.
abbrev pub ProposalsFit : Type 0
ProposalsFit =
    (room : ℕ) (job : List ℕ) (n : ℕ) → (propose_of room job).outcome ≡ Ok n
    → Fit (job_of (read_job job).words) (read_proposal (job_of (read_job job).words).cells (job_of (read_job job).words).links (propose_of room job).bytes)

-- What it answers is how many bytes it wrote, and they are within the room.
abbrev pub ProposalsCounted : Type 0
ProposalsCounted = (room : ℕ) (job : List ℕ) (n : ℕ) → (propose_of room job).outcome ≡ Ok n → (length (propose_of room job).bytes ≡ n) × (n ≤ room)
