-- What the promises about the check speak of: the values and multipliers of a proposal pack for the job of a pack, and their loss and gap. Each says
-- something only where the packs read.
use Rattle.std.specs.Prelude.{ℕ, ◌≡◌, List, ℤ}
use Rattle.packs.specs.Reading.{Outcome, Ran}
use Rattle.jobs.specs.Packs.{job_in, read_job, read_proposal}
use Rattle.measure.specs.Loss.{loss_of}
use Rattle.measure.specs.Gap.{gap_of}
use Rattle.measure.specs.Largest.{term_at}
use Rattle.measure.specs.Check.{values_of, multipliers_of}
use Rattle.std.specs.Prelude.{Ok}

-- "Proposal pack: n values, then one multiplier per link": n and the links are the job's.
abbrev pub proposal_in : (job proposal : List ℕ) → Ran
proposal_in job proposal = read_proposal (job_in job).cells (job_in job).links proposal

abbrev pub values_in : (job proposal : List ℕ) → ℕ → ℤ
values_in job proposal = values_of (proposal_in job proposal).words

abbrev pub multipliers_in : (job proposal : List ℕ) → ℕ → ℤ
multipliers_in job proposal = multipliers_of (job_in job).cells (proposal_in job proposal).words

-- The loss F and the gap G, whole numbers of any size.
abbrev pub loss_in : (job proposal : List ℕ) → ℤ
loss_in job proposal = loss_of (job_in job) (values_in job proposal)

abbrev pub gap_in : (job proposal : List ℕ) → ℤ
gap_in job proposal = gap_of (job_in job) (values_in job proposal) (multipliers_in job proposal)

-- The term of the gap at a place, the cells' first.
abbrev pub term_in : (job proposal : List ℕ) → (place : ℕ) → ℤ
term_in job proposal = term_at (job_in job) (values_in job proposal) (multipliers_in job proposal)

-- A pack reads: its reading is done, after some count of words.
abbrev pub Reads : Outcome → Type 0
Reads outcome = (k : ℕ) × (outcome ≡ Ok k)

pub record BothRead (job proposal : List ℕ) : Type 0 where
  pub job_reads : Reads (read_job job).outcome
  pub proposal_reads : Reads (proposal_in job proposal).outcome
