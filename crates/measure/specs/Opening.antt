-- What is read of two packs before any rule is tried: the job pack, then the proposal pack for the counts that the job names.
use Rattle.std.specs.Prelude.{ℕ, List, [], ℤ}
use Rattle.jobs.specs.Words.{job_of}
use Rattle.jobs.specs.Packs.{read_job, read_proposal}
use Rattle.std.specs.Prelude.{Result, Ok, Err}
use Rattle.packs.specs.Reading.{Outcome}
use Rattle.refusals.specs.declared.Refusal.{Refusal}
use Rattle.measure.specs.declared.opening.Counts.{Counts}

-- The numbers of a proposal pack, read for the counts of a job pack; none where the job is refused.
abbrev pub if_read : Outcome → List ℤ → List ℤ
if_read (Ok k) ws = ws
if_read (Err r) ws = []

abbrev pub proposal_words : (job proposal : List ℕ) → List ℤ
proposal_words job proposal =
    if_read (read_job job).outcome (read_proposal (job_of (read_job job).words).cells (job_of (read_job job).words).links proposal).words

-- Both packs with the counts of their words, or the refusal of the first that does not read.
abbrev pub Opened : Type 0
Opened = Result Counts Refusal

abbrev pub both : (words values : ℕ) → Opened
both words values = Ok (record { words = words; values = values })

abbrev pub opened_for : (words : ℕ) → (proposal : Outcome) → Opened
opened_for words (Ok values) = both words values
opened_for words (Err r) = Err r

abbrev pub opened_with : (job proposal : Outcome) → Opened
opened_with (Ok words) proposal = opened_for words proposal
opened_with (Err r) proposal = Err r

abbrev pub opened_of : (job proposal : List ℕ) → Opened
opened_of job proposal =
    opened_with (read_job job).outcome (read_proposal (job_of (read_job job).words).cells (job_of (read_job job).words).links proposal).outcome
