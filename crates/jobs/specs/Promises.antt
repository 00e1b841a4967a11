-- What is promised of jobs and proposals, read and written.
use Rattle.std.specs.Prelude.{ℕ, ◌≤◌, ◌≡◌, List, ℤ, length}
use Rattle.fields.specs.declared.Field.TheVariants.{Society}
use Rattle.fields.specs.Table.{values_from}
use Rattle.packs.specs.PackOf.{PackOf}
use Rattle.packs.specs.Promises.{AllBytes, AllWords, read_as}
use Rattle.jobs.specs.Words.{job_of}
use Rattle.jobs.specs.Allowed.{Allowed, Laid, Proposed}
use Rattle.jobs.specs.Packs.{read_job, write_job, read_proposal, write_proposal}
use Rattle.std.specs.Prelude.{Ok}

-- ---- what is read

-- A job that is read is allowed, and its words lie as the pack's numbers do; their count is what is answered, and at most 2,092.
abbrev pub ReadJobsAllowed : Type 0
ReadJobsAllowed = (s : List ℕ) (k : ℕ) → (read_job s).outcome ≡ Ok k → Allowed (job_of (read_job s).words)

abbrev pub ReadJobsLaid : Type 0
ReadJobsLaid = (s : List ℕ) (k : ℕ) → (read_job s).outcome ≡ Ok k → Laid (read_job s).words

abbrev pub ReadWordsCounted : Type 0
ReadWordsCounted = (s : List ℕ) (k : ℕ) → (read_job s).outcome ≡ Ok k → k ≡ length (read_job s).words

abbrev pub ReadWordsFew : Type 0
ReadWordsFew = (s : List ℕ) (k : ℕ) → (read_job s).outcome ≡ Ok k → length (read_job s).words ≤ 2092

-- A proposal that is read has a value a cell and a multiplier a link, all in range.
abbrev pub ReadProposalsProposed : Type 0
ReadProposalsProposed =
    (cells links : ℕ) (s : List ℕ) (k : ℕ) → (read_proposal cells links s).outcome ≡ Ok k → Proposed cells links (read_proposal cells links s).words

-- ---- what is allowed

-- "Numbers allowed", and the refusals 3, 4 and 5, from the other side: every job whose numbers are allowed is written, and then `JobsReadBack` reads its
-- pack. So no field asks for more than document 01 does.
abbrev pub AllowedJobsWritten : Type 0
AllowedJobsWritten = (ws : List ℤ) → Laid ws → Allowed (job_of ws) → (n : ℕ) × ((write_job ws).outcome ≡ Ok n)

abbrev pub AllowedProposalsWritten : Type 0
AllowedProposalsWritten = (cells links : ℕ) (ws : List ℤ) → Proposed cells links ws → (n : ℕ) × ((write_proposal cells links ws).outcome ≡ Ok n)

-- ---- there and back

-- "Writing back a job that was read gives the same bytes": all of them, so a 0 in the order field stays 0.
abbrev pub JobsWrittenBack : Type 0
JobsWrittenBack =
    (s : List ℕ) → AllBytes s → (k : ℕ) → (read_job s).outcome ≡ Ok k → write_job (read_job s).words ≡ record { bytes = s; outcome = Ok (length s) }

-- Reading what was written gives the same words.
abbrev pub JobsReadBack : Type 0
JobsReadBack =
    (ws : List ℤ) → AllWords ws → (n : ℕ) → (write_job ws).outcome ≡ Ok n → read_job (write_job ws).bytes ≡ record { words = ws; outcome = Ok (length ws) }

abbrev pub ProposalsReadBack : Type 0
ProposalsReadBack =
    (cells links : ℕ) (ws : List ℤ) → AllWords ws → (n : ℕ) → (write_proposal cells links ws).outcome ≡ Ok n
    → read_proposal cells links (write_proposal cells links ws).bytes ≡ record { words = ws; outcome = Ok (length ws) }

-- "refuses with the number and place that reading its pack would give"
abbrev pub JobsRefusedAlike : Type 0
JobsRefusedAlike = (ws : List ℤ) (s : List ℕ) → PackOf Society ws s → (read_job s).outcome ≡ read_as ws (write_job ws).outcome

abbrev pub ProposalsRefusedAlike : Type 0
ProposalsRefusedAlike =
    (cells links : ℕ) (ws : List ℤ) (s : List ℕ) → PackOf (values_from cells links) ws s
    → (read_proposal cells links s).outcome ≡ read_as ws (write_proposal cells links ws).outcome
