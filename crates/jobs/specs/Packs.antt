-- The two packs of document 01, "Packs": a job pack is walked from its society on, a proposal pack from its first value on.
use Rattle.std.specs.Prelude.{ℕ, List, [], ltb, ℤ}
use Rattle.std.specs.Prelude.{if◌then◌else◌}
use Rattle.fields.specs.declared.Field.TheVariants.{Society}
use Rattle.fields.specs.Table.{values_from}
use Rattle.packs.specs.Reading.{Outcome, Ran, read_from}
use Rattle.packs.specs.Writing.{Written, write_from}
use Rattle.jobs.specs.Job.{Job}
use Rattle.jobs.specs.Words.{job_of}
use Rattle.std.specs.Prelude.{Ok, Err}
use Rattle.refusals.specs.declared.Refusal.TheVariants.{BadProposal, NoRoom}
use Rattle.refusals.specs.Refusals.{place_of}

abbrev pub read_job : List ℕ → Ran
read_job s = read_from Society s

-- The job of a job pack, which says something only where the pack reads.
abbrev pub job_in : (job : List ℕ) → Job
job_in job = job_of (read_job job).words

abbrev pub write_job : List ℤ → Written
write_job ws = write_from ws Society 0

-- "Output room comes last, when the needed length is known": a job's words, handed out to a lender with room for so many; a refusal hands out none.
abbrev pub handed_out : (room : ℕ) → List ℤ → Outcome → Ran
handed_out room ws (Ok k) = if ltb room k then record { words = []; outcome = Err (NoRoom k) } else record { words = ws; outcome = Ok k }
handed_out room ws (Err r) = record { words = []; outcome = Err r }

abbrev pub read_job_into : (room : ℕ) → List ℕ → Ran
read_job_into room s = handed_out room (read_job s).words (read_job s).outcome

-- "6: proposal pack: unreadable, spare bytes, not allowed: offset as above"
abbrev pub as_six : Outcome → Outcome
as_six (Ok k) = Ok k
as_six (Err r) = Err (BadProposal (place_of r))

-- "Proposal pack: n values, then one multiplier per link, nothing after."
abbrev pub read_proposal : (cells links : ℕ) → List ℕ → Ran
read_proposal cells links s =
    record { words = (read_from (values_from cells links) s).words; outcome = as_six (read_from (values_from cells links) s).outcome }

abbrev pub write_proposal : (cells links : ℕ) → List ℤ → Written
write_proposal cells links ws =
    record { bytes = (write_from ws (values_from cells links) 0).bytes; outcome = as_six (write_from ws (values_from cells links) 0).outcome }
