-- The promises of jobs and proposals that were read (`specs/Promises`): what is read whole is a walk, and a walk is allowed.
use Prim.Native.Nat.{ℕ}
use mathlib.Core.Path.{◌≡◌, ◌∙◌}
use mathlib.Core.List.{List}
use native.Mathlib.Nat.{zero-add}
use lib.ListN.{length}
use Rattle.numbers.proofs.Clash.{clash}
use Rattle.fields.specs.declared.Field.TheVariants.{Society}
use Rattle.fields.specs.Table.{values_from}
use Rattle.packs.specs.Reading.{Outcome, read_from}
use Rattle.jobs.specs.Packs.{read_job, as_six}
use Rattle.jobs.specs.Promises.{ReadJobsAllowed, ReadJobsLaid, ReadWordsCounted, ReadWordsFew, ReadProposalsProposed}
use Rattle.jobs.proofs.Steps.{read_whole}
use Rattle.jobs.proofs.Places.{words_few}
use Rattle.jobs.proofs.Jobs.{JobRead, job_read}
use Rattle.jobs.proofs.Proposals.{proposal_read}
use Rattle.std.specs.Prelude.{Ok, Err}

job_of : (s : List ℕ) (k : ℕ) → (read_job s).outcome ≡ Ok k → JobRead (read_job s).words
job_of s k o = job_read (read_whole Society s k o).steps

pub read_jobs_allowed : ReadJobsAllowed
read_jobs_allowed s k o = (job_of s k o).allowed

pub read_jobs_laid : ReadJobsLaid
read_jobs_laid s k o = (job_of s k o).laid

pub read_words_counted : ReadWordsCounted
read_words_counted s k o = (read_whole Society s k o).count ∙ zero-add (length (read_job s).words)

pub read_words_few : ReadWordsFew
read_words_few s k o = words_few (read_jobs_laid s k o) (read_jobs_allowed s k o)

-- a proposal that ends well is a pack that ends well
-- a proposal that reads was read whole
pub six_done : (o : Outcome) (k : ℕ) → as_six o ≡ Ok k → o ≡ Ok k
six_done (Ok n) k e = e
six_done (Err r) k e = clash (cc)

pub read_proposals_proposed : ReadProposalsProposed
read_proposals_proposed cells links s k o =
    proposal_read cells links (read_whole (values_from cells links) s k (six_done (read_from (values_from cells links) s).outcome k o)).steps
