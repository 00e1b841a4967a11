-- The house proposal at the check: its job pack reads, its proposal pack reads, and its values lie in their boxes, so no refusal below 8 is left.
use Prim.Native.Nat.{ℕ, ◌≤◌, ◌<◌}
use mathlib.Core.Path.{◌≡◌, refl, subst}
use mathlib.Core.Bool.{Bool, true, false}
use mathlib.Core.List.{List}
use native.Mathlib.Omega.{arith}
use borrow.Author.Tests.{leb-true, leb-false, eqb-true, eqb-false}
use lib.Dec.{leb, eqb}
use lib.IntN.{ℤ}
use Rattle.numbers.proofs.Clash.{clash}
use Rattle.jobs.specs.Packs.{job_in, read_job}
use Rattle.measure.specs.Check.{check_of}
use Rattle.house.specs.Proposal.{on_job_read, propose_of}
use Rattle.house.specs.Promises.{Fit, ProposalsFit}
use Rattle.house.proofs.Fitting as Fitting
use Rattle.claims.specs.Read.{proposal_in, Reads}
use Rattle.claims.specs.Verdicts.{Outside}
use Rattle.claims.specs.HousePromises.{HouseUnprivileged}
use Rattle.claims.proofs.Accepted.{job_refused_exactly, proposal_refused_exactly, outside_exactly}
use Rattle.std.specs.Prelude.{Ok, Err}
use Rattle.packs.specs.Reading.{Outcome}
use Rattle.refusals.specs.declared.Refusal.{Refusal}
use Rattle.refusals.specs.declared.Refusal.TheVariants.{Unreadable, NotAllowed, FloorAbove, TooFewWeights, BadTerm, BadProposal, OutsideBox, BrokenLink, GapAbove, TooThin, NoSociety, NothingKept, NoRoom, NotReached, BadLine, OutOfSequence, DeathsAbove, NoDivisor, NotProposed, PassesNotAllowed, CountsNotAllowed}
use Rattle.refusals.specs.Refusals.{number_of}

-- whatever the house proposes is a proposal pack that reads back, with values inside their boxes and multipliers 0
pub house_fits : ProposalsFit
house_fits = Fitting.proposals_fit

-- a house proposal is made for a job that reads
job_reads : (room : ℕ) (ws : List ℤ) (o : Outcome) (n : ℕ) → (on_job_read room ws o).outcome ≡ Ok n → Reads o
job_reads room ws (Ok k) n e = (k, refl)
job_reads room ws (Err r) n e = clash (cc)

pub house_unprivileged : HouseUnprivileged
house_unprivileged room job n e r c = go r c
  where
    proposal : List ℕ
    proposal = (propose_of room job).bytes

    reads : Reads (read_job job).outcome
    reads = job_reads room (read_job job).words (read_job job).outcome n e

    fit : Fit (job_in job) (proposal_in job proposal)
    fit = house_fits room job n e

    not_refused : {o : Outcome} {k n : ℕ} {r : Refusal} → o ≡ Ok k → o ≡ Err r → 8 ≤ n
    not_refused d r = clash (cc)

    not_outside : {place n : ℕ} → Outside job proposal place → 8 ≤ n
    not_outside {place} o = absurd (o.lowest_cell.itself (fit.above place o.lowest_cell.among, fit.below place o.lowest_cell.among))

    early : (r : Refusal) → number_of r ≤ 5 → check_of job proposal ≡ Err r → 8 ≤ number_of r
    early r h c = not_refused reads.1 ((job_refused_exactly job proposal r h).0 c)

    go : (r : Refusal) → check_of job proposal ≡ Err r → 8 ≤ number_of r
    go (Unreadable at) c = early (Unreadable at) (omega arith) c
    go (NotAllowed at) c = early (NotAllowed at) (omega arith) c
    go (FloorAbove at) c = early (FloorAbove at) (omega arith) c
    go TooFewWeights c = early TooFewWeights (omega arith) c
    go (BadTerm at) c = early (BadTerm at) (omega arith) c
    go (BadProposal at) c = not_refused fit.whole ((proposal_refused_exactly job proposal at).0 c).1
    go (OutsideBox at) c = not_outside ((outside_exactly job proposal at).0 c)
    go (BrokenLink at) c = omega arith
    go (GapAbove at) c = omega arith
    go (TooThin at) c = omega arith
    go NoSociety c = omega arith
    go NothingKept c = omega arith
    go (NoRoom at) c = omega arith
    go (NotReached at) c = omega arith
    go (BadLine at) c = omega arith
    go (OutOfSequence at) c = omega arith
    go (DeathsAbove at) c = omega arith
    go NoDivisor c = omega arith
    go NotProposed c = omega arith
    go PassesNotAllowed c = omega arith
    go (CountsNotAllowed at) c = omega arith
