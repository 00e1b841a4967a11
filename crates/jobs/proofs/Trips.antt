-- The promises on writing: what is allowed is written; the round trips and the refusals of `packs` hold from any first field.
use Prim.Native.Nat.{ℕ, ◌+◌, ◌-◌, ◌≤◌}
use mathlib.Core.Path.{◌≡◌, refl, sym, ap, subst, ◌∙◌}
use mathlib.Core.Bool.{Bool, true, false}
use mathlib.Core.List.{List}
use native.Mathlib.Omega.{arith}
use borrow.Author.Tests.{ltb-true, ltb-false}
use lib.Dec.{ltb, lit<}
use lib.IntN.{ℤ, pos, nat_abs}
use lib.ListN.{length, get_or-eq_default}
use Rattle.whole.proofs.Fits.{small_fits}
use Rattle.fields.specs.declared.Field.TheVariants.{Society}
use Rattle.fields.specs.Table.{values_from}
use Rattle.packs.specs.Reading.{Outcome, Ran}
use Rattle.packs.specs.Promises.{read_as}
use Rattle.packs.specs.Writing.{Written, write_from}
use Rattle.packs.proofs.Trips.{writing_back, reading_back, refusing_alike}
use Rattle.jobs.specs.Words.{word_at}
use Rattle.jobs.specs.Allowed.{Proposed}
use Rattle.jobs.specs.Packs.{as_six, read_proposal, write_proposal}
use Rattle.jobs.specs.Promises.{AllowedJobsWritten, AllowedProposalsWritten, JobsWrittenBack, JobsReadBack, ProposalsReadBack, JobsRefusedAlike, ProposalsRefusedAlike}
use Rattle.jobs.proofs.Readings.{six_done}
use Rattle.jobs.proofs.Writable.{job_passes}
use Rattle.jobs.proofs.Packable.{proposal_packed}
use Rattle.std.specs.Prelude.{Ok, Err}

pub allowed_jobs_written : AllowedJobsWritten
allowed_jobs_written ws L A = job_passes ws L A

pub allowed_proposals_written : AllowedProposalsWritten
allowed_proposals_written cells links ws P =
    let w = proposal_packed ws P in
    (w.0, ap (λ (v : Written). as_six v.outcome) w.1)

pub jobs_written_back : JobsWrittenBack
jobs_written_back = writing_back Society

pub jobs_read_back : JobsReadBack
jobs_read_back = reading_back Society

pub jobs_refused_alike : JobsRefusedAlike
jobs_refused_alike = refusing_alike Society

pub proposals_read_back : ProposalsReadBack
proposals_read_back cells links ws h n o =
    ap (λ (r : Ran). record { words = r.words; outcome = as_six r.outcome })
    (reading_back (values_from cells links) ws h n (six_done (write_from ws (values_from cells links) 0).outcome n o))

-- what is allowed is small enough: it reads back, however it came about
proposed_small : {cells links : ℕ} {ws : List ℤ} → Proposed cells links ws → (i : ℕ) → nat_abs (word_at ws i) ≤ 1000000000
proposed_small {cells} {links} {ws} P i = go (ltb i cells) (ltb i (cells + links)) refl refl
  where
    go : (a b : Bool) → ltb i cells ≡ a → ltb i (cells + links) ≡ b → nat_abs (word_at ws i) ≤ 1000000000
    go true b e f = omega (arith, (P.value i (ltb-true i cells e)).small)
    go false true e f =
        let h = ltb-false i cells e in
        let l = ltb-true i (cells + links) f in
        let q : cells + (i - cells) ≡ i = omega arith in
        subst (λ (m : ℕ). nat_abs (word_at ws m) ≤ 1000000000) q (P.multiplier (i - cells) (omega arith)).small
    go false false e f =
        let h = ltb-false i (cells + links) f in
        let q : word_at ws i ≡ pos 0 = get_or-eq_default ws (pos 0) (omega (arith, P.count)) in
        subst (λ (z : ℤ). nat_abs z ≤ 1000000000) (sym q) (omega arith)

pub proposed_read_back : (cells links : ℕ) (ws : List ℤ) → Proposed cells links ws
    → read_proposal cells links (write_proposal cells links ws).bytes ≡ record { words = ws; outcome = Ok (length ws) }
proposed_read_back cells links ws P =
    let w = allowed_proposals_written cells links ws P in
    proposals_read_back cells links ws (λ i. small_fits (word_at ws i) (proposed_small P i) (lit< tt)) w.0 w.1

-- 6 is the same on both sides
six_alike : (ws : List ℤ) (o : Outcome) → as_six (read_as ws o) ≡ read_as ws (as_six o)
six_alike ws (Ok n) = refl
six_alike ws (Err r) = refl

pub proposals_refused_alike : ProposalsRefusedAlike
proposals_refused_alike cells links ws s p =
    ap as_six (refusing_alike (values_from cells links) ws s p) ∙ six_alike ws (write_from ws (values_from cells links) 0).outcome
