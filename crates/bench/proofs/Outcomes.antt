-- The same for how reading, writing and proposing end.
use Rattle.std.proofs.Common.{◌≡◌, ℕ, ◌+◌, ◌*◌, ◌≤◌, Bool, true, false, eqb, ltb, List, [], ℤ, sym, refl, ap, subst, arith, eqb-true, Ok, Err}
use Rattle.std.specs.Prelude.{if◌then◌else◌}
use Rattle.fields.specs.Table.{values_from}
use Rattle.packs.specs.Reading.{Outcome, Ran}
use Rattle.packs.specs.Writing.{refused, in_room, roomed, write_from}
use Rattle.packs.proofs.Near.{Near}
use Rattle.jobs.specs.Job.{Job}
use Rattle.jobs.specs.Words.{job_of}
use Rattle.jobs.specs.Allowed.{Allowed}
use Rattle.jobs.specs.Packs.{as_six, handed_out, read_job, read_job_into, write_job, write_proposal}
use Rattle.jobs.proofs.Readings.{read_jobs_allowed}
use Rattle.jobs.proofs.Near.{job_read_near, job_written_near, proposal_written_near}
use Rattle.factor.specs.Factor.{Ending}
use Rattle.measure.specs.Check.{Verdict, accepting, on_read, proposal_verdict, check_of}
use Rattle.terms.specs.Listing.{end_of, terms_of}
use Rattle.house.specs.Proposal.{words_of, on_ending, solved_of, proposed_of, on_job_read, propose_of}
use Rattle.house.proofs.Thin.{thin_cell}
use Rattle.checked.specs.Answers.{answer_of}
use Rattle.bench.specs.Calls.{outcome_of}
use Rattle.bench.proofs.Small.{Small, check_small}
use Rattle.std.specs.Prelude.{Ok, Err}
use Rattle.refusals.specs.declared.Refusal.{Refusal}
use Rattle.refusals.specs.Refusals.{number_of, place_of}
use Rattle.refusals.specs.declared.Refusal.TheVariants.{NoRoom}
use Rattle.refusals.specs.declared.Refusal.{Refusal}
use Rattle.refusals.specs.Refusals.{number_of, place_of}
use Rattle.refusals.specs.declared.Refusal.TheVariants.{NoRoom, NotProposed}

-- ---- room

pub in_room_small : (room : ℕ) (bytes : List ℕ) (o : Outcome) → Small (outcome_of o) → Small (outcome_of (in_room room bytes o).outcome)
in_room_small room bytes (Ok n) s = go (ltb room n)
  where
    go : (t : Bool) → Small (outcome_of (if t then refused (NoRoom n) else record { bytes = bytes; outcome = Ok n }).outcome)
    go true = record { number = omega arith; place = s.place }
    go false = s
in_room_small room bytes (Err r) s = s

handed_small : (room : ℕ) (words : List ℤ) (o : Outcome) → Small (outcome_of o) → Small (outcome_of (handed_out room words o).outcome)
handed_small room words (Ok k) s = go (ltb room k)
  where
    go : (t : Bool) → Small (outcome_of (if◌then◌else◌ {A = Ran} t (record { words = []; outcome = Err (NoRoom k) }) (record { words = words; outcome = Ok k })).outcome)
    go true = record { number = omega arith; place = s.place }
    go false = s
handed_small room words (Err r) s = s

-- ---- packs

near_small : (o : Outcome) → Near 20920 o → Small (outcome_of o)
near_small (Ok n) h = record { number = omega arith; place = h }
near_small (Err r) h = record { number = omega (arith, h.1); place = h.2 }

six_small : (o : Outcome) → Near 2800 o → Small (outcome_of (as_six o))
six_small (Ok n) h = record { number = omega arith; place = omega arith }
six_small (Err r) h = record { number = omega arith; place = omega (arith, h.2) }

pub read_small : (room : ℕ) (job : List ℕ) → Small (outcome_of (read_job_into room job).outcome)
read_small room job = handed_small room (read_job job).words (read_job job).outcome (near_small (read_job job).outcome (job_read_near job))

pub write_small : (room : ℕ) (words : List ℤ) → Small (outcome_of (roomed room (write_job words)).outcome)
write_small room words =
    in_room_small room (write_job words).bytes (write_job words).outcome (near_small (write_job words).outcome (job_written_near words))

-- ---- the house proposal

-- a proposal's words written
pub proposal_small : (room : ℕ) (j : Job) → Allowed j → (ws : List ℤ) → Small (outcome_of (roomed room (write_proposal j.cells j.links ws)).outcome)
proposal_small room j A ws =
    let w = write_proposal j.cells j.links ws in
    in_room_small room w.bytes w.outcome
    (six_small (write_from ws (values_from j.cells j.links) 0).outcome (proposal_written_near j.cells j.links A.cells_few A.links_few ws))

proposed_small : (room : ℕ) (j : Job) → Allowed j → Small (outcome_of (proposed_of room j).outcome)
unfolding proposed_of
proposed_small room j A = wide (ltb 12 j.columns) (go (solved_of j).ending refl)
  where
    go : (e : Ending) → (solved_of j).ending ≡ e → Small (outcome_of (on_ending room j (solved_of j).values e).outcome)
    go (Ok whole) q = proposal_small room j A (words_of j (solved_of j).values)
    go (Err thin) q = record { number = omega arith; place = omega (arith, thin_cell j thin q, A.cells_few) }

    wide : (b : Bool) → Small (outcome_of (on_ending room j (solved_of j).values (solved_of j).ending).outcome)
        → Small (outcome_of (if b then refused NotProposed else on_ending room j (solved_of j).values (solved_of j).ending).outcome)
    wide true s = record { number = omega arith; place = omega arith }
    wide false s = s

pub propose_small : (room : ℕ) (job : List ℕ) → Small (outcome_of (propose_of room job).outcome)
propose_small room job = go (read_job job).outcome refl (job_read_near job)
  where
    go : (o : Outcome) → (read_job job).outcome ≡ o → Near 20920 o → Small (outcome_of (on_job_read room (read_job job).words o).outcome)
    go (Ok k) e h = proposed_small room (job_of (read_job job).words) (read_jobs_allowed job k e)
    go (Err r) e h = record { number = omega (arith, h.1); place = h.2 }

-- ---- the terms handed out

end_small : (count : ℕ) → count ≤ 840 → (v : Verdict) → Small (answer_of v) → Small (outcome_of (end_of count v))
end_small count few (Ok f) s = record { number = omega arith; place = omega arith }
end_small count few (Err r) s = go (eqb (number_of r) 9)
  where
    go : (b : Bool) → Small (outcome_of (if b then Ok count else Err r))
    go true = record { number = omega arith; place = omega arith }
    go false = record { number = s.number; place = s.place }

-- a refusal of the job pack's is none of a gap, so no count is told
unread_small : (count : ℕ) (r : Refusal) → number_of r ≤ 5 → place_of r ≤ 20920 → Small (outcome_of (end_of count (Err r)))
unread_small count r h k = go (eqb (number_of r) 9) refl
  where
    go : (b : Bool) → eqb (number_of r) 9 ≡ b → Small (outcome_of (if b then Ok count else Err r))
    go true e = absurd (omega (arith, h, eqb-true (number_of r) 9 e))
    go false e = record { number = omega arith; place = k }

pub terms_small : (room : ℕ) (job proposal : List ℕ) → Small (outcome_of (terms_of room job proposal).outcome)
terms_small room job proposal = handed_small room _ (end_of count (check_of job proposal)) (go (read_job job).outcome refl (job_read_near job))
  where
    j : Job
    j = job_of (read_job job).words

    count : ℕ
    count = 3 * (j.cells + j.links)

    go : (o : Outcome) → (read_job job).outcome ≡ o → Near 20920 o → Small (outcome_of (end_of count (check_of job proposal)))
    go (Ok k) e h = let A = read_jobs_allowed job k e in end_small count (omega (arith, A.cells_few, A.links_few)) (check_of job proposal) (check_small job proposal)
    go (Err r) e h =
        subst (λ (v : Verdict). Small (outcome_of (end_of count v))) (sym (ap (λ (o : Outcome). on_read o (proposal_verdict j proposal)) e)) (unread_small count r h.1 h.2)
