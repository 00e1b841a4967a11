-- Which numbers each call's answer can have: document 01's tests, one after another.
use Rattle.std.specs.Prelude.{Ok, Err}
use Prim.Native.Nat.{ℕ, ◌+◌, ◌*◌, ◌≤◌}
use mathlib.Core.Path.{◌≡◌, refl, sym, subst}
use mathlib.Core.Logic.{◌⊎◌, inl, inr}
use mathlib.Core.Bool.{Bool, true, false, cond}
use mathlib.Core.List.{List, [], ◌∷◌}
use native.Mathlib.Omega.{arith}
use lib.Dec.{leb, ltb}
use lib.IntN.{ℤ, nat_abs}
use lib.Signed.{le_z}
use lib.ListN.{length, drop}
use Rattle.std.specs.Prelude.{if◌then◌else◌}
use Rattle.packs.specs.Writing.{Written, refused, in_room, roomed}
use Rattle.packs.proofs.Near.{Near}
use Rattle.jobs.specs.Job.{Job}
use Rattle.jobs.specs.Words.{job_of}
use Rattle.jobs.specs.Allowed.{Allowed}
use Rattle.jobs.specs.Packs.{handed_out, read_job, read_job_into, write_job, write_proposal}
use Rattle.jobs.proofs.Near.{job_read_near, job_written_near}
use Rattle.jobs.proofs.Readings.{read_jobs_allowed}
use Rattle.factor.specs.Factor.{Ending}
use Rattle.measure.specs.Loss.{loss_of}
use Rattle.measure.specs.Gap.{gap_of}
use Rattle.measure.specs.Largest.{largest_place}
use Rattle.measure.specs.Check.{Verdict, accepting, lowest_failing, in_box, holds as kept, verdict_of, values_of, multipliers_of, check_of, verdict_for}
use Rattle.house.specs.Proposal.{words_of, on_ending, solved_of, proposed_of, on_job_read, propose_of}
use Rattle.house.proofs.Writable.{house_writes}
use Rattle.checked.specs.Answers.{Reply, refusal, done, answer_of}
use Rattle.checked.specs.Checked.{checked_of}
use Rattle.std.specs.Prelude.{Option, Some, None}
use Rattle.slots.specs.Slots.{head_size, values_end, lowest, has_job, at_slot}
use Rattle.counts.specs.Counts.{Tested, societies, shelf_words, test_shelf, on_tested, row_in}
use Rattle.refusals.specs.Refusals.{number_of, place_of}
use Rattle.counts.proofs.Tests.{refused_either}
use Rattle.shelf.specs.Shelf.{forget_reply, Layout, layout_in, span_of, from_society, keep_reply, fetch_from, fetch_reply, forgot_reply}
use Rattle.shelf.specs.Fetched.{most_value, most_multiplier, lowest_above, or_six, proposal_of, kept_verdict, handed as handedTo, same_counts, fetch_table, kept_cells, kept_links, kept_values, kept_multipliers, fetch_at, fetch_in, on_job}
use Rattle.shelf.specs.Calls.{keep, fetch, forget, own, clear, laid_said, said}
use Rattle.bench.specs.Calls.{outcome_of}
use Rattle.claims.specs.BenchPromises.{Among}
use Rattle.claims.proofs.Unwritten.{handed}
use Rattle.claims.proofs.Accepted.{no_other_refusal}
use Rattle.refusals.specs.declared.Refusal.TheVariants.{BadProposal, OutsideBox, BrokenLink, GapAbove}
use Rattle.packs.specs.Reading.{Outcome}
use Rattle.refusals.specs.declared.Refusal.TheVariants.{NoRoom, NotProposed}

-- ---- the check

pub check_number : (job proposal : List ℕ) → Among (13 ∷ []) 9 (answer_of (check_of job proposal)).number
check_number job proposal = go (check_of job proposal) refl
  where
    go : (v : Verdict) → check_of job proposal ≡ v → Among (13 ∷ []) 9 (answer_of v).number
    go (Ok f) e = inr (omega arith)
    go (Err r) e = inr (no_other_refusal job proposal r e).1

-- ---- packs

-- done is 0, or 13 where there is no room; a refusal stays as it is
pub room_number : (others : List ℕ) (most room : ℕ) (bytes : List ℕ) (o : Outcome) → Among others most 13 → Among others most (outcome_of o).number
    → Among others most (outcome_of (in_room room bytes o).outcome).number
room_number others most room bytes (Err r) t h = h
room_number others most room bytes (Ok n) t h = go (ltb room n)
  where
    go : (b : Bool) → Among others most (outcome_of (if b then refused (NoRoom n) else record { bytes = bytes; outcome = Ok n }).outcome).number
    go true = t
    go false = h

near_number : (o : Outcome) → Near 20920 o → Among (13 ∷ []) 5 (outcome_of o).number
near_number (Ok n) h = inr (omega arith)
near_number (Err r) h = inr h.1

pub write_number : (room : ℕ) (words : List ℤ) → Among (13 ∷ []) 5 (outcome_of (roomed room (write_job words)).outcome).number
write_number room words =
    room_number (13 ∷ []) 5 room (write_job words).bytes (write_job words).outcome (inl refl) (near_number (write_job words).outcome (job_written_near words))

handed_number : (room : ℕ) (words : List ℤ) (o : Outcome) → Among (13 ∷ []) 5 (outcome_of o).number
    → Among (13 ∷ []) 5 (outcome_of (handed_out room words o).outcome).number
handed_number room words (Err r) h = h
handed_number room words (Ok n) h = go (ltb room n)
  where
    go : (b : Bool) → Among (13 ∷ []) 5 (outcome_of (handed n words b).outcome).number
    go true = inl refl
    go false = h

pub read_number : (room : ℕ) (job : List ℕ) → Among (13 ∷ []) 5 (outcome_of (read_job_into room job).outcome).number
read_number room job = handed_number room (read_job job).words (read_job job).outcome (near_number (read_job job).outcome (job_read_near job))

-- ---- the house proposal

abbrev HouseNumber : Written → Type 0
HouseNumber w = Among (10 ∷ 13 ∷ 20 ∷ []) 5 (outcome_of w.outcome).number

done_number : (room : ℕ) (w : Written) (n : ℕ) → w.outcome ≡ Ok n → HouseNumber (roomed room w)
done_number room w n e = room_number (10 ∷ 13 ∷ 20 ∷ []) 5 room w.bytes w.outcome (inr (inl refl)) (rw e (inr (inr (inr (omega arith)))))

proposed_number : (room : ℕ) (j : Job) → Allowed j → HouseNumber (proposed_of room j)
unfolding proposed_of
proposed_number room j A = wide (ltb 12 j.columns) (go (solved_of j).ending)
  where
    wide : (b : Bool) → HouseNumber (on_ending room j (solved_of j).values (solved_of j).ending) → HouseNumber (if b then refused NotProposed else on_ending room j (solved_of j).values (solved_of j).ending)
    wide true h = inr (inr (inl refl))
    wide false h = h

    go : (e : Ending) → HouseNumber (on_ending room j (solved_of j).values e)
    go (Ok whole) = let w = house_writes j A (solved_of j).values in done_number room (write_proposal j.cells j.links (words_of j (solved_of j).values)) w.0 w.1
    go (Err thin) = inl refl

pub propose_number : (room : ℕ) (job : List ℕ) → HouseNumber (propose_of room job)
propose_number room job = go (read_job job).outcome refl (job_read_near job)
  where
    go : (o : Outcome) → (read_job job).outcome ≡ o → Near 20920 o → HouseNumber (on_job_read room (read_job job).words o)
    go (Ok k) e h = proposed_number room (job_of (read_job job).words) (read_jobs_allowed job k e)
    go (Err r) e h = inr (inr (inr h.1))

-- ---- the shelf

abbrev Held : Reply → Type 0
Held r = Among (11 ∷ 12 ∷ 13 ∷ 22 ∷ []) 0 r.answer.number

held_done : Among (11 ∷ 12 ∷ 13 ∷ 22 ∷ []) 0 0
held_done = inr (inr (inr (inr (omega arith))))

abbrev Presented : Reply → Type 0
Presented r = Among (12 ∷ 13 ∷ 22 ∷ []) 9 r.answer.number

abbrev Nine : Verdict → Type 0
Nine v = (answer_of v).number ≤ 9

six_number : (first most : ℕ) (numbers : List ℕ) (later : Verdict) → Nine later → Nine (or_six first most numbers later)
six_number first most numbers later h = go (ltb (lowest_above most numbers) (length numbers))
  where
    go : (b : Bool) → Nine (if b then Err (BadProposal (first + lowest_above most numbers)) else later)
    go true = omega arith
    go false = h

verdict_number : (j : Job) (v y : ℕ → ℤ) → Nine (verdict_of j v y)
unfolding verdict_of
verdict_number j v y = go (ltb (lowest_failing (in_box j v) j.cells) j.cells) (ltb (lowest_failing (kept j v) j.links) j.links) (le_z (gap_of j v y) j.tolerance)
  where
    go : (a b c : Bool)
        → Nine (if a then Err (OutsideBox (lowest_failing (in_box j v) j.cells)) else (if b then Err (BrokenLink (lowest_failing (kept j v) j.links)) else (if c then accepting (loss_of j v) (gap_of j v y) else Err (GapAbove (largest_place j v y)))))
    go true b c = omega arith
    go false true c = omega arith
    go false false true = omega arith
    go false false false = omega arith

kept_number : (j : Job) (v y : List ℕ) → Nine (kept_verdict j v y)
unfolding kept_verdict
kept_number j v y =
    let last = verdict_for j (proposal_of v y) in
    six_number head_size most_value v (or_six values_end most_multiplier y last)
    (six_number values_end most_multiplier y last (verdict_number j (values_of (proposal_of v y)) (multipliers_of j.cells (proposal_of v y))))

handed_out_number : (room : ℕ) (v : List ℕ) (w : Verdict) → Nine w → Presented (handedTo room v w)
handed_out_number room v (Err r) h = inr (inr (inr h))
handed_out_number room v (Ok f) h = go (leb (length v) room)
  where
    go : (b : Bool) → Presented (cond b (record { answer = record { number = 0; place = length v; loss = nat_abs f.loss; gap = nat_abs f.gap }; values = v }) (refusal 13 (length v)))
    go true = inr (inr (inr (omega arith)))
    go false = inr (inl refl)

table_number : (j : Job) (room cells links : ℕ) (v y : List ℕ) → Presented (fetch_table j room cells links v y)
unfolding fetch_table
table_number j room cells links v y = go (same_counts j cells links)
  where
    go : (b : Bool) → Presented (cond b (handedTo room v (kept_verdict j v y)) (refusal 12 0))
    go true = handed_out_number room v (kept_verdict j v y) (kept_number j v y)
    go false = inl refl

fetch_in_number : (w c : ℕ) (j : Job) (room : ℕ) (s : List ℕ) → Presented (fetch_in w c j room s)
unfolding fetch_in fetch_at
fetch_in_number w c j room s = go (lowest (has_job j.number) w c s)
  where
    go : (o : Option ℕ) → Presented (at_slot o (λ p. fetch_at j room (drop (w * p) s)) (refusal 12 0))
    go (Some p) = let x = drop (w * p) s in table_number j room (kept_cells x) (kept_links x) (kept_values x) (kept_multipliers x)
    go None = inl refl

fetch_from_number : (l : Layout) (job : List ℕ) (room : ℕ) (shelf : List ℕ) → Presented (fetch_reply l job room shelf)
unfolding fetch_reply
fetch_from_number l job room shelf = go (read_job job).outcome (job_read_near job)
  where
    go : (o : Outcome) → Near 20920 o → Presented (on_job o (fetch_from l (job_of (read_job job).words) room shelf))
    go (Ok k) h = fetch_in_number l.words (l.count (job_of (read_job job).words).society) (job_of (read_job job).words) room (span_of l (job_of (read_job job).words).society shelf)
    go (Err r) h = inr (inr (inr (omega (arith, h.1))))

forget_in_number : (w c job : ℕ) (s : List ℕ) → Held (forget_reply w c job s)
unfolding forget_reply
forget_in_number w c job s = go (lowest (has_job job) w c s)
  where
    go : (o : Option ℕ) → Held (at_slot o (λ p. done) (refusal 12 0))
    go (Some p) = held_done
    go None = inr (inl refl)

society_number : (l : Layout) (society : ℕ) (f : List ℕ → Reply) (shelf : List ℕ) → ((x : List ℕ) → Held (f x)) → Held (from_society l society f shelf)
unfolding from_society
society_number l society f shelf k = go (leb society 7)
  where
    go : (b : Bool) → Held (cond b (f (span_of l society shelf)) (refusal 11 0))
    go true = k (span_of l society shelf)
    go false = inl refl

-- 13 or 22 where the test of the shelf refuses, or what the call says
said_number : (others : List ℕ) (most : ℕ) (row shelf : List ℕ) (r : Reply) → Among others most 13 → Among others most 22 → Among others most r.answer.number
    → Among others most (on_tested (test_shelf row shelf) r refusal).answer.number
said_number others most row shelf r t u h = go (test_shelf row shelf) refl
  where
    either : (number place : ℕ) → ((number ≡ 13) × (place ≡ shelf_words)) ⊎ ((number ≡ 22) × (place ≤ societies)) → Among others most number
    either number place (inl e) = subst (Among others most) (sym e.0) t
    either number place (inr e) = subst (Among others most) (sym e.0) u

    go : (o : Tested) → test_shelf row shelf ≡ o → Among others most (on_tested o r refusal).answer.number
    go (Ok u) e = h
    go (Err r) e = either (number_of r) (place_of r) (refused_either row shelf r e)

pub keep_number : (job proposal shelf : List ℕ) → Among (13 ∷ 22 ∷ []) 9 (said shelf (own (keep job proposal))).answer.number
unfolding keep_reply checked_of
keep_number job proposal shelf =
    said_number (13 ∷ 22 ∷ []) 9 (row_in shelf) shelf (laid_said (layout_in shelf) shelf (keep job proposal)) (inl refl) (inr (inl refl)) (nine (check_number job proposal))
  where
    nine : Among (13 ∷ []) 9 (answer_of (check_of job proposal)).number → Among (13 ∷ 22 ∷ []) 9 (answer_of (check_of job proposal)).number
    nine (inl e) = inl e
    nine (inr h) = inr (inr h)

pub fetch_number : (shelf job : List ℕ) (room : ℕ) → Presented (said shelf (own (fetch job room)))
fetch_number shelf job room =
    said_number (12 ∷ 13 ∷ 22 ∷ []) 9 (row_in shelf) shelf (laid_said (layout_in shelf) shelf (fetch job room)) (inr (inl refl)) (inr (inr (inl refl)))
    (fetch_from_number (layout_in shelf) job room shelf)

pub forget_number : (shelf : List ℕ) (society job : ℕ) → Held (said shelf (own (forget society job)))
unfolding forgot_reply
forget_number shelf society job =
    let l = layout_in shelf in
    said_number (11 ∷ 12 ∷ 13 ∷ 22 ∷ []) 0 (row_in shelf) shelf (laid_said l shelf (forget society job)) (inr (inr (inl refl))) (inr (inr (inr (inl refl))))
    (society_number l society (forget_reply l.words (l.count society) job) shelf (forget_in_number l.words (l.count society) job))

pub clear_number : (counts shelf : List ℕ) → Among (13 ∷ 22 ∷ []) 0 (said shelf (clear counts)).answer.number
clear_number counts shelf = said_number (13 ∷ 22 ∷ []) 0 (row_in counts) shelf done (inl refl) (inr (inl refl)) (inr (inr (omega arith)))
