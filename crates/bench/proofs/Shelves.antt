-- The same for the calls on a shelf, from any words.
use Rattle.std.proofs.Common.{◌≡◌, ℕ, ◌+◌, ◌*◌, ◌≤◌, Bool, true, false, cond, eqb, ltb, leb, ◌⊎◌, List, length, drop, nat_abs, refl, inl, inr, arith, length-take, ltb-true, eqb-true}
use Rattle.std.specs.Prelude.{if◌then◌else◌}
use Rattle.packs.proofs.Near.{Near}
use Rattle.jobs.specs.Job.{Job}
use Rattle.jobs.specs.Words.{job_of}
use Rattle.jobs.specs.Allowed.{Allowed}
use Rattle.jobs.specs.Packs.{read_job}
use Rattle.jobs.proofs.Near.{job_read_near}
use Rattle.jobs.proofs.Readings.{read_jobs_allowed}
use Rattle.measure.specs.Check.{Verdict, accepting, values_of, multipliers_of, verdict_for}
use Rattle.std.specs.Prelude.{Option, Some, None}
use Rattle.slots.specs.Slots.{head_size, values_end, lowest, has_job, at_slot}
use Rattle.std.specs.Prelude.{Ok, Err}
use Rattle.counts.specs.Counts.{Tested, societies, shelf_words, test_shelf, on_tested, row_in}
use Rattle.refusals.specs.Refusals.{number_of, place_of}
use Rattle.counts.proofs.Tests.{refused_either}
use Rattle.checked.specs.Answers.{Reply, refusal, done, answer_of}
use Rattle.shelf.specs.Shelf.{forget_reply, Layout, layout_in, span_of, from_society, keep_reply, fetch_from, fetch_reply, forgot_reply}
use Rattle.checked.specs.Checked.{checked_of}
use Rattle.shelf.specs.Fetched.{most_value, most_multiplier, lowest_above, or_six, proposal_of, kept_verdict, handed, same_counts, fetch_table, kept_cells, kept_links, kept_values, kept_multipliers, fetch_at, fetch_in, on_job}
use Rattle.shelf.specs.Calls.{Own, Call, keep, fetch, forget, own, clear, laid_said, said}
use Rattle.numbers.proofs.Both.{both}
use Rattle.bench.proofs.Small.{Small, verdict_small, check_small}
use Rattle.refusals.specs.declared.Refusal.TheVariants.{BadProposal}
use Rattle.packs.specs.Reading.{Outcome}

refusal_small : (number place : ℕ) → number ≤ 31 → place ≤ 20920 → Small (refusal number place).answer
refusal_small number place h l = record { number = h; place = l }

-- ---- a fetch
six_small : (first most : ℕ) (numbers : List ℕ) (later : Verdict) → first ≤ 127 → length numbers ≤ 160 → Small (answer_of later) → Small (answer_of (or_six first most numbers later))
six_small first most numbers later h n l = go (ltb (lowest_above most numbers) (length numbers)) refl
  where
    go : (t : Bool) → ltb (lowest_above most numbers) (length numbers) ≡ t → Small (answer_of (if t then Err (BadProposal (first + lowest_above most numbers)) else later))
    go true e = record { number = omega arith; place = omega (arith, ltb-true (lowest_above most numbers) (length numbers) e) }
    go false e = l

kept_small : (j : Job) → Allowed j → (v y : List ℕ) → length v ≤ 120 → length y ≤ 160 → Small (answer_of (kept_verdict j v y))
unfolding kept_verdict
kept_small j A v y h k =
    let last = verdict_for j (proposal_of v y) in
    six_small head_size most_value v (or_six values_end most_multiplier y last) (omega arith) (omega arith)
    (six_small values_end most_multiplier y last (omega arith) k (verdict_small j A (values_of (proposal_of v y)) (multipliers_of j.cells (proposal_of v y))))

handed_small : (room : ℕ) (v : List ℕ) (w : Verdict) → length v ≤ 120 → Small (answer_of w) → Small (handed room v w).answer
handed_small room v (Err r) h s = record { number = s.number; place = s.place }
handed_small room v (Ok f) h s = go (leb (length v) room)
  where
    go : (t : Bool) → Small (cond t (record { answer = record { number = 0; place = length v; loss = nat_abs f.loss; gap = nat_abs f.gap }; values = v }) (refusal 13 (length v))).answer
    go true = record { number = omega arith; place = omega arith }
    go false = record { number = omega arith; place = omega arith }

table_small : (j : Job) → Allowed j → (room cells links : ℕ) (v y : List ℕ) → length v ≤ cells → length y ≤ links → Small (fetch_table j room cells links v y).answer
unfolding fetch_table
table_small j A room cells links v y h k = go (same_counts j cells links) refl
  where
    go : (t : Bool) → same_counts j cells links ≡ t → Small (cond t (handed room v (kept_verdict j v y)) (refusal 12 0)).answer
    go true e =
        let c = eqb-true cells j.cells (both (eqb cells j.cells) (eqb links j.links) e).0 in
        let l = eqb-true links j.links (both (eqb cells j.cells) (eqb links j.links) e).1 in
        let few : length v ≤ 120 = omega (arith, A.cells_few) in
        handed_small room v (kept_verdict j v y) few (kept_small j A v y few (omega (arith, A.links_few)))
    go false e = refusal_small 12 0 (omega arith) (omega arith)

in_small : (w c : ℕ) (j : Job) → Allowed j → (room : ℕ) (s : List ℕ) → Small (fetch_in w c j room s).answer
unfolding fetch_in fetch_at
in_small w c j A room s = go (lowest (has_job j.number) w c s)
  where
    go : (o : Option ℕ) → Small (at_slot o (λ p. fetch_at j room (drop (w * p) s)) (refusal 12 0)).answer
    go (Some p) =
        let x = drop (w * p) s in
        table_small j A room (kept_cells x) (kept_links x) (kept_values x) (kept_multipliers x)
        (omega (arith, length-take (kept_cells x) (drop head_size x))) (omega (arith, length-take (kept_links x) (drop values_end x)))
    go None = refusal_small 12 0 (omega arith) (omega arith)

fetch_small : (l : Layout) (job : List ℕ) (room : ℕ) (shelf : List ℕ) → Small (fetch_reply l job room shelf).answer
unfolding fetch_reply
fetch_small l job room shelf = go (read_job job).outcome refl (job_read_near job)
  where
    go : (o : Outcome) → (read_job job).outcome ≡ o → Near 20920 o → Small (on_job o (fetch_from l (job_of (read_job job).words) room shelf)).answer
    go (Ok k) e h = in_small l.words (l.count (job_of (read_job job).words).society) (job_of (read_job job).words) (read_jobs_allowed job k e) room (span_of l (job_of (read_job job).words).society shelf)
    go (Err r) e h = record { number = omega (arith, h.1); place = h.2 }

forget_small : (w c job : ℕ) (s : List ℕ) → Small (forget_reply w c job s).answer
unfolding forget_reply
forget_small w c job s = go (lowest (has_job job) w c s)
  where
    go : (o : Option ℕ) → Small (at_slot o (λ p. done) (refusal 12 0)).answer
    go (Some p) = refusal_small 0 0 (omega arith) (omega arith)
    go None = refusal_small 12 0 (omega arith) (omega arith)

society_small : (l : Layout) (society : ℕ) (f : List ℕ → Reply) (shelf : List ℕ) → ((x : List ℕ) → Small (f x).answer) → Small (from_society l society f shelf).answer
unfolding from_society
society_small l society f shelf k = go (leb society 7)
  where
    go : (t : Bool) → Small (cond t (f (span_of l society shelf)) (refusal 11 0)).answer
    go true = k (span_of l society shelf)
    go false = refusal_small 11 0 (omega arith) (omega arith)

laid_small : (l : Layout) (shelf : List ℕ) (call : Own) → Small (laid_said l shelf call).answer
unfolding keep_reply checked_of forgot_reply
laid_small l shelf (keep job proposal) = check_small job proposal
laid_small l shelf (fetch job room) = fetch_small l job room shelf
laid_small l shelf (forget society job) = society_small l society (forget_reply l.words (l.count society) job) shelf (forget_small l.words (l.count society) job)

-- ---- by the test of the shelf
tested_small : (row shelf : List ℕ) (r : Reply) → Small r.answer → Small (on_tested (test_shelf row shelf) r refusal).answer
tested_small row shelf r s = go (test_shelf row shelf) refl
  where
    either : (number place : ℕ) → ((number ≡ 13) × (place ≡ shelf_words)) ⊎ ((number ≡ 22) × (place ≤ societies)) → Small (refusal number place).answer
    either number place (inl h) = refusal_small number place (omega (arith, h.0)) (omega (arith, h.1))
    either number place (inr h) = refusal_small number place (omega (arith, h.0)) (omega (arith, h.1))

    go : (o : Tested) → test_shelf row shelf ≡ o → Small (on_tested o r refusal).answer
    go (Ok u) e = s
    go (Err r) e = either (number_of r) (place_of r) (refused_either row shelf r e)

pub said_small : (shelf : List ℕ) (call : Call) → Small (said shelf call).answer
said_small shelf (own call) = tested_small (row_in shelf) shelf (laid_said (layout_in shelf) shelf call) (laid_small (layout_in shelf) shelf call)
said_small shelf (clear counts) = tested_small (row_in counts) shelf done (refusal_small 0 0 (omega arith) (omega arith))
