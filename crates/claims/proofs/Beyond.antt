-- No call writes further on than its place: what it makes is no longer than the place says, and a store leaves what lies beyond it.
use Rattle.std.specs.Prelude.{Ok, Err}
use Prim.Native.Nat.{ℕ, zero, suc, ◌+◌, ◌*◌, ◌-◌, ◌≤◌, ◌<◌}
use mathlib.Core.Path.{◌≡◌, refl, sym, ap, ◌∙◌}
use mathlib.Core.Bool.{Bool, true, false, cond}
use mathlib.Core.List.{List, [], ◌∷◌}
use native.Mathlib.Omega.{arith}
use lib.Dec.{leb, ltb}
use lib.IntN.{ℤ, nat_abs}
use lib.Ieee.{Float}
use lib.ListN.{length, drop, set}
use lib.Seq.{sets, drop-drop, drop-append-add}
use Rattle.std.specs.Prelude.{if◌then◌else◌}
use Rattle.fields.specs.declared.Field.TheVariants.{Society}
use Rattle.fields.specs.Table.{values_from}
use Rattle.packs.specs.Writing.{refused, in_room, roomed, write_from}
use Rattle.packs.proofs.Packing.{length_written}
use Rattle.jobs.specs.Job.{Job}
use Rattle.jobs.specs.Words.{job_of}
use Rattle.jobs.specs.Packs.{handed_out, read_job, read_job_into, write_job, write_proposal}
use Rattle.jobs.proofs.Readings.{six_done, read_words_counted}
use Rattle.factor.specs.Factor.{Ending}
use Rattle.house.specs.Proposal.{words_of, on_ending, solved_of, proposed_of, on_job_read, propose_of}
use Rattle.std.specs.Prelude.{Option, Some, None}
use Rattle.slots.specs.Slots.{lowest, has_job, at_slot}
use Rattle.checked.specs.Answers.{Reply, refusal, overwritten}
use Rattle.shelf.specs.Fetched.{kept_verdict, handed as handedTo, same_counts, fetch_table, kept_cells, kept_links, kept_values, kept_multipliers, fetch_at, fetch_in, on_job}
use Rattle.counts.specs.Counts.{Tested, test_shelf, on_tested, row_in}
use Rattle.shelf.specs.Shelf.{Layout, layout_in, span_of, fetch_from, fetch_reply}
use Rattle.shelf.specs.Calls.{own, fetch, laid_said, said}
use Rattle.bench.specs.Calls.{outcome_of}
use Rattle.claims.proofs.Unwritten.{handed}
use Rattle.packs.specs.Reading.{Outcome}
use Rattle.measure.specs.Check.{accepting}
use Rattle.measure.specs.Check.{Verdict}
use Rattle.refusals.specs.declared.Refusal.TheVariants.{NoRoom, NotProposed}

-- ---- stores leave what lies beyond them

drop_set : {A : Type 0} (l : List A) (i m : ℕ) (a : A) → i < m → drop m (set l i a) ≡ drop m l
drop_set l i zero a h = absurd (omega arith)
drop_set [] i (suc m) a h = refl
drop_set (b ∷ l) zero (suc m) a h = refl
drop_set (b ∷ l) (suc i) (suc m) a h = drop_set l i m a (omega arith)

beyond_sets : {A : Type 0} (made l : List A) (i m : ℕ) → i + length made ≤ m → drop m (sets l i made) ≡ drop m l
beyond_sets [] l i m h = refl
beyond_sets (a ∷ made) l i m h = beyond_sets made (set l i a) (suc i) m (omega arith) ∙ drop_set l i m a (omega arith)

pub beyond_made : {A : Type 0} (made l : List A) (m : ℕ) → length made ≤ m → drop m (sets l 0 made) ≡ drop m l
beyond_made made l m h = beyond_sets made l 0 m (omega arith)

pub beyond_values : (values out : List ℕ) (m : ℕ) → length values ≤ m → drop m (overwritten out values) ≡ drop m out
beyond_values values out m h =
    let e : length values + (m - length values) ≡ m = omega arith in
    ap (λ (k : ℕ). drop k (overwritten out values)) (sym e) ∙ drop-append-add values (drop (length values) out) (m - length values)
    ∙ drop-drop (m - length values) (length values) out ∙ ap (λ (k : ℕ). drop k out) e

-- ---- what is made is no longer than the place

abbrev pub Within : {A : Type 0} → Outcome → List A → Type 0
Within o made = length made ≤ (outcome_of o).place

pub room_within : (room : ℕ) (bytes : List ℕ) (o : Outcome) → ((n : ℕ) → o ≡ Ok n → length bytes ≤ n) → Within (in_room room bytes o).outcome (in_room room bytes o).bytes
room_within room bytes (Err r) h = omega arith
room_within room bytes (Ok n) h = go (ltb room n)
  where
    go : (t : Bool) → Within (if t then refused (NoRoom n) else record { bytes = bytes; outcome = Ok n }).outcome (if t then refused (NoRoom n) else record { bytes = bytes; outcome = Ok n }).bytes
    go true = omega arith
    go false = h n refl

pub write_within : (room : ℕ) (words : List ℤ) → Within (roomed room (write_job words)).outcome (roomed room (write_job words)).bytes
write_within room words =
    room_within room (write_job words).bytes (write_job words).outcome (λ n e. omega (arith, length_written words Society 0 n e))

handed_within : (room : ℕ) (words : List ℤ) (o : Outcome) → ((n : ℕ) → o ≡ Ok n → length words ≤ n) → Within (handed_out room words o).outcome (handed_out room words o).words
handed_within room words (Err r) h = omega arith
handed_within room words (Ok n) h = go (ltb room n)
  where
    go : (t : Bool) → Within (handed n words t).outcome (handed n words t).words
    go true = omega arith
    go false = h n refl

pub read_within : (room : ℕ) (job : List ℕ) → Within (read_job_into room job).outcome (read_job_into room job).words
read_within room job = handed_within room (read_job job).words (read_job job).outcome (λ n e. omega (arith, read_words_counted job n e))

-- a proposal's words written
pub proposal_within : (room : ℕ) (j : Job) (ws : List ℤ)
    → Within (roomed room (write_proposal j.cells j.links ws)).outcome (roomed room (write_proposal j.cells j.links ws)).bytes
proposal_within room j ws =
    let w = write_proposal j.cells j.links ws in
    let first = values_from j.cells j.links in
    room_within room w.bytes w.outcome (λ n e. omega (arith, length_written ws first 0 n (six_done (write_from ws first 0).outcome n e)))

ending_within : (room : ℕ) (j : Job) (v : List Float) (e : Ending) → Within (on_ending room j v e).outcome (on_ending room j v e).bytes
ending_within room j v (Ok whole) = proposal_within room j (words_of j v)
ending_within room j v (Err thin) = omega arith

proposed_within : (room : ℕ) (j : Job) → Within (proposed_of room j).outcome (proposed_of room j).bytes
unfolding proposed_of
proposed_within room j = go (ltb 12 j.columns)
  where
    go : (b : Bool) → Within (if b then refused NotProposed else on_ending room j (solved_of j).values (solved_of j).ending).outcome (if b then refused NotProposed else on_ending room j (solved_of j).values (solved_of j).ending).bytes
    go true = omega arith
    go false = ending_within room j (solved_of j).values (solved_of j).ending

on_read_within : (room : ℕ) (words : List ℤ) (o : Outcome) → Within (on_job_read room words o).outcome (on_job_read room words o).bytes
on_read_within room words (Ok k) = proposed_within room (job_of words)
on_read_within room words (Err r) = omega arith

pub propose_within : (room : ℕ) (job : List ℕ) → Within (propose_of room job).outcome (propose_of room job).bytes
propose_within room job = on_read_within room (read_job job).words (read_job job).outcome

-- ---- the values that a fetch hands out

abbrev Handed : Reply → Type 0
Handed r = length r.values ≤ r.answer.place

out_handed : (room : ℕ) (v : List ℕ) (w : Verdict) → Handed (handedTo room v w)
out_handed room v (Err r) = omega arith
out_handed room v (Ok f) = go (leb (length v) room)
  where
    go : (t : Bool) → Handed (cond t (record { answer = record { number = 0; place = length v; loss = nat_abs f.loss; gap = nat_abs f.gap }; values = v }) (refusal 13 (length v)))
    go true = omega arith
    go false = omega arith

table_handed : (j : Job) (room cells links : ℕ) (v y : List ℕ) → Handed (fetch_table j room cells links v y)
unfolding fetch_table
table_handed j room cells links v y = go (same_counts j cells links)
  where
    go : (t : Bool) → Handed (cond t (handedTo room v (kept_verdict j v y)) (refusal 12 0))
    go true = out_handed room v (kept_verdict j v y)
    go false = omega arith

in_handed : (w c : ℕ) (j : Job) (room : ℕ) (s : List ℕ) → Handed (fetch_in w c j room s)
unfolding fetch_in fetch_at
in_handed w c j room s = go (lowest (has_job j.number) w c s)
  where
    go : (o : Option ℕ) → Handed (at_slot o (λ p. fetch_at j room (drop (w * p) s)) (refusal 12 0))
    go (Some p) = let x = drop (w * p) s in table_handed j room (kept_cells x) (kept_links x) (kept_values x) (kept_multipliers x)
    go None = omega arith

from_handed : (l : Layout) (job : List ℕ) (room : ℕ) (shelf : List ℕ) → Handed (fetch_reply l job room shelf)
unfolding fetch_reply
from_handed l job room shelf = go (read_job job).outcome
  where
    go : (o : Outcome) → Handed (on_job o (fetch_from l (job_of (read_job job).words) room shelf))
    go (Ok k) = in_handed l.words (l.count (job_of (read_job job).words).society) (job_of (read_job job).words) room (span_of l (job_of (read_job job).words).society shelf)
    go (Err r) = omega arith

pub fetch_within : (shelf job : List ℕ) (room : ℕ) → Handed (said shelf (own (fetch job room)))
fetch_within shelf job room = go (test_shelf (row_in shelf) shelf)
  where
    go : (o : Tested) → Handed (on_tested o (laid_said (layout_in shelf) shelf (fetch job room)) refusal)
    go (Ok u) = from_handed (layout_in shelf) job room shelf
    go (Err r) = omega arith
