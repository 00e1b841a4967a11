-- The promises of the house proposal: what is done was written whole, so it reads back as the words that were written, and each of them is known.
use Rattle.std.proofs.Common.{◌≡◌, ℕ, ◌+◌, ◌<◌, ◌≤◌, Bool, true, false, ltb, List, length, get_or, replicate, ℤ, pos, sym, refl, ap, ◌∙◌, subst, inr, arith, ltb-false, Ok, Err}
use native.Mathlib.Nat as N
use lib.Ieee.{Float, nan}
use lib.ListN.{length-replicate}
use Rattle.std.specs.Prelude.{if◌then◌else◌}
use Rattle.numbers.proofs.Clash.{clash}
use Rattle.whole.proofs.Order.{pos_mono}
use Rattle.fields.specs.Table.{values_from}
use Rattle.refusals.specs.declared.Refusal.TheVariants.{NoRoom, NotProposed}
use Rattle.packs.specs.Reading.{Outcome, Ran}
use Rattle.packs.specs.Writing.{Written, in_room, refused, write_from}
use Rattle.packs.proofs.Packing.{length_written}
use Rattle.jobs.specs.Job.{Job}
use Rattle.jobs.specs.Words.{word_at, job_of}
use Rattle.jobs.specs.Allowed.{Allowed, Proposed}
use Rattle.jobs.specs.Packs.{read_job, write_proposal}
use Rattle.jobs.proofs.Places.{zeros_at}
use Rattle.jobs.proofs.Readings.{read_jobs_allowed, six_done}
use Rattle.factor.specs.Factor.{Ending}
use Rattle.house.specs.Proposal.{solved_of, value_of, words_of, on_ending, proposed_of, on_job_read}
use Rattle.house.specs.Promises.{Fit, ProposalsFit, ProposalsCounted}
use Rattle.house.proofs.Boxed.{value_between, value_small}
use Rattle.house.proofs.Fills.{filled_at, filled_other, length_filled}
use Rattle.house.proofs.Packable.{proposed_back}

-- ---- what is done was written

-- a writing that is done, with its length
pub record Roomed (room : ℕ) (w r : Written) (n : ℕ) : Type 0 where
  pub ends : w.outcome ≡ Ok n
  pub bytes : r.bytes ≡ w.bytes
  pub room_for : n ≤ room

pub in_room_lem : (room : ℕ) (bytes : List ℕ) (o : Outcome) (n : ℕ) → (in_room room bytes o).outcome ≡ Ok n
    → Roomed room (record { bytes = bytes; outcome = o }) (in_room room bytes o) n
in_room_lem room bytes (Err r) n e = clash (cc)
in_room_lem room bytes (Ok m) n e = go (ltb room m) refl e
  where
    go : (t : Bool) → ltb room m ≡ t → (if t then refused (NoRoom m) else record { bytes = bytes; outcome = Ok m }).outcome ≡ Ok n
        → Roomed room (record { bytes = bytes; outcome = Ok m }) (if t then refused (NoRoom m) else record { bytes = bytes; outcome = Ok m }) n
    go true l e = clash (cc)
    go false l e =
        let q : m ≡ n = cc in
        record { ends = e; bytes = refl; room_for = subst (λ (k : ℕ). k ≤ room) q (ltb-false room m l) }

-- the values that are written
record Done-by (room : ℕ) (j : Job) (r : Written) (n : ℕ) : Type 0 where
  pub values : List Float
  pub whole : Roomed room (write_proposal j.cells j.links (words_of j values)) r n

on_ending_lem : (room : ℕ) (j : Job) (v : List Float) (e : Ending) (n : ℕ) → (on_ending room j v e).outcome ≡ Ok n → Done-by room j (on_ending room j v e) n
on_ending_lem room j v (Ok whole) n h =
    let w = write_proposal j.cells j.links (words_of j v) in
    record { values = v; whole = in_room_lem room w.bytes w.outcome n h }
on_ending_lem room j v (Err thin) n h = clash (cc)

proposed : (room : ℕ) (j : Job) (n : ℕ) → (proposed_of room j).outcome ≡ Ok n → Done-by room j (proposed_of room j) n
unfolding proposed_of
proposed room j n h = go (ltb 12 j.columns) h
  where
    go : (b : Bool) → (if b then refused NotProposed else on_ending room j (solved_of j).values (solved_of j).ending).outcome ≡ Ok n
        → Done-by room j (if b then refused NotProposed else on_ending room j (solved_of j).values (solved_of j).ending) n
    go true h = clash (cc)
    go false h = on_ending_lem room j (solved_of j).values (solved_of j).ending n h

-- the job was read, and its proposal is done
record Read-by (room : ℕ) (ws : List ℤ) (o : Outcome) (r : Written) (n : ℕ) : Type 0 where
  pub count : ℕ
  pub read : o ≡ Ok count
  pub done : Done-by room (job_of ws) r n

on_read_lem : (room : ℕ) (ws : List ℤ) (o : Outcome) (n : ℕ) → (on_job_read room ws o).outcome ≡ Ok n → Read-by room ws o (on_job_read room ws o) n
on_read_lem room ws (Err r) n h = clash (cc)
on_read_lem room ws (Ok k) n h = record { count = k; read = refl; done = proposed room (job_of ws) n h }

-- ---- the words that are written

module _ (j : Job) (v : List Float) where
  pub count_is : length (words_of j v) ≡ j.cells + j.links
  unfolding words_of
  count_is = length_filled (λ i. value_of j i (get_or v i nan)) j.cells 0 (replicate (j.cells + j.links) (pos 0)) ∙ length-replicate (j.cells + j.links) (pos 0)

  pub value_is : (i : ℕ) → i < j.cells → word_at (words_of j v) i ≡ value_of j i (get_or v i nan)
  unfolding words_of
  value_is i h =
      filled_at (λ i. value_of j i (get_or v i nan)) j.cells 0 i (replicate (j.cells + j.links) (pos 0)) (pos 0) (omega arith) (omega arith)
      (rw (length-replicate (j.cells + j.links) (pos 0)) (omega arith))

  pub zero_is : (i : ℕ) → j.cells ≤ i → word_at (words_of j v) i ≡ pos 0
  unfolding words_of
  zero_is i h =
      filled_other (λ i. value_of j i (get_or v i nan)) j.cells 0 i (replicate (j.cells + j.links) (pos 0)) (pos 0) (inr (omega arith))
      ∙ zeros_at (j.cells + j.links) i

  module _ (a : Allowed j) where
    pub words_proposed : Proposed j.cells j.links (words_of j v)
    words_proposed = record {
      count = count_is;
      value = λ i h. rw (value_is i h) (record { natural = refl; small = value_small (a.cell i h) (get_or v i nan) });
      multiplier = λ l h. rw (zero_is (j.cells + l) (omega arith)) (record { natural = refl; small = omega arith });
    }

    fits : {r : Ran} → r ≡ record { words = words_of j v; outcome = Ok (j.cells + j.links) } → Fit j r
    fits e =
        rw e
        (record {
          whole = refl;
          above = λ i h. rw (value_is i h, (a.cell i h).floor.natural) (pos_mono (value_between (a.cell i h) (get_or v i nan)).0);
          below = λ i h. rw (value_is i h, (a.cell i h).ceiling.natural) (pos_mono (value_between (a.cell i h) (get_or v i nan)).1);
          multiplier = λ l h. zero_is (j.cells + l) (omega arith);
        })

-- ---- the promises

pub proposals_fit : ProposalsFit
proposals_fit room job n e =
    let j = job_of (read_job job).words in
    let r = on_read_lem room (read_job job).words (read_job job).outcome n e in
    let a = read_jobs_allowed job r.count r.read in
    fits j r.done.values a (proposed_back (words_of j r.done.values) (words_proposed j r.done.values a) r.done.whole.ends r.done.whole.bytes)

pub proposals_counted : ProposalsCounted
proposals_counted room job n e =
    let j = job_of (read_job job).words in
    let w = (on_read_lem room (read_job job).words (read_job job).outcome n e).done in
    let ws = words_of j w.values in
    let first = values_from j.cells j.links in
    let d = six_done (write_from ws first 0).outcome n w.whole.ends in
    (ap length w.whole.bytes ∙ sym (N.zero-add (length (write_from ws first 0).bytes)) ∙ length_written ws first 0 n d, w.whole.room_for)
