-- Refusals (document 01, "Numbers Mr Aldous reads"): a call's shelf and its reply are chosen by the same tests, and each refusal leaves the shelf.
use mathlib.Core.Path.{◌≡◌, refl, sym, ap, ◌∙◌}
use mathlib.Core.Bool.{Bool, true, false, cond}
use mathlib.Core.List.{List, []}
use Prim.Native.Nat.{ℕ, ◌*◌}
use lib.Dec.{leb}
use lib.IntN.{nat_abs}
use lib.ListN.{length, drop}
use borrow.Rule.Slice.PartMut.{put_mid, put_same}
use Rattle.jobs.specs.Job.{Job}
use Rattle.jobs.specs.Words.{job_of}
use Rattle.jobs.specs.Packs.{read_job}
use Rattle.std.specs.Prelude.{Option, Some, None}
use Rattle.slots.specs.Slots.{lowest, has_job, at_slot, dropped_slot, forgot_in}
use Rattle.checked.specs.Answers.{Reply, refusal, done, accepted, answer_of}
use Rattle.shelf.specs.Shelf.{forget_reply, Layout, size_of, slot_from, span_of, on_part, on_society, from_society, kept_on, kept_shelf, keep_reply, fetch_from, fetch_reply, forgot_shelf, forgot_reply}
use Rattle.shelf.specs.Fetched.{kept_verdict, handed, same_counts, fetch_table, kept_cells, kept_links, kept_values, kept_multipliers, fetch_at, fetch_in, on_job}
use Rattle.checked.specs.Checked.{Checked, checked_of}
use Rattle.std.specs.Prelude.{Ok, Err}
use Rattle.refusals.specs.declared.Refusal.TheVariants.{CountsNotAllowed}
use Rattle.counts.specs.Counts.{Tested, shelf_words, test_row, test_shelf, on_tested, row_in, cleared}
use Rattle.counts.proofs.Tests.{shelf_wrong}
use Rattle.shelf.specs.Shelf.{layout_in}
use Rattle.shelf.specs.Calls.{Own, Call, keep, fetch, forget, own, clear, laid_after, laid_said, after, said}
use Rattle.shelf.proofs.Answered.{said_refused, after_refused, clear_refused}
use Rattle.claims.specs.ShelfPromises.{Refused, GivesNothing}
use Rattle.std.specs.Prelude.{Ok, Err}
use Rattle.packs.specs.Reading.{Outcome}
use Rattle.measure.specs.Check.{accepting}
use Rattle.measure.specs.Check.{Verdict}

-- ---- a span's calls
out_nothing : (room : ℕ) (v : List ℕ) (w : Verdict) → Refused (handed room v w) → GivesNothing (handed room v w)
out_nothing room v (Err r) n = (refl, refl, refl)
out_nothing room v (Ok f) n = go (leb (length v) room) n
  where
    given : Bool → Reply
    given b = cond b (record { answer = record { number = 0; place = length v; loss = nat_abs f.loss; gap = nat_abs f.gap }; values = v }) (refusal 13 (length v))

    go : (b : Bool) → Refused (given b) → GivesNothing (given b)
    go true m = absurd (m refl)
    go false m = (refl, refl, refl)

table_nothing : (j : Job) (room cells links : ℕ) (v y : List ℕ) → Refused (fetch_table j room cells links v y) → GivesNothing (fetch_table j room cells links v y)
unfolding fetch_table
table_nothing j room cells links v y n = go (same_counts j cells links) n
  where
    go : (b : Bool) → Refused (cond b (handed room v (kept_verdict j v y)) (refusal 12 0)) → GivesNothing (cond b (handed room v (kept_verdict j v y)) (refusal 12 0))
    go true m = out_nothing room v (kept_verdict j v y) m
    go false m = (refl, refl, refl)

fetch_nothing : (w c : ℕ) (j : Job) (room : ℕ) (s : List ℕ) → Refused (fetch_in w c j room s) → GivesNothing (fetch_in w c j room s)
unfolding fetch_in fetch_at
fetch_nothing w c j room s n = go (lowest (has_job j.number) w c s) n
  where
    go : (o : Option ℕ) → Refused (at_slot o (λ p. fetch_at j room (drop (w * p) s)) (refusal 12 0)) → GivesNothing (at_slot o (λ p. fetch_at j room (drop (w * p) s)) (refusal 12 0))
    go (Some p) m = let x = drop (w * p) s in table_nothing j room (kept_cells x) (kept_links x) (kept_values x) (kept_multipliers x) m
    go None m = (refl, refl, refl)

unread_nothing : (o : Outcome) (r : Reply) → (Refused r → GivesNothing r) → Refused (on_job o r) → GivesNothing (on_job o r)
unread_nothing (Ok k) r h n = h n
unread_nothing (Err b) r h n = (refl, refl, refl)

module _ (w c job : ℕ) (s : List ℕ) where
  forget_nothing : Refused (forget_reply w c job s) → forgot_in w c job s ≡ s
  unfolding forget_reply forgot_in
  forget_nothing n = go (lowest (has_job job) w c s) n
    where
      go : (o : Option ℕ) → Refused (at_slot o (λ p. done) (refusal 12 0)) → at_slot o (λ p. dropped_slot w p s) s ≡ s
      go (Some p) m = absurd (m refl)
      go None m = refl

  forget_empty : GivesNothing (forget_reply w c job s)
  unfolding forget_reply
  forget_empty = go (lowest (has_job job) w c s)
    where
      go : (o : Option ℕ) → GivesNothing (at_slot o (λ p. done) (refusal 12 0))
      go (Some p) = (refl, refl, refl)
      go None = (refl, refl, refl)

-- ---- the calls on a shelf that has all its words
module _ (l : Layout) (xs : List ℕ) where
  from_nothing : (s : ℕ) (f : List ℕ → Reply) → ((x : List ℕ) → Refused (f x) → GivesNothing (f x)) → Refused (from_society l s f xs) → GivesNothing (from_society l s f xs)
  unfolding from_society
  from_nothing s f k n = go (leb s 7) n
    where
      go : (b : Bool) → Refused (cond b (f (span_of l s xs)) (refusal 11 0)) → GivesNothing (cond b (f (span_of l s xs)) (refusal 11 0))
      go true m = k (span_of l s xs) m
      go false m = (refl, refl, refl)

  on_nothing : (s : ℕ) (f : List ℕ → List ℕ) (g : List ℕ → Reply) → ((x : List ℕ) → Refused (g x) → f x ≡ x) → Refused (from_society l s g xs) → on_society l s f xs ≡ xs
  unfolding from_society on_society
  on_nothing s f g k n = go (leb s 7) n
    where
      go : (b : Bool) → Refused (cond b (g (span_of l s xs)) (refusal 11 0)) → cond b (on_part (l.start s) (size_of l s) f xs) xs ≡ xs
      go true m = ap (put_mid (l.start s) (size_of l s) xs) (k (span_of l s xs) m) ∙ put_same (l.start s) (size_of l s) xs
      go false m = refl

  abbrev kept_by : Checked → Verdict → List ℕ
  kept_by o v = cond (accepted v) (kept_on l o.society o.job (slot_from l o) xs) xs

  abbrev replied_by : Verdict → Reply
  replied_by v = record { answer = answer_of v; values = [] }

  kept_nothing : (o : Checked) → Refused (keep_reply o) → (kept_shelf l o xs ≡ xs) × GivesNothing (keep_reply o)
  unfolding kept_shelf keep_reply
  kept_nothing o n = go o.verdict n
    where
      go : (v : Verdict) → Refused (replied_by v) → (kept_by o v ≡ xs) × GivesNothing (replied_by v)
      go (Ok f) m = absurd (m refl)
      go (Err r) m = (refl, (refl, refl, refl))

  laid_nothing : (call : Own) → Refused (laid_said l xs call) → (laid_after l xs call ≡ xs) × GivesNothing (laid_said l xs call)
  unfolding fetch_reply forgot_shelf forgot_reply
  laid_nothing (keep job proposal) n = kept_nothing (checked_of job proposal) n
  laid_nothing (fetch job room) n =
      let j = job_of (read_job job).words in
      (refl, unread_nothing (read_job job).outcome (fetch_from l j room xs) (fetch_nothing l.words (l.count j.society) j room (span_of l j.society xs)) n)
  laid_nothing (forget s job) n = (
    on_nothing s (forgot_in l.words (l.count s) job) (forget_reply l.words (l.count s) job) (forget_nothing l.words (l.count s) job) n,
    from_nothing s (forget_reply l.words (l.count s) job) (λ x m. forget_empty l.words (l.count s) job x) n,
  )

-- ---- on any words, by the test of the shelf
tested_nothing : (o : Tested) (r : Reply) (xs ys : List ℕ) → (Refused r → (ys ≡ xs) × GivesNothing r) → Refused (on_tested o r refusal)
    → (on_tested o ys (λ number place. xs) ≡ xs) × GivesNothing (on_tested o r refusal)
tested_nothing (Ok u) r xs ys k n = k n
tested_nothing (Err x) r xs ys k n = (refl, (refl, refl, refl))

pub refused_of : (xs : List ℕ) (call : Call) → Refused (said xs call) → (after xs call ≡ xs) × GivesNothing (said xs call)
refused_of xs (own call) n = tested_nothing (test_shelf (row_in xs) xs) (laid_said (layout_in xs) xs call) xs (laid_after (layout_in xs) xs call) (laid_nothing (layout_in xs) xs call) n
refused_of xs (clear counts) n = tested_nothing (test_shelf (row_in counts) xs) done xs (cleared (row_in counts) xs) (λ m. absurd (m refl)) n

-- a row that is wrong
pub wrong_refused : (shelf : List ℕ) → length shelf ≡ shelf_words → (place : ℕ)
    → (test_row (row_in shelf) ≡ Err (CountsNotAllowed place) → (call : Own) → (said shelf (own call) ≡ refusal 22 place) × (after shelf (own call) ≡ shelf))
    × ((counts : List ℕ) → test_row (row_in counts) ≡ Err (CountsNotAllowed place) → (said shelf (clear counts) ≡ refusal 22 place) × (after shelf (clear counts) ≡ shelf))
wrong_refused shelf len place = (
  λ e call. let t = shelf_wrong (row_in shelf) shelf len (CountsNotAllowed place) e in (sym (said_refused shelf call (CountsNotAllowed place) t), sym (after_refused shelf call (CountsNotAllowed place) t)),
  λ counts e. let t = clear_refused shelf counts (CountsNotAllowed place) (shelf_wrong (row_in counts) shelf len (CountsNotAllowed place) e) in (sym t.0, sym t.1),
)
