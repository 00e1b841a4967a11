-- The slot that was found is handed out.
use mathlib.Core.Path.{refl, sym, ap, ◌∙◌}
use Prim.Native.Nat.{ℕ, ◌*◌}
use native.Mathlib.Omega.{arith}
use lib.ListN.{length, drop}
use Rattle.jobs.specs.Words.{job_of}
use Rattle.slots.specs.Slots.{slot_words, has_job, lowest}
use Rattle.checked.specs.Answers.{refusal}
use Rattle.std.specs.Prelude.{Option}
use Rattle.shelf.specs.Given.{told}
use Rattle.shelf.specs.Fetched.{fetch_at, fetch_in}
use Rattle.slots.proofs.Sizes.{found_below}
use Rattle.shelf.proofs.Picked.{replied, fetch_found, fetch_none}
use Rattle.shelf.proofs.fetched.fetch_in.Goals as goal

pub overflow_mul-p : goal.overflow_mul-p
overflow_mul-p c = let a = c.args in
    let number = c.count_at-number.result in
    let below = found_below (has_job number) slot_words a.slots.count a.slots.span.now c.in-Some.p (sym c.find_job.ensures ∙ c.in-Some.is) in
    omega arith

pub fetch_at-requires : goal.fetch_at-requires
fetch_at-requires c = let a = c.args in
    let number = c.count_at-number.result in
    let below = found_below (has_job number) slot_words a.slots.count a.slots.span.now c.in-Some.p (sym c.find_job.ensures ∙ c.in-Some.is) in
    omega arith

pub returns : goal.returns
returns c = let got = c.fetch_at in
    let a = c.args in
    let s = a.slots.span.now in
    let o = a.out.now in
    let j = job_of a.job.words.now in
    let p = c.in-Some.p in
    let e = sym (ap {B = Option ℕ} (λ (x : ℕ). lowest (has_job x) slot_words a.slots.count s) c.count_at-number.ensures) ∙ sym c.find_job.ensures ∙ c.in-Some.is in
    let both = replied (fetch_at j (length o) (drop (slot_words * p) s)) (fetch_in slot_words a.slots.count j (length o) s) (told got.result) o got.new.out
    (fetch_found slot_words a.slots.count j s (length o) p e) got.ensures.answer got.ensures.output in record { answer = both.0; output = both.1 }

pub returns-in_default : goal.returns-in_default
returns-in_default c = let a = c.args in
    let s = a.slots.span.now in
    let o = a.out.now in
    let j = job_of a.job.words.now in
    let e = sym (ap {B = Option ℕ} (λ (x : ℕ). lowest (has_job x) slot_words a.slots.count s) c.count_at-number.ensures) ∙ sym c.find_job.ensures ∙ c.in_default.is in
    let both = replied (refusal 12 0) (fetch_in slot_words a.slots.count j (length o) s) (refusal 12 0).answer o o (fetch_none slot_words a.slots.count j s (length o) e) refl refl in record { answer = both.0; output = both.1 }
