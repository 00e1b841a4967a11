-- The part that is lent is the span of the job's society.
use mathlib.Core.Path.{◌≡◌, ap, ◌∙◌}
use mathlib.Core.List.{List}
use Prim.Native.Nat.{ℕ, ◌+◌, ◌-◌, ◌*◌}
use lib.ListN.{length}
use borrow.Rule.Slice.PartMut.{mid_of}
use Rattle.slots.specs.Slots.{slot_words}
use Rattle.jobs.specs.Words.{job_of}
use Rattle.checked.specs.Answers.{Reply}
use Rattle.shelf.specs.Given.{told}
use Rattle.shelf.specs.Fetched.{fetch_in}
use Rattle.shelf.specs.Shelf.{layout_in, fetch_from}
use Rattle.shelf.proofs.Picked.{replied}
use Rattle.shelf.proofs.Society.{lent_span}
use Rattle.shelf.proofs.fetched.fetch_society.Goals as goal

pub returns : goal.returns
returns c = let got = c.fetch_in in
    let own = c.span_of-own in
    let society = c.count_at-society.ensures in
    let args = c.args in
    let shelf = args.shelf.now in
    let l = layout_in shelf in
    let o = args.out.now in
    let j = job_of args.job.words.now in
    let a = own.result.start in
    let e = own.result.end in
    let starts : a ≡ l.start j.society = own.ensures.start ∙ ap (λ (x : ℕ). l.start x) society in
    let counts : own.result.count ≡ l.count j.society = own.ensures.count ∙ ap (λ (x : ℕ). l.count x) society in
    let span = lent_span l j.society shelf a e starts (own.ensures.end ∙ ap (λ (n : ℕ). a + slot_words * n) counts) args.job.allowed.society in
    let both = replied (fetch_in slot_words own.result.count j (length o) (mid_of a (e - a) shelf)) (fetch_from l j (length o) shelf) (told got.result) o got.new.out
    (ap {B = Reply} (λ (n : ℕ). fetch_in slot_words n j (length o) (mid_of a (e - a) shelf)) counts ∙ ap {B = Reply} (λ (x : List ℕ). fetch_in slot_words (l.count j.society) j (length o) x) span) got.ensures.answer got.ensures.output in record { answer = both.0; output = both.1 }
