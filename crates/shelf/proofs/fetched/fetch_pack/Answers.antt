-- What the test of the shelf refuses is refused. Then a job that was read stands in the first k words, and a pack that does not read is its refusal.
use Rattle.std.proofs.Common.{◌≡◌, Err, sym, ap, ◌∙◌, refl, rules, length, take, replicate, pos}
use lib.ListN.{length-replicate}
use lib.Seq.{length-take-le}
use Rattle.jobs.specs.Words.{job_of}
use Rattle.checked.specs.declared.Answer.{Answer}
use Rattle.checked.specs.Answers.{refused}
use Rattle.counts.proofs.Tests.{passed_ready}
use Rattle.shelf.specs.Given.{told}
use Rattle.shelf.specs.Shelf.{layout_in, fetch_from}
use Rattle.shelf.specs.Calls.{own, fetch, said}
use Rattle.shelf.proofs.Picked.{replied}
use Rattle.shelf.proofs.Answered.{said_passed, said_refused}
use Rattle.shelf.proofs.Presented.{presented, fetch_read, fetch_unread}
use Rattle.shelf.proofs.fetched.fetch_pack.Goals as goal

pub returns-in_err-test_shelf : goal.returns-in_err-test_shelf
returns-in_err-test_shelf c = let a = c.args in
    let o = a.out.now in
    let call = fetch a.job.now (length o) in
    let r = c.in_err-test_shelf.field-0.0 in
    let e : c.from_residual.result ≡ Err r = search rules in
    let both = replied (refused r) (said a.shelf.now (own call)) (told c.from_residual.result) o o (said_refused a.shelf.now call r (sym c.test_shelf.ensures ∙ c.in_err-test_shelf.was)) (ap {B = Answer} told e) refl in
    record { answer = both.0; output = both.1 }

pub returns-in_err-k : goal.returns-in_err-k
returns-in_err-k c = let a = c.args in
    let o = a.out.now in
    let call = fetch a.job.now (length o) in
    let read = c.read in
    let r = c.in_err-k.field-0.0 in
    let e : c.from_residual-in_err-k.result ≡ Err r = search rules in
    let both = replied (refused r) (said a.shelf.now (own call)) (told c.from_residual-in_err-k.result) o o
    (fetch_unread a.job.now (replicate 2092 (pos 0)) (length-replicate 2092 (pos 0)) read.ensures.0 read.ensures.1 (layout_in a.shelf.now) (length o) a.shelf.now c.in_err-k.was
    ∙ said_passed a.shelf.now call (sym c.test_shelf.ensures ∙ c.in_ok-test_shelf.was)) (ap {B = Answer} told e) refl in
    record { answer = both.0; output = both.1 }

pub slice_bounds-words-end : goal.slice_bounds-words-end
slice_bounds-words-end c =
    (presented c.args.job.now (replicate 2092 (pos 0)) (length-replicate 2092 (pos 0)) c.read.ensures.0 c.read.ensures.1 (layout_in c.args.shelf.now) 0 c.args.shelf.now c.in_ok-k.was).0

pub invariant_of-presented : goal.invariant_of-presented
invariant_of-presented c =
    let p = presented c.args.job.now (replicate 2092 (pos 0)) (length-replicate 2092 (pos 0)) c.read.ensures.0 c.read.ensures.1 (layout_in c.args.shelf.now) 0 c.args.shelf.now c.in_ok-k.was in
    record { allowed = p.1.0; laid = p.1.1 }

pub slice_bounds-presented-end : goal.slice_bounds-presented-end
slice_bounds-presented-end c =
    let p = presented c.args.job.now (replicate 2092 (pos 0)) (length-replicate 2092 (pos 0)) c.read.ensures.0 c.read.ensures.1 (layout_in c.args.shelf.now) 0 c.args.shelf.now c.in_ok-k.was in
    sym (length-take-le c.in_ok-k.k c.read.new.words p.0)

pub fetch_society-requires : goal.fetch_society-requires
fetch_society-requires c = passed_ready _ (sym c.test_shelf.ensures ∙ c.in_ok-test_shelf.was)

pub returns : goal.returns
returns c = let got = c.fetch_society in
    let a = c.args in
    let o = a.out.now in
    let call = fetch a.job.now (length o) in
    let read = c.read in
    let k = c.in_ok-k.k in
    let both = replied (fetch_from (layout_in a.shelf.now) (job_of (take k read.new.words)) (length o) a.shelf.now) (said a.shelf.now (own call)) (told got.result) o got.new.out
    (fetch_read a.job.now (replicate 2092 (pos 0)) (length-replicate 2092 (pos 0)) read.ensures.0 read.ensures.1 (layout_in a.shelf.now) (length o) a.shelf.now c.in_ok-k.was
    ∙ said_passed a.shelf.now call (sym c.test_shelf.ensures ∙ c.in_ok-test_shelf.was)) got.ensures.answer got.ensures.output in
    record { answer = both.0; output = both.1 }
