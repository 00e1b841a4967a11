-- What the test of the shelf refuses is refused, then 11 above 7, else what the society's part answers.
use mathlib.Core.Path.{refl, sym, ap, ◌∙◌}
use Prim.Native.Nat.{ℕ, ◌+◌, ◌-◌, ◌*◌}
use native.Mathlib.Omega.{arith}
use borrow.Rule.Slice.PartMut.{put_mid, mid_of}
use Rattle.slots.specs.Slots.{slot_words, forgot_in}
use Rattle.checked.specs.declared.Answer.{Answer}
use Rattle.checked.specs.Answers.{refusal}
use Rattle.counts.proofs.Tests.{passed_ready}
use Rattle.shelf.specs.Given.{told}
use Rattle.shelf.specs.Calls.{forget}
use Rattle.shelf.specs.Shelf.{layout_in, forget_reply}
use Rattle.shelf.proofs.Answered.{passed}
use Rattle.shelf.proofs.Society.{forget_above, forget_within}
use Rattle.shelf.proofs.societies.forget_society.Goals as goal

pub returns-then-society-gt-LAST_SOCIETY : goal.returns-then-society-gt-LAST_SOCIETY
returns-then-society-gt-LAST_SOCIETY c = let a = c.args in
    let both = forget_above (layout_in a.shelf.now) a.society a.shelf.now a.job (refusal 11 0).answer c.if-society-gt-LAST_SOCIETY.true refl in
    let all = passed a.shelf.now (forget a.society a.job) (refusal 11 0).answer (sym c.test_shelf.ensures ∙ c.in_ok-test_shelf.was) a.shelf.now both.0 both.1 in
    record { answer = all.0; shelf = all.1 }

pub span_of-own-requires : goal.span_of-own-requires
span_of-own-requires c = (passed_ready _ (sym c.test_shelf.ensures ∙ c.in_ok-test_shelf.was), omega arith)

pub slice_bounds-forget_in-end : goal.slice_bounds-forget_in-end
slice_bounds-forget_in-end c = let r = passed_ready _ (sym c.test_shelf.ensures ∙ c.in_ok-test_shelf.was) in omega (arith, c.span_of-own.ensures.inside.1, r.long)

pub returns : goal.returns
returns c = let gone = c.forget_in in
    let own = c.span_of-own in
    let args = c.args in
    let shelf = args.shelf.now in
    let a = own.result.start in
    let e = own.result.end in
    let count = own.ensures.count in
    let both = forget_within (layout_in shelf) args.society shelf a e own.ensures.start (own.ensures.end ∙ ap (λ (n : ℕ). a + slot_words * n) count) c.if-society-gt-LAST_SOCIETY.false args.job (told gone.result) gone.new.span
    (gone.ensures.answer ∙ ap {B = Answer} (λ (n : ℕ). (forget_reply slot_words n args.job (mid_of a (e - a) shelf)).answer) count)
    (gone.ensures.span ∙ ap (λ (n : ℕ). forgot_in slot_words n args.job (mid_of a (e - a) shelf)) count) in
    let all = passed shelf (forget args.society args.job) (told gone.result) (sym c.test_shelf.ensures ∙ c.in_ok-test_shelf.was) (put_mid a (e - a) shelf gone.new.span) both.0 both.1 in
    record { answer = all.0; shelf = all.1 }
