-- The slot that was found is dropped.
use mathlib.Core.Path.{refl, sym, ◌∙◌}
use Rattle.checked.specs.Answers.{refusal}
use native.Mathlib.Omega.{arith}
use Rattle.slots.specs.Slots.{slot_words, has_job}
use Rattle.slots.proofs.Sizes.{found_below}
use Rattle.shelf.proofs.Picked.{forget_at, forget_none}
use Rattle.shelf.proofs.span.forget_in.Goals as goal

pub drop_slot-requires : goal.drop_slot-requires
drop_slot-requires c = let a = c.args in
    let below = found_below (has_job a.job) slot_words a.count a.span.now c.in-Some.p (sym c.find_job.ensures ∙ c.in-Some.is) in
    omega arith

pub returns : goal.returns
returns c = let a = c.args in
    let both = forget_at slot_words a.count a.job a.span.now c.in-Some.p c.plain.result (sym c.find_job.ensures ∙ c.in-Some.is) c.plain.ensures in
    record { answer = both.0; span = c.drop_slot.ensures ∙ both.1 }

pub returns-in_default : goal.returns-in_default
returns-in_default c = let a = c.args in
    let both = forget_none slot_words a.count a.job a.span.now (refusal 12 0).answer (sym c.find_job.ensures ∙ c.in_default.is) refl in record { answer = both.0; span = both.1 }
