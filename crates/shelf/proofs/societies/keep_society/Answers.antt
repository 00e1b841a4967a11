-- The part that is lent is the society's span, and the table is kept there.
use mathlib.Core.Path.{ap, ◌∙◌}
use Prim.Native.Nat.{ℕ, ◌+◌, ◌-◌, ◌*◌}
use borrow.Rule.Slice.PartMut.{mid_of}
use Rattle.slots.specs.Slots.{slot_words, kept_in}
use Rattle.slots.specs.Tables.{words_of}
use Rattle.shelf.specs.Shelf.{layout_in}
use Rattle.shelf.proofs.Society.{keep_within}
use Rattle.shelf.proofs.societies.keep_society.Goals as goal

pub returns : goal.returns
returns c = let kept = c.keep_in in
    let own = c.span_of-own in
    let args = c.args in
    let shelf = args.shelf.now in
    let a = own.result.start in
    let e = own.result.end in
    let count = own.ensures.count in
    let x = words_of args.table in
    keep_within (layout_in shelf) args.society shelf a e own.ensures.start (own.ensures.end ∙ ap (λ (n : ℕ). a + slot_words * n) count) c.requires.1 args.table.job x kept.new.span
    (kept.ensures ∙ ap (λ (n : ℕ). kept_in slot_words n args.table.job x (mid_of a (e - a) shelf)) count)
