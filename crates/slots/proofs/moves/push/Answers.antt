-- Every slot moves down by one, and the table is put for the last.
use Rattle.std.proofs.Common.{ℕ, ap, ◌∙◌, ◌++◌, List, drop}
use Rattle.slots.specs.Slots.{slot_words}
use Rattle.slots.specs.Tables.{words_of}
use Rattle.slots.proofs.Placed.{moved_put, pushed_is}
use Rattle.slots.proofs.moves.push.Goals as goal

pub returns : goal.returns
returns c =
    let a = c.args in
    let s = a.span.now in
    moved_put slot_words 0 s c.requires c.copy_within.new.self c.copy_within.ensures.after c.copy_within.ensures.len c.put_into.new.slot
    ∙ ap (λ (x : List ℕ). drop slot_words s ++ x) c.put_into.ensures ∙ pushed_is slot_words s (words_of a.table)
