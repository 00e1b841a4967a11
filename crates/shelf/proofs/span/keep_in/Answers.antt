-- The table goes into the slot that was found; where none was, every slot moves down and it is the last.
use mathlib.Core.Path.{sym, ◌∙◌}
use native.Mathlib.Omega.{arith}
use Rattle.slots.specs.Slots.{slot_words}
use Rattle.slots.specs.Tables.{words_of}
use Rattle.slots.proofs.Sizes.{for_below}
use Rattle.shelf.proofs.Picked.{kept_at, kept_none}
use Rattle.shelf.proofs.span.keep_in.Goals as goal

pub put_at-requires : goal.put_at-requires
put_at-requires c = let a = c.args in
    let below = for_below slot_words a.count a.table.job a.span.now c.in-Some.p (sym c.slot_for.ensures ∙ c.in-Some.is) in
    omega arith

pub returns-in-Some : goal.returns-in-Some
returns-in-Some c = let a = c.args in
    c.put_at.ensures
    ∙ kept_at slot_words a.count a.table.job a.span.now (words_of a.table) c.in-Some.p (sym c.slot_for.ensures ∙ c.in-Some.is)

pub returns-in-None : goal.returns-in-None
returns-in-None c = let a = c.args in
    c.push.ensures
    ∙ kept_none slot_words a.count a.table.job a.span.now (words_of a.table) (sym c.slot_for.ensures ∙ c.in-None.is)
