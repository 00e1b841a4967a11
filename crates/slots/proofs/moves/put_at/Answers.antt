-- The part that was lent is slot p.
use Rattle.slots.specs.Slots.{slot_words}
use Rattle.slots.specs.Tables.{words_of}
use Rattle.slots.proofs.Placed.{put_is}
use Rattle.slots.proofs.moves.put_at.Goals as goal

pub returns : goal.returns
returns c = let put = c.put_into in
    let a = c.args in
    put_is slot_words a.p a.span.now (words_of a.table) put.new.slot put.ensures
