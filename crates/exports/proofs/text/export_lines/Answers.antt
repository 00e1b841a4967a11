-- The bytes are counted, and put where there is room for them.
use Rattle.decimals.proofs.Stores.{puts_then}
use Rattle.exports.proofs.Texts.{text_length, no_room, room_for, header_room, lines_room}
use Rattle.exports.proofs.text.export_lines.Goals as goal

pub returns-then-out-size : goal.returns-then-out-size
returns-then-out-size c = let a = c.args in no_room a.first a.rates.now a.out.now (text_length a.first a.rates.now c.lines_size-size.ensures.0) c.if-out-size.true

pub put_bytes-next-requires : goal.put_bytes-next-requires
put_bytes-next-requires c = let a = c.args in header_room a.first a.rates.now a.out.now (text_length a.first a.rates.now c.lines_size-size.ensures.0) c.if-out-size.false

pub put_lines-end-requires : goal.put_lines-end-requires
put_lines-end-requires c = let a = c.args in (c.requires.0, (c.requires.1, lines_room a.first a.rates.now a.out.now (text_length a.first a.rates.now c.lines_size-size.ensures.0) c.if-out-size.false c.put_bytes-next.ensures))

pub returns : goal.returns
returns c = let a = c.args in room_for a.first a.rates.now a.out.now (text_length a.first a.rates.now c.lines_size-size.ensures.0) c.if-out-size.false (puts_then c.put_bytes-next.ensures c.put_lines-end.ensures)
