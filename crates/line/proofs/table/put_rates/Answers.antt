-- The head, the values and the line feed, one after another; 1,024 bytes hold them all.
use native.Mathlib.Omega.{arith}
use Rattle.line.proofs.Tables.{room_head, room_values, room_end, put_table}
use Rattle.line.proofs.table.put_rates.Goals as goal

pub count_at-society-requires : goal.count_at-society-requires
count_at-society-requires c = let J = c.requires.0 in (omega (arith, J.room), omega (arith, J.society))

pub count_at-number-requires : goal.count_at-number-requires
count_at-number-requires c = let J = c.requires.0 in (omega (arith, J.room), omega (arith, J.number))

pub put_head-head-requires : goal.put_head-head-requires
put_head-head-requires c = room_head c.requires.0 c.requires.1 c.count_at-society.ensures c.count_at-number.ensures c.args.loss c.args.gap c.args.out.now c.requires.2

pub put_values-end-requires : goal.put_values-end-requires
put_values-end-requires c = (c.requires.1, room_values c.requires.0 c.requires.1 c.count_at-society.ensures c.count_at-number.ensures c.args.loss c.args.gap c.args.out.now c.requires.2 c.put_head-head.ensures)

pub put_end-requires : goal.put_end-requires
put_end-requires c = room_end c.requires.0 c.requires.1 c.count_at-society.ensures c.count_at-number.ensures c.args.loss c.args.gap c.args.out.now c.requires.2 c.put_head-head.ensures c.put_values-end.ensures

pub returns : goal.returns
returns c = put_table c.requires.0 c.requires.1 c.count_at-society.ensures c.count_at-number.ensures c.args.loss c.args.gap c.args.out.now c.requires.2 c.put_head-head.ensures c.put_values-end.ensures c.put_end.ensures
