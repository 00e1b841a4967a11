use native.Mathlib.Omega.{arith}
use Rattle.decimals.proofs.Stores.{room_one, room_tenth, room_last, put_one, put_more}
use borrow.Author.Rules.{rules}
use Rattle.decimals.proofs.printing.+put_number.Goals as goal

pub bounds-out-at : goal.bounds-out-at
bounds-out-at t c = room_one c.args.x c.if-x-lt10.true c.requires

pub returns-then-x-lt10 : goal.returns-then-x-lt10
returns-then-x-lt10 t c = put_one c.args.x c.args.out.now c.args.at c.if-x-lt10.true

pub put_number-last-requires : goal.put_number-last-requires
put_number-last-requires t c = (search rules, room_tenth c.args.x c.if-x-lt10.false (search rules) c.requires)

pub bounds-out-last : goal.bounds-out-last
bounds-out-last t c = room_last c.args.x c.if-x-lt10.false (search rules) c.requires c.put_number-last.ensures

pub overflow_add-result-2 : goal.overflow_add-result-2
overflow_add-result-2 t c = omega (arith, room_last c.args.x c.if-x-lt10.false (search rules) c.requires c.put_number-last.ensures)

pub returns : goal.returns
returns t c = put_more c.args.x c.if-x-lt10.false (search rules) c.requires c.put_number-last.ensures
