use native.Mathlib.Omega.{arith}
use native.Mathlib.Numerals.{add-one}
use mathlib.Core.Path.{refl, ap}
use lib.ListN.{length, length-set}
use Rattle.numbers.proofs.Bytes.{bytes_one, bytes_more, size_some}
use borrow.Author.Rules.{rules}
use Rattle.numbers.proofs.plain.+put.Goals as goal

pub bounds-out-at : goal.bounds-out-at
bounds-out-at t c = omega (arith, size_some c.args.x)

pub returns-then-x-lt128 : goal.returns-then-x-lt128
returns-then-x-lt128 t c = rw (bytes_one c.args.x c.if-x-lt128.true) (refl, refl)

pub bounds-out-at-2 : goal.bounds-out-at-2
bounds-out-at-2 t c = omega (arith, size_some c.args.x)

pub put-requires : goal.put-requires
put-requires t c = (search rules, rw length-set (omega (arith, ap length (bytes_more c.args.x (omega arith) (omega arith)))))

pub returns : goal.returns
returns t c = rw (bytes_more c.args.x (omega arith) (omega arith)) (omega (arith, c.put.ensures.0), rw add-one at c.put.ensures.1)
