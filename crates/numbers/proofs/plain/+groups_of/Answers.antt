use Prim.Native.Nat.{◌/◌}
use native.Mathlib.Omega.{arith}
use native.Mathlib.Numerals.{add-one}
use Rattle.numbers.proofs.Bytes.{bytes_one, bytes_more, size_most}
use Rattle.numbers.proofs.plain.+groups_of.Goals as goal

pub returns-then-x-lt128 : goal.returns-then-x-lt128
returns-then-x-lt128 t c = rw (bytes_one c.args.x c.if-x-lt128.true)

pub overflow_add-result : goal.overflow_add-result
overflow_add-result t c = omega (arith, size_most (c.args.x / 128))

pub returns : goal.returns
returns t c = rw (bytes_more c.args.x c.if-x-lt128.false (omega arith), c.groups_of-rest.ensures, add-one)
