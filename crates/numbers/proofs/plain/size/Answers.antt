-- One byte up to 127, else one more than the rest takes.
use Prim.Native.Nat.{◌/◌}
use native.Mathlib.Omega.{arith}
use native.Mathlib.Numerals.{add-one}
use Rattle.numbers.proofs.Bytes.{bytes_one, bytes_more, size_most}
use Rattle.numbers.proofs.plain.size.Goals as goal

pub overflow_add-result : goal.overflow_add-result
overflow_add-result c = omega (arith, size_most (c.args.x / 128))

pub returns-then-x-gt127 : goal.returns-then-x-gt127
returns-then-x-gt127 c = rw (bytes_more c.args.x (omega arith) (omega arith), c.groups_of-more.ensures, add-one)

pub returns : goal.returns
returns c = rw (bytes_one c.args.x (omega (arith, c.if-x-gt127.false)))
