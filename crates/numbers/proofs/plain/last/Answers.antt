-- Seven bits above 56 fit; a last group of 0 is refused unless it is the only one.
use borrow.Author.Tests.{lt-ltb, le-ltb}
use native.Mathlib.Omega.{arith}
use native.Mathlib.Nat.{mul-le-mul}
use Prim.Native.Nat.{◌≤◌}
use Rattle.numbers.proofs.plain.last.Goals as goal

pub overflow_mul-value : goal.overflow_mul-value
overflow_mul-value c = let l : c.args.b ≤ 127 = omega arith in omega (arith, mul-le-mul l c.requires.1.1)

pub overflow_add-value : goal.overflow_add-value
overflow_add-value c = let l : c.args.b ≤ 127 = omega arith in omega (arith, mul-le-mul l c.requires.1.1)

pub returns-then-b-gt0 : goal.returns-then-b-gt0
returns-then-b-gt0 c = rw (lt-ltb _ _ c.if-b-gt0.true)

pub returns-then-scale-gt1 : goal.returns-then-scale-gt1
returns-then-scale-gt1 c = rw (le-ltb _ _ c.if-b-gt0.false, lt-ltb _ _ c.if-scale-gt1.true)

pub returns : goal.returns
returns c = rw (le-ltb _ _ c.if-b-gt0.false, le-ltb _ _ c.if-scale-gt1.false)
