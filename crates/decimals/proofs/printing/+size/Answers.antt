use native.Mathlib.Omega.{arith}
use Rattle.decimals.proofs.Digits.{size_one, size_more}
use Rattle.decimals.proofs.printing.+size.Goals as goal

pub returns-then-x-lt10 : goal.returns-then-x-lt10
returns-then-x-lt10 t c = size_one c.args.x c.if-x-lt10.true

pub returns : goal.returns
returns t c = size_more c.args.x c.size-rest.result c.if-x-lt10.false (omega arith) c.size-rest.ensures.0
