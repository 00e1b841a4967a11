-- The test picks the case.
use Rattle.factor.proofs.Turns.{accepted, thin}
use Rattle.factor.proofs.judge.Goals as goal

pub returns-then-x : goal.returns-then-x
returns-then-x c = accepted c.args.x c.if-x.true

pub returns : goal.returns
returns c = thin c.args.x c.if-x.false
