use Rattle.std.proofs.Common.{arith}
use Rattle.std.proofs.lemmas.Grind.{common_steps}
use Rattle.std.proofs.lemmas.Bool.Decides.{nat_tests}
use Rattle.counts.specs.Counts.{is_wrong}
use Rattle.counts.proofs.is_wrong.Goals as goal

pub returns : goal.returns
unfolding is_wrong
returns c = grind (arith, common_steps, nat_tests)
