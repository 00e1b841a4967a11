use Rattle.std.proofs.Common.{arith, ◌*◌}
use Rattle.std.proofs.lemmas.Grind.{common_steps}
use Rattle.std.proofs.lemmas.Bool.Decides.{nat_tests}
use Rattle.slots.specs.Slots.{slot_words}
use Rattle.slots.proofs.Lowest.{full_is}
use Rattle.slots.proofs.search.Slots.full_at.Goals as goal

pub returns : goal.returns
returns c = let e = full_is c.args.self.span.now (slot_words * c.args.p) in grind (arith, common_steps, nat_tests)
