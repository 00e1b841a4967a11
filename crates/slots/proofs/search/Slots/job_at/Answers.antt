use Rattle.std.proofs.Common.{◌*◌}
use Rattle.slots.specs.Slots.{slot_words}
use Rattle.slots.proofs.Lowest.{job_is}
use Rattle.slots.proofs.search.Slots.job_at.Goals as goal

pub returns-then-full_at : goal.returns-then-full_at
returns-then-full_at c = let e = job_is c.args.self.span.now (slot_words * c.args.p) c.args.job in rw (e, ← c.full_at.ensures, c.if-full_at.true)

pub returns-else-full_at : goal.returns-else-full_at
returns-else-full_at c = let e = job_is c.args.self.span.now (slot_words * c.args.p) c.args.job in rw (e, ← c.full_at.ensures, c.if-full_at.false)
