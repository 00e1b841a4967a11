-- The word is not negative, so the cast keeps it.
use native.Mathlib.Omega.{arith}
use Rattle.jobs.proofs.Counts.{natural_read}
use Rattle.jobs.proofs.words.natural.Goals as goal

pub overflow_cast-result : goal.overflow_cast-result
overflow_cast-result c = rw (natural_read c.args.x c.requires c.ranges.x) (tt, record { fits = omega (arith, c.requires.small) })
