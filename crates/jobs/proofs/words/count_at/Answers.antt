-- The word is not negative, so the cast keeps it.
use native.Mathlib.Omega.{arith}
use Rattle.jobs.proofs.Counts.{counts_read}
use Rattle.jobs.proofs.words.count_at.Goals as goal

pub overflow_cast-result : goal.overflow_cast-result
overflow_cast-result c = rw (counts_read c.requires) (tt, record { fits = omega (arith, c.requires.small) })
