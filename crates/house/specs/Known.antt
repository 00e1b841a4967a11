-- What is known of the words of a job that was read, as one record.
use Rattle.std.specs.Prelude.{List, ℤ}
use Rattle.jobs.specs.Words.{job_of}
use Rattle.jobs.specs.Allowed.{Allowed, Laid}

pub record Known (ws : List ℤ) : Type 0 where
  pub allowed : Allowed (job_of ws)
  pub laid : Laid ws
