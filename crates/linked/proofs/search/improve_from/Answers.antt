-- The search says how many passes come before the first that is accepted.
use lib.Ieee.{of_bits}
use Rattle.jobs.specs.Words.{job_of}
use Rattle.linked.proofs.Answering.{start_is}
use Rattle.linked.proofs.search.improve_from.Goals as goal

pub search-before-requires : goal.search-before-requires
unfolding of_bits
search-before-requires c = record { factored = c.requires.0; few = c.requires.2; starts_there = start_is (job_of c.args.job.words.now) c.requires.1 }
