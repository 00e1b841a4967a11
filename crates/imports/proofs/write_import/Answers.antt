-- The words are made in a scratch that holds the words of 120 cells, and the job writer writes them.
use Rattle.imports.proofs.Made.{scratch_words}
use Rattle.imports.proofs.write_import.Goals as goal

pub returns : goal.returns
returns c = rw (← scratch_words c.args.g c.args.n c.args.exposures.now c.args.deaths.now c.requires.1.1.0 c.requires.1.1.1 c.requires.1.0 c.put_job-count.ensures.0 c.put_job-count.ensures.1) c.write_job.ensures
