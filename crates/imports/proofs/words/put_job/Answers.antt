-- The head, the cells, and the link count 0.
use native.Mathlib.Omega.{arith}
use Rattle.imports.proofs.Made.{head_put, job_made}
use Rattle.imports.proofs.words.put_job.Goals as goal

pub returns : goal.returns
returns c =
    let a = c.args in (
      omega arith,
      job_made a.g a.n a.exposures.now a.deaths.now (omega arith) (omega arith) a.words.now
          (head_put a.g a.n a.words.now c.copy_from_slice.ensures.after c.head_of.ensures (omega arith)) c.put_cells.ensures,
    )
