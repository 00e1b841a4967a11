-- After the turns below j, what is left is the rows from j on.
use Rattle.std.proofs.Common.{◌≡◌, ◌-◌, length}
use Rattle.factor.specs.Factor.{factor_from}
use Rattle.jobs.specs.Words.{job_of}
use Rattle.house.specs.Grid.{grid_rows}
use Rattle.house.proofs.grid.Rows.factor.Given as goal

abbrev pub invariant-loop-j : goal.invariant-loop-j
invariant-loop-j l = (length l.l ≡ length l.initial.l) × (factor_from (grid_rows (job_of l.self.grid.job.words.now)) l.self.grid.z (l.n - l.j) l.j l.d l.l ≡ factor_from (grid_rows (job_of l.self.grid.job.words.now)) l.self.grid.z l.n 0 l.initial.d l.initial.l)
