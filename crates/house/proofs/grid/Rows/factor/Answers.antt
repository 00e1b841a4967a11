use Rattle.std.proofs.Common.{ℕ, length, sym, ap, ◌∙◌, arith}
use lib.Seq.{length-sets}
use Rattle.factor.specs.Factor.{start_of, factor_step, factor_from}
use Rattle.factor.proofs.Turns.{as_long, fewer_rows, answer_more, answer_thin, factor_done, parts}
use Rattle.jobs.specs.Words.{job_of}
use Rattle.house.specs.Grid.{grid_rows}
use Rattle.house.proofs.grid.Rows.factor.Goals as goal

pub step-pivot-requires : goal.step-pivot-requires
step-pivot-requires c = let n = c.cells-n.ensures in
    (omega (arith, n), fewer_rows (omega (arith, n)) (as_long c.requires c.loop-j.invariant.0))

pub returns-in-Err : goal.returns-in-Err
returns-in-Err c = let a = c.args in
    let step = c.step-pivot.ensures in
    parts (sym (answer_thin (grid_rows (job_of a.self.grid.job.words.now)) a.self.grid.z c.loop-j.j c.loop-j.d c.loop-j.l c.cells-n.result (omega arith) step.0 c.value_of-x.ensures step.1 c.in-Err.is) ∙ c.loop-j.invariant.1 ∙ ap (λ (n : ℕ). factor_from (grid_rows (job_of a.self.grid.job.words.now)) a.self.grid.z n 0 a.d.now a.l.now) c.cells-n.ensures)

pub loop-j-preserved : goal.loop-j-preserved
loop-j-preserved c = let a = c.args in
    let step = c.step-pivot.ensures in
    let j = c.loop-j.j in
    let band = grid_rows (job_of a.self.grid.job.words.now) in (
      ap length step.1 ∙ length-sets c.loop-j.l (start_of a.self.grid.z j) (factor_step (band j) c.loop-j.d c.loop-j.l a.self.grid.z j).multipliers ∙ c.loop-j.invariant.0,
      sym (answer_more band a.self.grid.z j c.loop-j.d c.loop-j.l c.cells-n.result (omega arith) step.0 c.value_of-x.ensures step.1 c.in_default.is) ∙ c.loop-j.invariant.1,
    )

pub returns : goal.returns
returns c = let a = c.args in
    parts (sym (factor_done (grid_rows (job_of a.self.grid.job.words.now)) a.self.grid.z c.loop-j.j c.cells-n.result c.loop-j.d c.loop-j.l (omega arith)) ∙ c.loop-j.invariant.1 ∙ ap (λ (n : ℕ). factor_from (grid_rows (job_of a.self.grid.job.words.now)) a.self.grid.z n 0 a.d.now a.l.now) c.cells-n.ensures)
