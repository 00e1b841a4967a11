-- The factor is that of the grid, and its ending picks the case.
use Rattle.std.proofs.Common.{ℕ, length, refl, ap, ◌∙◌, arith}
use Rattle.jobs.specs.Words.{job_of, cells_of}
use Rattle.factor.specs.Solve.{solved_by}
use Rattle.factor.proofs.Turns.{factor_length}
use Rattle.house.specs.Grid.{grid_rows}
use Rattle.house.proofs.Told.{known, cells_few}
use Rattle.house.proofs.Places.{reach_few}
use Rattle.house.proofs.Solving.{grid_holds, grid_places}
use Rattle.house.proofs.grid.solve_grid.Goals as goal

-- there is room for the rows
pub factor-ending-requires : goal.factor-ending-requires
factor-ending-requires c = let grid = c.args.grid in
    let k = known grid.job in
    grid_places c.requires.0 (cells_few k) (omega (arith, grid.reach_is, reach_few k grid.columns_few)) (ap length c.requires.2)

pub invariant_of-rows : goal.invariant_of-rows
invariant_of-rows c = record { down = rw (← c.order.ensures) c.row_of-downs.ensures; side = rw (← c.across.ensures) c.row_of-sides.ensures }

pub invariant_of-made : goal.invariant_of-made
invariant_of-made c = let grid = c.args.grid in
    let k = known grid.job in
    let n = c.cells.ensures in
    let made = c.factor-ending.ensures.2 in record {
      cells_few = omega (arith, n, cells_few k);
      placed = rw n
          (grid_places c.requires.0 (cells_few k) (omega (arith, grid.reach_is, reach_few k grid.columns_few))
          (ap length made
          ∙ factor_length (grid_rows (job_of grid.job.words.now)) grid.z (cells_of grid.job.words.now) 0 _ _
          ∙ ap length c.requires.2));
    }

pub returns : goal.returns
returns c = let j = job_of c.args.grid.job.words.now in
    grid_holds j refl c.args.grid.reach_is c.requires.3 c.requires.1 c.requires.2 c.factor-ending.ensures
    (c.solve_whole.ensures.0, c.solve_whole.ensures.1 ∙ ap (λ (n : ℕ). solved_by c.args.grid.z n c.args.v.now c.factor-ending.new.d c.factor-ending.new.l c.factor-ending.result) c.cells.ensures)
