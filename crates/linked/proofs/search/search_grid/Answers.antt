-- Zeros are lent for the grid's factor, and the search goes on with it.
use mathlib.Core.Path.{refl}
use lib.Ieee.{of_bits}
use Rattle.linked.proofs.Solved.{few, grid_fits, grid_ready}
use Rattle.linked.proofs.search.search_grid.Goals as goal

pub solve_grid-ending-requires : goal.solve_grid-ending-requires
unfolding of_bits
solve_grid-ending-requires c = (rw (← c.cells-n.ensures) c.starts_of-starts.ensures, refl, refl, c.right.ensures)

pub invariant_of-factor : goal.invariant_of-factor
invariant_of-factor c = record {
  cells_few = few c.args.grid.job c.cells-n.ensures;
  placed = grid_fits c.starts_of-starts.ensures c.args.grid c.cells-n.ensures refl c.solve_grid-ending.ensures;
}

pub on_ending-requires : goal.on_ending-requires
on_ending-requires c = let r = grid_ready c.args.grid c.cells-n.ensures c.requires.0 refl c.solve_grid-ending.ensures in
    (r.0, r.1, r.2, c.requires.1)
