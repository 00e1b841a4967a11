-- Zeros are lent for the line's factor, and the search goes on with it.
use Rattle.linked.proofs.Solved.{few, line_fits, line_ready}
use Rattle.linked.proofs.search.search_line.Goals as goal

pub invariant_of-factor : goal.invariant_of-factor
invariant_of-factor c = record {
  cells_few = few c.args.job c.cells-n.ensures;
  placed = line_fits c.starts_of-starts.ensures c.args.job c.cells-n.ensures c.order-z.ensures c.solve_line_into-ending.ensures;
}

pub on_ending-requires : goal.on_ending-requires
on_ending-requires c = let r = line_ready c.args.job c.cells-n.ensures c.requires.0 c.order-z.ensures c.solve_line_into-ending.ensures in
    (r.0, r.1, r.2, c.requires.1)
