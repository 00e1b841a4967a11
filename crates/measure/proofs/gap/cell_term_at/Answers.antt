-- The words of the cell, each in its range.
use Rattle.measure.proofs.Totalled.{cell_call}
use Rattle.measure.proofs.gap.cell_term_at.Goals as goal

pub cell_term-requires : goal.cell_term-requires
cell_term-requires c = cell_call c.requires c.weight-w.ensures c.floor-lo.ensures c.ceiling-hi.ensures
