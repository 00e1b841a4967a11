use native.Mathlib.Omega.{arith}
use lib.ListN.{get_or}
use Rattle.imports.proofs.Made.{cells_start, cells_more, cell_put}
use Rattle.imports.proofs.words.put_cells.Goals as goal

pub loop-i-init : goal.loop-i-init
loop-i-init c = let a = c.args in cells_start a.g a.exposures.now a.deaths.now a.words.now

pub loop-i-preserved : goal.loop-i-preserved
loop-i-preserved c =
    let a = c.args in
    let l = c.loop-i in
    cells_more a.g a.exposures.now a.deaths.now l.i (omega arith) (omega arith) a.words.now l.invariant
    (cell_put a.g (get_or a.exposures.now l.i 0) (get_or a.deaths.now l.i 0) _ l.words c.copy_from_slice.ensures.after c.cell_of.ensures (omega arith))
