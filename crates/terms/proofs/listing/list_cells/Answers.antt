use mathlib.Core.Path.{refl, ap, ◌∙◌}
use mathlib.Core.List.{[], ◌∷◌}
use native.Mathlib.Omega.{arith}
use lib.ListN.{length}
use lib.Seq.{length-sets}
use Rattle.measure.proofs.Totalled.{total_amount, total_cell, total_residual}
use Rattle.terms.proofs.Listings.{cell_next, entries_none}
use Rattle.terms.proofs.listing.list_cells.Goals as goal

pub loop-i-init : goal.loop-i-init
loop-i-init c = (refl, entries_none _ _ _ _)

pub residual_at-r-requires : goal.residual_at-r-requires
residual_at-r-requires c = total_residual c.requires.0 _ (omega arith)

pub cell_term_at-t-requires : goal.cell_term_at-t-requires
cell_term_at-t-requires c = total_cell c.requires.0 (omega arith) c.residual_at-r.ensures

pub put_cell-requires : goal.put_cell-requires
put_cell-requires c = (total_amount c.requires.0 (omega arith) c.residual_at-r.ensures c.cell_term_at-t.ensures, omega (arith, c.requires.1, c.loop-i.invariant.0))

pub loop-i-preserved : goal.loop-i-preserved
loop-i-preserved c = (
  ap length c.put_cell.ensures ∙ length-sets c.loop-i.out _ (_ ∷ _ ∷ _ ∷ []) ∙ c.loop-i.invariant.0,
  cell_next c.requires.0 (omega arith) c.residual_at-r.ensures c.cell_term_at-t.ensures c.args.out.now c.loop-i.invariant.1 c.put_cell.ensures,
)
