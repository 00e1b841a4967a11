-- Where the rows are more than the quotient of n, the product is above n.
use mathlib.Core.Path.{sym, ◌∙◌}
use Rattle.fields.proofs.Tests.{not_columns}
use Rattle.fields.proofs.shape.are_columns.Goals.{then-is_within, else-is_within}
use Rattle.fields.proofs.shape.are_columns.Goals as goal

pub returns-else-rows-n : goal.returns-else-rows-n
returns-else-rows-n c = let a = c.args in
    c.if-rows-n.false
    ∙ sym (elim c.if-is_within.branch [
      | then-is_within w ↦ not_columns a.n a.rows a.x (sym c.is_within.ensures ∙ w.if-is_within.true) (sym w.value-is ∙ c.if-rows-n.false)
      | else-is_within w ↦ rw (← c.is_within.ensures, w.if-is_within.false)
    ])
