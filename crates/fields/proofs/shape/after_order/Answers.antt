-- Order field 5 is a grid; any other is an order along the cells, and small.
use mathlib.Core.Path.{sym, ◌∙◌}
use native.Mathlib.Omega.{arith}
use borrow.Author.Tests.{eq-eqb, ne_eqb}
use Rattle.fields.proofs.Rows.{order_told}
use Rattle.fields.proofs.shape.after_order.Goals as goal

pub returns-then-x-eq-GRID : goal.returns-then-x-eq-GRID
returns-then-x-eq-GRID c = rw (eq-eqb _ _ c.if-x-eq-GRID.true)

pub overflow_mul-want : goal.overflow_mul-want
overflow_mul-want c = let a = c.args in omega (arith, order_told a.n c.order_used-z.result (sym c.is_order.ensures ∙ c.if-is_order.true))

pub overflow_add-want : goal.overflow_add-want
overflow_add-want c = let a = c.args in omega (arith, order_told a.n c.order_used-z.result (sym c.is_order.ensures ∙ c.if-is_order.true))

pub returns-then-is_order : goal.returns-then-is_order
returns-then-is_order c = rw (ne_eqb _ _ c.if-x-eq-GRID.false, ← c.order_used-z.ensures, ← c.is_order.ensures, c.if-is_order.true)

pub returns : goal.returns
returns c = rw (ne_eqb _ _ c.if-x-eq-GRID.false, ← c.order_used-z.ensures, ← c.is_order.ensures, c.if-is_order.false)
