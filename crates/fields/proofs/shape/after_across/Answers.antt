-- An order is below 8, so that it takes the room of a remainder.
use mathlib.Core.Path.{sym, ◌∙◌}
use Prim.Native.Nat.{◌/◌}
use native.Mathlib.Omega.{arith}
use Rattle.fields.proofs.Rows.{order_told}
use Rattle.fields.proofs.shape.after_across.Goals as goal

pub overflow_add-row : goal.overflow_add-row
overflow_add-row c = let a = c.args in omega (arith, order_told (a.c.row / 8) a.x (sym c.is_order.ensures ∙ c.if-is_order.true))

pub overflow_add-want : goal.overflow_add-want
overflow_add-want c = let a = c.args in omega (arith, order_told (a.c.row / 8) a.x (sym c.is_order.ensures ∙ c.if-is_order.true))

pub returns-then-is_order : goal.returns-then-is_order
returns-then-is_order c = rw (← c.is_order.ensures, c.if-is_order.true)

pub returns : goal.returns
returns c = rw (← c.is_order.ensures, c.if-is_order.false)
