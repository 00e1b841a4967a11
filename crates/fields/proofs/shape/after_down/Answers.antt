-- An order is small.
use mathlib.Core.Path.{sym, ◌∙◌}
use Prim.Native.Nat.{◌*◌, ◌/◌}
use native.Mathlib.Nat as N
use native.Mathlib.Omega.{arith}
use Rattle.fields.proofs.Rows.{order_told}
use Rattle.fields.proofs.shape.after_down.Goals as goal

pub overflow_mul-want : goal.overflow_mul-want
overflow_mul-want c = let a = c.args in omega (arith, order_told a.rows a.x (sym c.is_order.ensures ∙ c.if-is_order.true))

pub returns-then-is_order : goal.returns-then-is_order
returns-then-is_order c = let a = c.args in rw (← c.is_order.ensures, c.if-is_order.true, N.add-zero (8 * (a.c.row / 8)), N.add-zero (8 * a.x))

pub returns : goal.returns
returns c = rw (← c.is_order.ensures, c.if-is_order.false)
