-- Columns that are allowed are few.
use mathlib.Core.Path.{sym, ◌∙◌}
use Prim.Native.Nat.{◌*◌}
use native.Mathlib.Nat as N
use native.Mathlib.Omega.{arith}
use Rattle.fields.proofs.Rows.{columns_told}
use Rattle.fields.proofs.shape.after_columns.Goals as goal

pub overflow_mul-row : goal.overflow_mul-row
overflow_mul-row c = let a = c.args in omega (arith, columns_told a.n a.rows a.x (sym c.are_columns.ensures ∙ c.if-are_columns.true))

pub returns-then-are_columns : goal.returns-then-are_columns
returns-then-are_columns c = rw (← c.are_columns.ensures, c.if-are_columns.true, N.add-zero (8 * c.args.x))

pub returns : goal.returns
returns c = rw (← c.are_columns.ensures, c.if-are_columns.false)
