-- The rows wanted are no more than before, so that they fit with what the next row lacks.
use native.Mathlib.Omega.{arith}
use Rattle.fields.proofs.Tests.{rows_fewer}
use Rattle.fields.proofs.cells.next_row.Goals as goal

pub overflow_mul-anew : goal.overflow_mul-anew
overflow_mul-anew c = omega (arith, rows_fewer c.args.want, c.rows_wanted-rows.ensures)

pub overflow_add-anew : goal.overflow_add-anew
overflow_add-anew c = omega (arith, rows_fewer c.args.want, c.rows_wanted-rows.ensures)

pub returns : goal.returns
returns c = rw (← c.rows_wanted-rows.ensures)
