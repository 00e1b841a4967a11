-- The table of the code is the table of `specs/Rows.antt`.
use mathlib.Core.Path.{refl}
use Rattle.rows.specs.Rows.{row_of}
use Rattle.rows.proofs.row_of.Goals as goal

pub returns : goal.returns
unfolding row_of
returns c = record { at = λ m. refl }
