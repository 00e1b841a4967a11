-- The table worked by hand, by computing.
use mathlib.Core.Path.{refl}
use Rattle.decimals.specs.Decimal.{digits_in}
use Rattle.decimals.specs.Whole.{value_from}
use Rattle.lists.specs.Cut.{length_to, lines_in, same_bytes}
use Rattle.lists.specs.Lines.{listed_from}
use Rattle.exports.specs.Exports.{export_lines}
use Rattle.exports.specs.Examples.{Examples}

pub worked_table : Examples
unfolding digits_in value_from length_to lines_in same_bytes listed_from export_lines
worked_table = record { out = refl; back = refl }
