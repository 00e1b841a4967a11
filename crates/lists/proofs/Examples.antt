-- The lists worked by hand, by computing.
use mathlib.Core.Path.{refl}
use Rattle.decimals.specs.Whole.{value_from}
use Rattle.lists.specs.Cut.{length_to, lines_in, same_bytes}
use Rattle.lists.specs.Lines.{listed_from}
use Rattle.lists.specs.Examples.{Examples}

pub worked_faults : Examples
unfolding value_from length_to lines_in same_bytes listed_from
worked_faults =
    record {
      nothing = refl;
      blank = refl;
      leading_zero = refl;
      line_feed = refl;
      empty_line = refl;
      out_of_range = refl;
      out_of_sequence = refl;
      above = refl;
      without_exposure = refl;
    }
