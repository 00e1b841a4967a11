-- The import worked by hand, by computing.
use mathlib.Core.Path.{refl}
use Rattle.numbers.specs.Plain.{bytes_in}
use Rattle.fields.specs.Table.{step_of}
use Rattle.packs.specs.Writing.{write_from}
use Rattle.decimals.specs.Whole.{value_from}
use Rattle.lists.specs.Cut.{length_to, lines_in, same_bytes}
use Rattle.lists.specs.Lines.{listed_from}
use Rattle.imports.specs.Imports.{cell_of, cells_of, head_of, words_of, import_of}
use Rattle.imports.specs.Examples.{Examples}

pub worked_import : Examples
unfolding bytes_in step_of write_from value_from length_to lines_in same_bytes listed_from cell_of cells_of head_of words_of import_of
worked_import =
    record {
      half_up = refl;
      third = refl;
      two_thirds = refl;
      whole = refl;
      heavy = refl;
      imported = refl;
      with_last_end = refl;
      short = refl;
      grid = refl;
    }
