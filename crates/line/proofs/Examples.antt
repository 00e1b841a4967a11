-- Document 01's example, the empty input and a gap above the tolerance, from their bytes to their lines, by computing.
use mathlib.Core.Path.{refl}
use Rattle.whole.specs.Sum.{sum}
use Rattle.numbers.specs.Plain.{number_in}
use Rattle.fields.specs.Table.{step_of}
use Rattle.packs.specs.Reading.{run_from}
use Rattle.jobs.specs.Words.{head_words, rows_of, columns_of, order_of, across_of, second_of, start_of}
use Rattle.rows.specs.Rows.{row_of}
use Rattle.tally.specs.Largest.{largest_of}
use Rattle.measure.specs.Loss.{loss_of}
use Rattle.measure.specs.Gap.{link_sum, residual_of, gap_of}
use Rattle.measure.specs.Check.{lowest_from, verdict_of}
use Rattle.checked.specs.Checked.{checked_of}
use Rattle.decimals.specs.Decimal.{digits_in}
use Rattle.line.specs.Line.{later, checked_line, line_of}
use Rattle.line.specs.Promises.{WorkedLines}

pub worked_lines : WorkedLines
unfolding sum number_in step_of run_from head_words rows_of columns_of order_of across_of second_of start_of row_of loss_of link_sum residual_of gap_of largest_of lowest_from verdict_of checked_of digits_in later checked_line line_of
worked_lines = (refl, refl, refl)
