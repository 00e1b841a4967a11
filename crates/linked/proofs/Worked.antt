-- The worked proposal, from the pack's bytes on, by computing.
use mathlib.Core.Path.{refl}
use lib.Count.{count_trailing_zeros}
use lib.Ieee.{span, climb, size, odd, units, round, neg, sum as sumIeee, add, sub, mul, div, lt, of_int}
use Rattle.whole.specs.Sum.{sum}
use Rattle.numbers.specs.Plain.{number_in, bytes_in}
use Rattle.fields.specs.Table.{step_of}
use Rattle.packs.specs.Reading.{run_from}
use Rattle.packs.specs.Writing.{write_from}
use Rattle.rows.specs.Rows.{row_of}
use Rattle.measure.specs.Loss.{loss_of}
use Rattle.measure.specs.Gap.{link_sum, residual_of, gap_of}
use Rattle.measure.specs.Check.{lowest_from, verdict_of}
use Rattle.jobs.specs.Words.{start_of, head_words, rows_of, columns_of, order_of, across_of, second_of}
use Rattle.house.specs.Filled.{filled}
use Rattle.factor.specs.Factor.{less_by, multiplier_of, row_from, pivot_of, factor_step, factor_from}
use Rattle.factor.specs.Solve.{forward_from, divided_from, backward_from}
use Rattle.house.specs.Factoring.{solved_with}
use Rattle.house.specs.Rounding.{nearest_up, rounded_out}
use Rattle.house.specs.Proposal.{line_solved, solved_of, words_of}
use Rattle.passes.specs.Hildreth.{placed_from, plus_by, sum_over, raised_of, fallen_from, improved_of, pass_from, after_pass}
use Rattle.linked.specs.Proposal.{linked_words, verdict_after, passes_before, linked_for}
use Rattle.linked.specs.Worked.{WorkedProposal}

pub worked_proposal_lem : WorkedProposal
unfolding sum number_in bytes_in step_of run_from write_from head_words rows_of columns_of order_of across_of second_of start_of row_of loss_of link_sum residual_of gap_of lowest_from verdict_of count_trailing_zeros span climb size odd units round neg sumIeee add sub mul div lt of_int filled less_by multiplier_of row_from pivot_of factor_step factor_from forward_from divided_from backward_from nearest_up rounded_out solved_with line_solved solved_of words_of placed_from plus_by sum_over raised_of fallen_from improved_of pass_from after_pass linked_words verdict_after passes_before linked_for
worked_proposal_lem = refl
