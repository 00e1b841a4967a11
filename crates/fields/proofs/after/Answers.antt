-- Each arm makes the row of the table that its field names, out of what its calls ensure.
use Rattle.fields.specs.Table.{step_of}
use Rattle.fields.proofs.after.Goals as goal

pub returns-in-Society : goal.returns-in-Society
unfolding step_of
returns-in-Society c = rw (c.in-Society.is, ← c.is_within.ensures) c.next_if.ensures

pub returns-in-Job : goal.returns-in-Job
unfolding step_of
returns-in-Job c = rw (c.in-Job.is, ← c.is_within-in-Job.ensures) c.next_if-in-Job.ensures

pub returns-in-Count : goal.returns-in-Count
unfolding step_of
returns-in-Count c = rw (c.in-Count.is, ← c.is_within-in-Count.ensures) c.next_if-in-Count.ensures

pub returns-in-Order : goal.returns-in-Order
unfolding step_of
returns-in-Order c = rw c.in-Order.is c.after_order.ensures

pub returns-in-Rows : goal.returns-in-Rows
unfolding step_of
returns-in-Rows c = rw c.in-Rows.is c.next_if-in-Rows.ensures

pub returns-in-Columns : goal.returns-in-Columns
unfolding step_of
returns-in-Columns c = rw c.in-Columns.is c.after_columns.ensures

pub returns-in-OrderDown : goal.returns-in-OrderDown
unfolding step_of
returns-in-OrderDown c = rw c.in-OrderDown.is c.after_down.ensures

pub returns-in-OrderAcross : goal.returns-in-OrderAcross
unfolding step_of
returns-in-OrderAcross c = rw c.in-OrderAcross.is c.after_across.ensures

pub returns-in-SecondConstant : goal.returns-in-SecondConstant
unfolding step_of
returns-in-SecondConstant c = rw (c.in-SecondConstant.is, ← c.is_within-in-SecondConstant.ensures) c.next_if-in-SecondConstant.ensures

pub returns-in-Constant : goal.returns-in-Constant
unfolding step_of
returns-in-Constant c = rw c.in-Constant.is c.after_constant.ensures

pub returns-in-Tolerance : goal.returns-in-Tolerance
unfolding step_of
returns-in-Tolerance c = rw (c.in-Tolerance.is, ← c.is_within-in-Tolerance.ensures) c.next_if-in-Tolerance.ensures

pub returns-in-Crude : goal.returns-in-Crude
unfolding step_of
returns-in-Crude c = rw (c.in-Crude.is, ← c.is_within-in-Crude.ensures) c.next_if-in-Crude.ensures

pub returns-in-Weight : goal.returns-in-Weight
unfolding step_of
returns-in-Weight c = rw (c.in-Weight.is, ← c.with_weight.ensures, ← c.is_within-in-Weight.ensures) c.next_if-in-Weight.ensures

pub returns-in-Floor : goal.returns-in-Floor
unfolding step_of
returns-in-Floor c = rw (c.in-Floor.is, ← c.is_within-in-Floor.ensures) c.next_if-in-Floor.ensures

pub returns-in-Ceiling : goal.returns-in-Ceiling
unfolding step_of
returns-in-Ceiling c = rw (c.in-Ceiling.is, ← c.after_ceiling.ensures, ← c.is_within-in-Ceiling.ensures) c.ruled.ensures

pub returns-in-LinkCount : goal.returns-in-LinkCount
unfolding step_of
returns-in-LinkCount c = rw (c.in-LinkCount.is, ← c.first_link.ensures, ← c.is_within-in-LinkCount.ensures) c.next_if-in-LinkCount.ensures

pub returns-in-TermCount : goal.returns-in-TermCount
unfolding step_of
returns-in-TermCount c = rw (c.in-TermCount.is, ← c.with_terms.ensures, ← c.is_within-in-TermCount.ensures) c.next_if-in-TermCount.ensures

pub returns-in-Cell : goal.returns-in-Cell
unfolding step_of
returns-in-Cell c = rw c.in-Cell.is c.after_cell.ensures

pub returns-in-Coefficient : goal.returns-in-Coefficient
unfolding step_of
returns-in-Coefficient c = rw c.in-Coefficient.is c.after_stored.ensures

pub returns-in-Bound : goal.returns-in-Bound
unfolding step_of
returns-in-Bound c = rw (c.in-Bound.is, ← c.after_bound.ensures, ← c.is_within-in-Bound.ensures) c.next_if-in-Bound.ensures

pub returns-in-Value : goal.returns-in-Value
unfolding step_of
returns-in-Value c = rw (c.in-Value.is, ← c.after_value.ensures, ← c.is_within-in-Value.ensures) c.next_if-in-Value.ensures

pub returns-in-Multiplier : goal.returns-in-Multiplier
unfolding step_of
returns-in-Multiplier c = rw (c.in-Multiplier.is, ← c.after_multiplier.ensures, ← c.is_within-in-Multiplier.ensures) c.next_if-in-Multiplier.ensures

pub returns-in-End : goal.returns-in-End
unfolding step_of
returns-in-End c = rw c.in-End.is
