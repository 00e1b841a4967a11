-- By whether the box leaves anything, and whether the square counts; every term is below 2^63.
use Rattle.tally.proofs.Terms.{box_call, by_box, by_lesser, by_none, square_call}
use Rattle.tally.proofs.term.cell_term.Goals as goal

pub box_term-by_box-requires : goal.box_term-by_box-requires
box_term-by_box-requires c = box_call c.requires

pub returns-then-by_box-le0 : goal.returns-then-by_box-le0
returns-then-by_box-le0 c = by_none c.requires c.box_term-by_box.ensures c.if-by_box-le0.true

pub square_term-requires : goal.square_term-requires
square_term-requires c = square_call c.requires c.box_term-by_box.ensures c.square_counts.ensures c.if-square_counts.true

pub returns-then-square_counts : goal.returns-then-square_counts
returns-then-square_counts c = by_lesser c.requires c.box_term-by_box.ensures c.square_counts.ensures c.if-square_counts.true c.square_term.ensures c.lesser_of.ensures

pub returns : goal.returns
returns c = by_box c.requires c.box_term-by_box.ensures c.square_counts.ensures c.if-square_counts.false
