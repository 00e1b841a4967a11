use Rattle.measure.proofs.Verdicts.{meet_added, meet_none, meet_outside, meet_walked}
use Rattle.measure.proofs.meeting.meet.Goals as goal

pub returns-then-cell-n : goal.returns-then-cell-n
returns-then-cell-n c = (meet_outside c.requires c.lowest_outside-cell.ensures c.if-cell-n.true, meet_none c.requires c.lowest_outside-cell.ensures c.if-cell-n.true)

pub returns : goal.returns
returns c = (meet_walked c.requires c.lowest_outside-cell.ensures c.if-cell-n.false c.walk.ensures.0, meet_added c.requires c.lowest_outside-cell.ensures c.if-cell-n.false c.walk.ensures.1)
