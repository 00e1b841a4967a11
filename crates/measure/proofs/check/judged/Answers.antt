-- The settled total decides whether the gap is at most the tolerance, and where it is, the total is the gap; the tallies of cells and links give the
-- place of the largest term.
use Rattle.measure.proofs.Verdicts.{judge_led, judge_totalling, judged_accepts, judged_refuses, parted_smoothing}
use Rattle.measure.proofs.check.judged.Goals as goal

pub smoothed-rough-requires : goal.smoothed-rough-requires
smoothed-rough-requires c = parted_smoothing c.requires.parted

pub total_of-cells-requires : goal.total_of-cells-requires
total_of-cells-requires c = judge_totalling c.requires c.smoothed-rough.ensures.1

pub returns-then-g-t : goal.returns-then-g-t
returns-then-g-t c = (
  judged_accepts c.requires c.smoothed-rough.ensures.1 c.total_of-cells.ensures c.tolerance-t.ensures c.loss-loss.ensures c.if-g-t.true,
  c.smoothed-rough.ensures.1,
)

pub place_of-requires : goal.place_of-requires
place_of-requires c = judge_led c.requires c.smoothed-rough.ensures.1 c.total_of-cells.ensures c.tolerance-t.ensures

pub returns : goal.returns
returns c = (
  judged_refuses c.requires c.smoothed-rough.ensures.1 c.total_of-cells.ensures c.tolerance-t.ensures c.if-g-t.false c.place_of.ensures,
  c.smoothed-rough.ensures.1,
)
