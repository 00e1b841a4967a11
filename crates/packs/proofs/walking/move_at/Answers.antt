-- The end is told first; a number found is below 2^63.
use Rattle.packs.proofs.walking.move_at.Goals as goal

pub returns-then-has_left : goal.returns-then-has_left
returns-then-has_left c = rw (← c.is_end.ensures, c.if-is_end.true, ← c.has_left.ensures, c.if-has_left.true)

pub returns-then-is_end : goal.returns-then-is_end
returns-then-is_end c = rw (← c.is_end.ensures, c.if-is_end.true, ← c.has_left.ensures, c.if-has_left.false)
