-- The loop keeps that no CR LF was passed (`Seeking`).
use Rattle.lists.specs.Cut.{is_break}
use Rattle.lists.proofs.Cuts.{Seeking}
use Rattle.lists.proofs.cut.break_from.Given as goal

abbrev pub invariant-loop-i : goal.invariant-loop-i
invariant-loop-i l = Seeking is_break l.text l.at l.i
