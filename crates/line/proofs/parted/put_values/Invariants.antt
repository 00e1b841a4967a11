-- After i turns the first i values stand as fields, and there is room for those that are left.
use lib.ListN.{take}
use Rattle.checked.specs.Checked.{taken_from}
use Rattle.line.specs.Line.{later}
use Rattle.decimals.specs.Puts.{Puts}
use Rattle.line.proofs.parted.put_values.Given as goal

abbrev pub invariant-loop-i : goal.invariant-loop-i
invariant-loop-i l = Puts (later (take l.i (taken_from 0 l.n l.rates))) l.initial.out l.at l.next l.out
