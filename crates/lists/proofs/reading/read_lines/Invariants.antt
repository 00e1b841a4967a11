-- The loop keeps that the lines left end as the whole list does (`Walking`).
use Prim.Native.Nat.{◌-◌}
use lib.ListN.{length}
use Rattle.lists.proofs.Walks.{Walking}
use Rattle.lists.proofs.reading.read_lines.Given as goal

abbrev pub invariant-loop-at : goal.invariant-loop-at
invariant-loop-at l = Walking l.claims l.text l.from l.initial.exposures l.initial.counts l.exposures l.counts l.at l.k l.before

abbrev pub decreases-loop-at : goal.decreases-loop-at
decreases-loop-at l = length l.text - l.at
