-- The loop keeps that the groups read so far, with what the later ones make, give the number (`Climb`).
use Prim.Native.Nat.{◌+◌}
use Rattle.numbers.proofs.Climb.{Climb}
use Rattle.numbers.proofs.plain.number_at.Given as goal

abbrev pub invariant-loop-groups : goal.invariant-loop-groups
invariant-loop-groups l = Climb l.s l.at (l.at + l.groups) l.value l.scale l.groups
