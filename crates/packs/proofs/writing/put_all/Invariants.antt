-- The loop keeps that what is stored, with the bytes of the numbers left, is the whole pack (`Putting`).
use Rattle.packs.proofs.Packing.{Putting}
use Rattle.packs.proofs.writing.put_all.Given as goal

abbrev pub invariant-loop-x : goal.invariant-loop-x
invariant-loop-x l = Putting l.numbers l.initial.out l.out l.at l.x-index
