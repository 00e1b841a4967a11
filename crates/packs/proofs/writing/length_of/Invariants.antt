-- The loop keeps that what was counted, with the bytes of the numbers left, is the whole length (`Counting`).
use Rattle.packs.proofs.Packing.{Counting}
use Rattle.packs.proofs.writing.length_of.Given as goal

abbrev pub invariant-loop-x : goal.invariant-loop-x
invariant-loop-x l = Counting l.numbers l.total l.x-index
