-- The loop keeps that the bytes left, after the digits so far, are worth what the field is (`Reading`).
use Rattle.decimals.proofs.Wholes.{Reading}
use Rattle.decimals.proofs.reading.whole_of.Given as goal

abbrev pub invariant-loop-b : goal.invariant-loop-b
invariant-loop-b l = Reading l.field l.b-index l.value
