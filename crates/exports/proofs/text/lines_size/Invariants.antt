-- The loop keeps the bytes of the lines passed (`Sizing`).
use Rattle.exports.proofs.Texts.{Sizing}
use Rattle.exports.proofs.text.lines_size.Given as goal

abbrev pub invariant-loop-rate : goal.invariant-loop-rate
invariant-loop-rate l = Sizing l.first l.rates l.total l.age l.rate-index
