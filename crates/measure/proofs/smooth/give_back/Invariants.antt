-- The coefficients passed are given back, each to its cell.
use Prim.Native.Nat.{◌+◌, ◌*◌}
use Rattle.jobs.specs.Words.{word_at}
use Rattle.measure.specs.Running.{Added}
use Rattle.measure.proofs.Scattered.{terms_of}
use Rattle.measure.proofs.smooth.give_back.Given as goal

abbrev pub invariant-loop-m : goal.invariant-loop-m
invariant-loop-m l = Added (terms_of (λ m. l.i + m * l.stride) (word_at l.row) (l.y) l.m) l.initial.parts l.parts
