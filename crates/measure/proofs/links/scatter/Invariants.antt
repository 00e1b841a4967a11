-- The terms passed are added, each in its cell.
use Rattle.measure.proofs.Scattered.{link_terms}
use Rattle.measure.specs.Running.{Added}
use Rattle.measure.proofs.links.scatter.Given as goal

abbrev pub invariant-loop-m : goal.invariant-loop-m
invariant-loop-m l = Added (link_terms l.words l.s (l.y) l.m) l.initial.parts l.parts
