-- The loop keeps that what is left of the walk ends as the whole does (`Along`); each turn takes a byte or a word.
use Rattle.packs.specs.Walking.{writes, bytes_in, words_in}
use Rattle.packs.proofs.Along.{Along, ahead}
use Rattle.packs.proofs.walking.walk.Given as goal

abbrev pub invariant-loop-t : goal.invariant-loop-t
invariant-loop-t l = Along (writes l.source) (bytes_in l.source) (words_in l.source) l.initial.field l.initial.kept l.kept l.k l.field l.at

abbrev pub decreases-loop-t : goal.decreases-loop-t
decreases-loop-t l = ahead (writes l.source) (bytes_in l.source) (words_in l.source) l.k l.at
