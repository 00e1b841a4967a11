-- After o turns the places below o hold their entries, and t and `past` are the whole rows and the cells past them in o.
use Rattle.std.proofs.Common.{◌≡◌, ◌+◌, ◌-◌, ◌/◌, ◌%◌}
use Rattle.house.specs.Filled.{filled}
use Rattle.house.specs.Held.{entry_at}
use Rattle.house.proofs.grid.spread.Given as goal

abbrev pub invariant-loop-o : goal.invariant-loop-o
invariant-loop-o l = (l.t ≡ l.o / l.columns) × (l.past ≡ l.o % l.columns) × (filled (entry_at l.columns l.below l.beside) (l.z + 1 - l.o) l.o l.made ≡ filled (entry_at l.columns l.below l.beside) (l.z + 1) 0 l.initial.made)
