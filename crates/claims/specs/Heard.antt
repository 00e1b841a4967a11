-- What one society sends and hears, out of a sequence of calls.
use Rattle.std.specs.Prelude.{ℕ, cond, List, [], ◌∷◌}
use Rattle.checked.specs.Answers.{Reply}
use Rattle.shelf.specs.Calls.{Own, Call, own, after, said, names, names_other}

-- what the calls that name the society are told, on a shelf
abbrev pub heard : (society : ℕ) → (shelf : List ℕ) → List Call → List Reply
heard society shelf [] = []
heard society shelf (call ∷ calls) = cond (names society call) (said shelf call ∷ heard society (after shelf call) calls) (heard society (after shelf call) calls)

-- the calls without those that name another society
abbrev pub without : (society : ℕ) → List Call → List Call
without society [] = []
without society (call ∷ calls) = cond (names_other society call) (without society calls) (call ∷ without society calls)

-- societies' calls without a clearing among them; of these, the society's own
abbrev pub sent : List Own → List Call
sent [] = []
sent (call ∷ calls) = own call ∷ sent calls

abbrev pub only_own : (society : ℕ) → List Own → List Own
only_own society [] = []
only_own society (call ∷ calls) = cond (names society (own call)) (call ∷ only_own society calls) (only_own society calls)
