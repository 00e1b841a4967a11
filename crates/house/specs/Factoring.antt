-- A line's band and its step, in the forms of the code (document 01, "Where each form goes"): five entries a row, four multipliers a row. Then what
-- follows from a factor, of a line or of a grid.
use Rattle.std.specs.Prelude.{◌≡◌, ℕ, List, [], length, take, replicate, slice_index_or, Float}
use Rattle.std.proofs.lemmas.List.Edits.{sets}
use Rattle.factor.specs.Factor.{Ending, Band, Made, judged, factor_of}
use Rattle.factor.specs.Solve.{solved_by}
use Rattle.house.specs.declared.factoring.Step.{Step}
use Rattle.house.specs.Band.{zero64}

-- A stored band, by cell and offset.
abbrev pub rows_of : List (List Float) → Band
rows_of band j = slice_index_or band j []

-- "Each step answers either the factor row with its pivot, or thin with the pivot that failed."
abbrev pub answered : Made → Step
answered m =
    record { pivot = judged m.pivot; row = record { pivot = m.pivot; multipliers = sets (replicate 4 zero64) 0 m.multipliers } }

-- How the factoring ends, the rows that it made, and the values before rounding; where it is thin, the right side as it was.
pub record Solved : Type 0 where
  pub ending : Ending
  pub pivots : List Float
  pub multipliers : List Float
  pub values : List Float

-- Of a band z wide of n cells, with room for so many multipliers.
unfoldable pub solved_with : (room : ℕ) → Band → (z n : ℕ) (right : List Float) → Solved
solved_with room band z n right =
    let f = factor_of room band z n in
    record {
      ending = f.ending;
      pivots = f.pivots;
      multipliers = f.multipliers;
      values = solved_by z n right f.pivots f.multipliers f.ending;
    }

-- What a solve answers, and what it leaves in the lists that it was lent.
abbrev pub Solves : Solved → Ending → (d l v : List Float) → Type 0
Solves s e d l v = (e ≡ s.ending) × (d ≡ s.pivots) × (l ≡ s.multipliers) × (v ≡ s.values)

-- The same where the factor goes out only as far as the lists d₀ and l₀ have room for it.
abbrev pub front : (room xs : List Float) → List Float
front room xs = sets room 0 (take (length room) xs)

abbrev pub HandsOut : Solved → (d₀ l₀ : List Float) → Ending → (d l v : List Float) → Type 0
HandsOut s d₀ l₀ e d l v = (e ≡ s.ending) × (d ≡ front d₀ s.pivots) × (l ≡ front l₀ s.multipliers) × (v ≡ s.values)
