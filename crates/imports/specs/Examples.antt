-- A claims list made into its job pack, worked by hand. Bytes are written in decimal: 44 is the comma, 13 and 10 are CR LF, 48 to 57 the digits.
use Rattle.std.specs.Prelude.{ℕ, ◌≡◌, List, [], ◌∷◌, ◌++◌}
use Rattle.std.specs.Prelude.{Ok, Err}
use Rattle.refusals.specs.declared.Refusal.TheVariants.{NotAllowed, NoRoom}
use Rattle.lists.specs.Cut.{line_end}
use Rattle.imports.specs.declared.Given.{Given}
use Rattle.imports.specs.Imports.{crude_of, weight_of, import_of}

-- "age,exposure,deaths", "40,1000,7", "41,2000,3" and "42,0,0", the last without its CR LF.
abbrev pub claims : List ℕ
claims = 97 ∷ 103 ∷ 101 ∷ 44 ∷ 101 ∷ 120 ∷ 112 ∷ 111 ∷ 115 ∷ 117 ∷ 114 ∷ 101 ∷ 44 ∷ 100 ∷ 101 ∷ 97 ∷ 116 ∷ 104 ∷ 115 ∷ 13 ∷ 10 ∷ 52 ∷ 48 ∷ 44 ∷ 49 ∷ 48 ∷ 48 ∷ 48 ∷ 44 ∷ 55 ∷ 13 ∷ 10 ∷ 52 ∷ 49 ∷ 44 ∷ 50 ∷ 48 ∷ 48 ∷ 48 ∷ 44 ∷ 51 ∷ 13 ∷ 10 ∷ 52 ∷ 50 ∷ 44 ∷ 48 ∷ 44 ∷ 48 ∷ []

-- Divisor 100, society 3, job 7, this order, k 1, T 0, box 0 to 100,000.
abbrev pub given : (order : ℕ) → Given
given order = record { divisor = 100; society = 3; job = 7; order = order; constant = 1; tolerance = 0; floor = 0; ceiling = 100000 }

-- The job pack of order 2: rates 7,000, 1,500 and 0, weights 10, 20 and 0.
abbrev pub pack : List ℕ
pack = 3 ∷ 7 ∷ 3 ∷ 2 ∷ 1 ∷ 0 ∷ 216 ∷ 54 ∷ 10 ∷ 0 ∷ 160 ∷ 141 ∷ 6 ∷ 220 ∷ 11 ∷ 20 ∷ 0 ∷ 160 ∷ 141 ∷ 6 ∷ 0 ∷ 0 ∷ 0 ∷ 160 ∷ 141 ∷ 6 ∷ 0 ∷ []

pub record Examples : Type 0 where
  pub half_up : crude_of 2000000 1 ≡ 1
  pub third : crude_of 3 1 ≡ 333333
  pub two_thirds : crude_of 3 2 ≡ 666667
  pub whole : crude_of 7 7 ≡ 1000000
  pub heavy : weight_of 1 1000000000 ≡ 1000
  pub imported : import_of (given 2) 27 claims ≡ record { bytes = pack; outcome = Ok 27 }
  pub with_last_end : import_of (given 2) 27 (claims ++ line_end) ≡ record { bytes = pack; outcome = Ok 27 }
  pub short : (import_of (given 2) 26 claims).outcome ≡ Err (NoRoom 27)
  -- the order field stands at the offset 3
  pub grid : (import_of (given 5) 27 claims).outcome ≡ Err (NotAllowed 3)
