-- A table as a list, worked by hand. Bytes are written in decimal: 44 is the comma, 13 and 10 are CR LF, 48 to 57 the digits.
use Rattle.std.specs.Prelude.{ℕ, ◌≡◌, List, [], ◌∷◌}
use Rattle.std.specs.Prelude.{Ok}
use Rattle.exports.specs.Exports.{export_text, rates_of}

-- "age,rate", "59,7" and "60,1000000000"
abbrev pub exported : List ℕ
exported = 97 ∷ 103 ∷ 101 ∷ 44 ∷ 114 ∷ 97 ∷ 116 ∷ 101 ∷ 13 ∷ 10 ∷ 53 ∷ 57 ∷ 44 ∷ 55 ∷ 13 ∷ 10 ∷ 54 ∷ 48 ∷ 44 ∷ 49 ∷ 48 ∷ 48 ∷ 48 ∷ 48 ∷ 48 ∷ 48 ∷ 48 ∷ 48 ∷ 48 ∷ 13 ∷ 10 ∷ []

pub record Examples : Type 0 where
  pub out : export_text 59 (7 ∷ 1000000000 ∷ []) ≡ exported
  pub back : rates_of 2 exported ≡ record { values = 7 ∷ 1000000000 ∷ []; outcome = Ok 2 }
