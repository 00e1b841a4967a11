-- Claims lists with a fault, worked by hand. Bytes are written in decimal: 44 is the comma, 13 and 10 are CR LF, 48 to 57 the digits.
use Rattle.std.specs.Prelude.{ℕ, ◌≡◌, true, Result, Err, List, [], ◌∷◌, ◌++◌}
use Rattle.refusals.specs.declared.Refusal.{Refusal}
use Rattle.refusals.specs.declared.Refusal.TheVariants.{BadLine, OutOfSequence, DeathsAbove}
use Rattle.lists.specs.Cut.{line_end, lines_of}
use Rattle.lists.specs.Lines.{claims_header, listed_of}

-- How the reading ends of these bytes under their header.
abbrev under : List ℕ → Result ℕ Refusal
under bytes = (listed_of true (lines_of (claims_header ++ (line_end ++ bytes)))).outcome

-- "40,10,1", a line without fault, with its CR LF.
abbrev fine : List ℕ
fine = 52 ∷ 48 ∷ 44 ∷ 49 ∷ 48 ∷ 44 ∷ 49 ∷ 13 ∷ 10 ∷ []

pub record Examples : Type 0 where
  -- no text, and a blank in the header
  pub nothing : (listed_of true (lines_of [])).outcome ≡ Err (BadLine 1)
  pub blank : (listed_of true (lines_of (97 ∷ 103 ∷ 101 ∷ 44 ∷ 32 ∷ 101 ∷ 120 ∷ 112 ∷ 111 ∷ 115 ∷ 117 ∷ 114 ∷ 101 ∷ 44 ∷ 100 ∷ 101 ∷ 97 ∷ 116 ∷ 104 ∷ 115 ∷ 13 ∷ 10 ∷ fine))).outcome ≡ Err (BadLine 1)
  -- "40,010,1"
  pub leading_zero : under (52 ∷ 48 ∷ 44 ∷ 48 ∷ 49 ∷ 48 ∷ 44 ∷ 49 ∷ 13 ∷ 10 ∷ []) ≡ Err (BadLine 2)
  -- "40,10,1", a line feed alone, and "41,10,1"
  pub line_feed : under (52 ∷ 48 ∷ 44 ∷ 49 ∷ 48 ∷ 44 ∷ 49 ∷ 10 ∷ 52 ∷ 49 ∷ 44 ∷ 49 ∷ 48 ∷ 44 ∷ 49 ∷ 13 ∷ 10 ∷ []) ≡ Err (BadLine 2)
  -- one CR LF more at the end
  pub empty_line : under (fine ++ line_end) ≡ Err (BadLine 3)
  -- "42,1000000001,1": a number above 10^9 and an age out of sequence, of which 16 comes first
  pub out_of_range : under (fine ++ (52 ∷ 50 ∷ 44 ∷ 49 ∷ 48 ∷ 48 ∷ 48 ∷ 48 ∷ 48 ∷ 48 ∷ 48 ∷ 48 ∷ 49 ∷ 44 ∷ 49 ∷ [])) ≡ Err (BadLine 3)
  -- "42,10,1" after the age 40
  pub out_of_sequence : under (fine ++ (52 ∷ 50 ∷ 44 ∷ 49 ∷ 48 ∷ 44 ∷ 49 ∷ [])) ≡ Err (OutOfSequence 3)
  -- "40,10,11", and deaths without exposure, "40,0,1"
  pub above : under (52 ∷ 48 ∷ 44 ∷ 49 ∷ 48 ∷ 44 ∷ 49 ∷ 49 ∷ []) ≡ Err (DeathsAbove 2)
  pub without_exposure : under (52 ∷ 48 ∷ 44 ∷ 48 ∷ 44 ∷ 49 ∷ []) ≡ Err (DeathsAbove 2)
