-- What is promised of the lines.
use Rattle.std.specs.Prelude.{ℕ, ◌≤◌, ◌≡◌, List, [], ◌∷◌, length}
use Rattle.std.specs.Prelude.{Err}
use Rattle.refusals.specs.declared.Refusal.{Refusal}
use Rattle.refusals.specs.Refusals.{number_of, place_of}
use Rattle.measure.specs.Check.{check_of}
use Rattle.checked.specs.Checked.{checked_of}
use Rattle.line.specs.Line.{printed, checked_line, line_of}

-- Every line fits the 1,024 bytes that are lent for it.
abbrev pub LinesFit : Type 0
LinesFit = (input : List ℕ) → length (line_of input) ≤ 1024

-- "Refused: number and place": those of the check, the place of 9 (W-202) too.
abbrev pub RefusedLines : Type 0
RefusedLines =
    (job proposal : List ℕ) (r : Refusal) → check_of job proposal ≡ Err r → checked_line (checked_of job proposal) ≡ printed (number_of r) (place_of r ∷ [])

-- Document 01's example, 13 03 07 03 02 01 00 00 01 00 64 07 01 00 64 00 01 00 64 00 02 03 02 in hex, and "0 3 7 28 0 2 3 2" with its line feed.
abbrev pub example : List ℕ
example = 19 ∷ 3 ∷ 7 ∷ 3 ∷ 2 ∷ 1 ∷ 0 ∷ 0 ∷ 1 ∷ 0 ∷ 100 ∷ 7 ∷ 1 ∷ 0 ∷ 100 ∷ 0 ∷ 1 ∷ 0 ∷ 100 ∷ 0 ∷ 2 ∷ 3 ∷ 2 ∷ []

abbrev pub example_line : List ℕ
example_line = 48 ∷ 32 ∷ 51 ∷ 32 ∷ 55 ∷ 32 ∷ 50 ∷ 56 ∷ 32 ∷ 48 ∷ 32 ∷ 50 ∷ 32 ∷ 51 ∷ 32 ∷ 50 ∷ 10 ∷ []

-- "v 0 7 0: F 196, G 784; … T 783 gives 9", whose largest term is the second cell's.
abbrev pub above : List ℕ
above = 20 ∷ 3 ∷ 7 ∷ 3 ∷ 2 ∷ 1 ∷ 143 ∷ 6 ∷ 0 ∷ 1 ∷ 0 ∷ 100 ∷ 7 ∷ 1 ∷ 0 ∷ 100 ∷ 0 ∷ 1 ∷ 0 ∷ 100 ∷ 0 ∷ 0 ∷ 7 ∷ 0 ∷ []

-- The example prints its line; an empty input, whose length cannot be read, prints "1 0"; and a gap above the tolerance prints "9 1".
abbrev pub WorkedLines : Type 0
WorkedLines = (line_of example ≡ example_line) × (line_of [] ≡ 49 ∷ 32 ∷ 48 ∷ 10 ∷ []) × (line_of above ≡ 57 ∷ 32 ∷ 49 ∷ 10 ∷ [])
