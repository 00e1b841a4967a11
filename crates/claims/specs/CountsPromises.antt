-- What is promised of the counts of slots (document 02, W-209), in the document's words. The proof of each stands in proofs/CountsPromises.antt.
use Rattle.std.specs.Prelude.{ℕ, ◌+◌, ◌*◌, ◌≤◌, ◌<◌, ◌≡◌, ◌↔◌, List, [], ◌∷◌}
use Rattle.std.specs.Prelude.{Err}
use Rattle.refusals.specs.declared.Refusal.TheVariants.{CountsNotAllowed}
use Rattle.counts.specs.Counts.{passed, count_in, slots_of, test_row, start_in}
use Rattle.claims.specs.Verdicts.{LowestNot}

-- "each society's count of places, 1 to 16"
abbrev pub OneToSixteen : (row : List ℕ) → (society : ℕ) → Type 0
OneToSixteen row society = (1 ≤ count_in row society) × (count_in row society ≤ 16)

abbrev pub EachOneToSixteen : (row : List ℕ) → Type 0
EachOneToSixteen row = (society : ℕ) → society < 8 → OneToSixteen row society

-- "total at most 32"
pub record CountsAllowed (row : List ℕ) : Type 0 where
  pub each : EachOneToSixteen row
  pub total : slots_of row ≤ 32

-- "place the lowest wrong society, or 8 for the total"
pub data CountsWrong (row : List ℕ) (place : ℕ) : Type 0 where
  a_count : LowestNot (OneToSixteen row) 8 place → CountsWrong row place
  the_total : EachOneToSixteen row → 32 < slots_of row → place ≡ 8 → CountsWrong row place

-- The test of a row says that it is right exactly where its counts are allowed, and wrong at a place exactly where they are wrong there.
abbrev pub RightExactly : Type 0
RightExactly = (row : List ℕ) → (test_row row ≡ passed) ↔ CountsAllowed row

abbrev pub WrongExactly : Type 0
WrongExactly = (row : List ℕ) (place : ℕ) → (test_row row ≡ Err (CountsNotAllowed place)) ↔ CountsWrong row place

-- ---- counts worked by hand
-- Document 01's "each 4 places" is an instance: four each are allowed, and every span is 1,148 words, one behind the other.
abbrev pub fours : List ℕ
fours = 4 ∷ 4 ∷ 4 ∷ 4 ∷ 4 ∷ 4 ∷ 4 ∷ 4 ∷ []

abbrev pub FourEach : Type 0
FourEach = (test_row fours ≡ passed) × ((society : ℕ) → society ≤ 7 → (count_in fours society ≡ 4) × (start_in fours society ≡ 8 + 1148 * society))

-- "Two societies want ten kept tables and one wants two": the other five have two each; with four each the total is wrong.
abbrev pub TenTenTwo : Type 0
TenTenTwo = (test_row (10 ∷ 10 ∷ 2 ∷ 2 ∷ 2 ∷ 2 ∷ 2 ∷ 2 ∷ []) ≡ passed) × (test_row (10 ∷ 10 ∷ 2 ∷ 4 ∷ 4 ∷ 4 ∷ 4 ∷ 4 ∷ []) ≡ Err (CountsNotAllowed 8))
