-- What is promised of reading a comma list, be it a claims list or a table.
use Rattle.std.specs.Prelude.{ℕ, ◌+◌, ◌≤◌, ◌<◌, ◌≡◌, ◌⊎◌, Bool, true, false, List, [], ◌∷◌, ◌++◌, length}
use Rattle.std.specs.Prelude.{Some, Ok, Err, if◌then◌else◌}
use Rattle.refusals.specs.declared.Refusal.{Refusal}
use Rattle.refusals.specs.Refusals.{number_of, place_of}
use Rattle.decimals.specs.Decimal.{decimal}
use Rattle.decimals.specs.Whole.{largest}
use Rattle.lists.specs.Cut.{line_end, lines_of}
use Rattle.lists.specs.Lines.{most_lines, header_of, entry_of, fields_of, listed_of}

-- ---- lines

-- Lines, each with CR LF after it.
unfoldable pub joined : List (List ℕ) → List ℕ
joined [] = []
joined (line ∷ lines) = line ++ (line_end ++ joined lines)

-- The lines of a text are the whole text: joined again they are the text, or the text with the CR LF that its last line lacks.
abbrev pub LinesJoined : Type 0
LinesJoined = (text : List ℕ) → (joined (lines_of text) ≡ text) ⊎ (joined (lines_of text) ≡ text ++ line_end)

-- A line of a claims list, and of a table, written out.
abbrev pub line_text : (claims : Bool) (age exposure count : ℕ) → List ℕ
line_text claims age exposure count =
    if claims then decimal age ++ (44 ∷ (decimal exposure ++ (44 ∷ decimal count))) else decimal age ++ (44 ∷ decimal count)

-- "whole numbers 0..10^9"; a table has no exposure.
pub record InRange (claims : Bool) (age exposure count : ℕ) : Type 0 where
  pub age_fits : age ≤ largest
  pub exposure_fits : exposure ≤ largest
  pub count_fits : count ≤ largest
  pub none : claims ≡ false → exposure ≡ 0

-- A line is well formed exactly if it is its numbers written out.
pub record LinesExactly : Type 0 where
  pub written : (claims : Bool) (age exposure count : ℕ) → InRange claims age exposure count → fields_of claims (line_text claims age exposure count) ≡ Some (entry_of age exposure count)
  pub only : (claims : Bool) (line : List ℕ) (age exposure count : ℕ) → fields_of claims line ≡ Some (entry_of age exposure count)
      → InRange claims age exposure count × (line ≡ line_text claims age exposure count)

-- ---- lists

-- Lines of data, all well formed, ages rising by one from the first, in a claims list no deaths above exposure.
pub data Listing (claims : Bool) : (age : ℕ) → List (List ℕ) → (exposures counts : List ℕ) → Type 0 where
  none : {age : ℕ} → Listing claims age [] [] []
  line : {age exposure count : ℕ} {lines : List (List ℕ)} {exposures counts : List ℕ} → InRange claims age exposure count → (claims ≡ true → count ≤ exposure)
      → Listing claims (age + 1) lines exposures counts → Listing claims age (line_text claims age exposure count ∷ lines) (exposure ∷ exposures) (count ∷ counts)

-- A text that is a list: its header, then at most 120 such lines.
pub record ListText (claims : Bool) (text : List ℕ) (exposures counts : List ℕ) : Type 0 where
  pub first : ℕ
  pub lines : List (List ℕ)
  pub headed : lines_of text ≡ header_of claims ∷ lines
  pub few : length exposures ≤ most_lines
  pub listing : Listing claims first lines exposures counts

-- A text is read to its end exactly if it is a list, and then what was read is what its lines hold.
pub record ReadExactly : Type 0 where
  pub read : (claims : Bool) (text exposures counts : List ℕ) → ListText claims text exposures counts
      → ((listed_of claims (lines_of text)).exposures ≡ exposures) × ((listed_of claims (lines_of text)).counts ≡ counts)
      × ((listed_of claims (lines_of text)).outcome ≡ Ok (length exposures))
  pub only : (claims : Bool) (text : List ℕ) (n : ℕ) → (listed_of claims (lines_of text)).outcome ≡ Ok n
      → ListText claims text (listed_of claims (lines_of text)).exposures (listed_of claims (lines_of text)).counts

-- ---- faults

-- What is wrong with a line after k others, where the age `next` is due: the first of 16, 17 and 18 that applies. A line with no such fault continues the
-- list.
pub data Faulty (claims : Bool) (k next : ℕ) (line : List ℕ) : (number : ℕ) → Type 0 where
  beyond : most_lines ≤ k → Faulty claims k next line 16
  malformed : k < most_lines → ((age exposure count : ℕ) → InRange claims age exposure count → line ≡ line_text claims age exposure count → ⊥)
      → Faulty claims k next line 16
  sequence : (age exposure count : ℕ) → k < most_lines → InRange claims age exposure count → line ≡ line_text claims age exposure count
      → (k ≡ 0 → ⊥) → (age ≡ next → ⊥) → Faulty claims k next line 17
  deaths : (age exposure count : ℕ) → k < most_lines → InRange claims age exposure count → line ≡ line_text claims age exposure count
      → (k ≡ 0) ⊎ (age ≡ next) → claims ≡ true → exposure < count → Faulty claims k next line 18

-- The first faulty line of data: all before it are without fault. "The header is 1."
pub record FirstFault (claims : Bool) (lines : List (List ℕ)) (number place : ℕ) : Type 0 where
  pub first : ℕ
  pub good : List (List ℕ)
  pub exposures : List ℕ
  pub counts : List ℕ
  pub bad : List ℕ
  pub later : List (List ℕ)
  pub parts : lines ≡ good ++ (bad ∷ later)
  pub listing : Listing claims first good exposures counts
  pub named : place ≡ length good + 2
  pub fault : Faulty claims (length good) (first + length good) bad number

-- A text without its header is 16 at the line 1.
pub record NoHeader (claims : Bool) (text : List ℕ) (number place : ℕ) : Type 0 where
  pub headless : (lines : List (List ℕ)) → lines_of text ≡ header_of claims ∷ lines → ⊥
  pub sixteen : number ≡ 16
  pub one : place ≡ 1

pub record FaultOf (claims : Bool) (text : List ℕ) (number place : ℕ) : Type 0 where
  pub lines : List (List ℕ)
  pub headed : lines_of text ≡ header_of claims ∷ lines
  pub fault : FirstFault claims lines number place

-- The line named is the first faulty one, and the number is the first that applies on it.
abbrev pub LowestFault : Type 0
LowestFault =
    (claims : Bool) (text : List ℕ) (r : Refusal) → (listed_of claims (lines_of text)).outcome ≡ Err r
    → NoHeader claims text (number_of r) (place_of r) ⊎ FaultOf claims text (number_of r) (place_of r)
