-- The leading row of a shelf (document 02, W-209): "The shelf gets a leading row of eight words, each society's count of places, 1 to 16, total at most
-- 32; places follow in society order". What document 01 calls a place of the shelf is a slot here.
use Rattle.std.specs.Prelude.{ℕ, zero, suc, ◌+◌, ◌*◌, ◌≡◌, Bool, cond, ◌||◌, Option, Result, Ok, Err, List, ◌++◌, eqb, leb, ltb, length, take, drop, get_or, replicate}
use Rattle.slots.specs.Slots.{slot_words, lowest, at_slot}
use Rattle.refusals.specs.declared.Refusal.{Refusal}
use Rattle.refusals.specs.declared.Refusal.TheVariants.{NoRoom, CountsNotAllowed}
use Rattle.refusals.specs.Refusals.{number_of, place_of}

-- ---- counts
-- the societies, the most slots of one, and of all
abbrev pub societies : ℕ
societies = 8

abbrev pub most_slots : ℕ
most_slots = 16

abbrev pub all_slots : ℕ
all_slots = 32

-- a society's count, the slots of the societies below s, and those of all
abbrev pub count_in : (row : List ℕ) → (society : ℕ) → ℕ
count_in row society = get_or row society 0

unfoldable pub slots_below : (count : ℕ → ℕ) → (s : ℕ) → ℕ
slots_below count zero = 0
slots_below count (suc s) = slots_below count s + count s

abbrev pub slots_of : (row : List ℕ) → ℕ
slots_of row = slots_below (count_in row) societies

-- ---- which are allowed
-- the count with which x begins is not "1 to 16"
unfoldable pub is_wrong : (x : List ℕ) → Bool
is_wrong x = ltb (get_or x 0 0) 1 || ltb most_slots (get_or x 0 0)

-- the lowest society whose count is wrong: a count is one word
abbrev pub lowest_wrong : (row : List ℕ) → Option ℕ
lowest_wrong row = lowest is_wrong 1 societies row

-- what a test comes to: the call may go on, or it is refused
abbrev pub Tested : Type 0
Tested = Result (Unit {0}) Refusal

abbrev pub passed : Tested
passed = Ok tt

-- "22 counts not allowed, …, place the lowest wrong society, or 8 for the total"
abbrev pub test_total : (row : List ℕ) → Tested
test_total row = cond (leb (slots_of row) all_slots) passed (Err (CountsNotAllowed societies))

unfoldable pub test_row : (row : List ℕ) → Tested
test_row row = at_slot (lowest_wrong row) (λ society. Err (CountsNotAllowed society)) (test_total row)

abbrev pub on_row : {A : Type 0} → Tested → (right : A) → (wrong : (place : ℕ) → A) → A
on_row (Ok u) right wrong = right
on_row (Err r) right wrong = wrong (place_of r)

-- ---- the words of a shelf
-- "the shelf is 9,192 words": its row, and the most slots
abbrev pub shelf_words : ℕ
shelf_words = societies + slot_words * all_slots

abbrev pub row_in : (shelf : List ℕ) → List ℕ
row_in shelf = take societies shelf

-- where a society's span starts; "the rest of it" is what lies behind the last span
abbrev pub start_in : (row : List ℕ) → (society : ℕ) → ℕ
start_in row society = societies + slot_words * slots_below (count_in row) society

abbrev pub rest_of : (row shelf : List ℕ) → List ℕ
rest_of row shelf = drop (start_in row societies) shelf

-- "13 names that number"
abbrev pub test_length : (shelf : List ℕ) → Tested
test_length shelf = cond (eqb (length shelf) shelf_words) passed (Err (NoRoom shelf_words))

abbrev pub and_then : Tested → Tested → Tested
and_then (Ok u) later = later
and_then (Err r) later = Err r

-- "22 counts not allowed, at clearing, and at every other call after the length test": of the counts handed in, or of the shelf's own
unfoldable pub test_shelf : (row shelf : List ℕ) → Tested
test_shelf row shelf = and_then (test_length shelf) (test_row row)

abbrev pub on_tested : {A : Type 0} → Tested → (then : A) → (refused : (number place : ℕ) → A) → A
on_tested (Ok u) then refused = then
on_tested (Err r) then refused = refused (number_of r) (place_of r)

-- a shelf has all its words, and its row is allowed
pub record Ready (shelf : List ℕ) : Type 0 where
  pub long : length shelf ≡ shelf_words
  pub row : test_row (row_in shelf) ≡ passed

-- "the rest of it is never touched, even by clearing, which alone takes and sets the counts"; document 01: "Clearing sets every word to 0"
unfoldable pub cleared : (row shelf : List ℕ) → List ℕ
cleared row shelf = row ++ (replicate (slot_words * slots_of row) 0 ++ rest_of row shelf)
