-- Document 01, "Numbers Mr Aldous reads": what every call over the C boundary returns and writes for its answer, whichever call it is.
use Rattle.std.specs.Prelude.{◌≡◌, ℕ, ◌+◌, ◌*◌, Bool, List, [], ◌∷◌, length, ◌==◌}
use Rattle.std.specs.Prelude.{if◌then◌else◌}
use Rattle.checked.specs.declared.Answer.{Answer}
use Rattle.checked.specs.Answers.{refusal}

-- "a call returns 32 times the place plus the number"
abbrev pub code_of : Answer → ℕ
code_of a = 32 * a.place + a.number

-- "and all four go into a lent slice"
abbrev pub answer_words : Answer → List ℕ
answer_words a = a.number ∷ a.place ∷ a.loss ∷ a.gap ∷ []

-- "a lent slice of exactly four 64-bit words; any other length is refused with 13, place 4, and only the returned number tells it"
abbrev pub has_four : (answer : List ℕ) → Bool
has_four answer = length answer == 4

abbrev pub no_answer : Answer
no_answer = (refusal 13 4).answer

abbrev pub returned_for : (answer : List ℕ) → Answer → ℕ
returned_for answer a = if has_four answer then code_of a else code_of no_answer

abbrev pub written_for : (answer : List ℕ) → Answer → List ℕ
written_for answer a = if has_four answer then answer_words a else answer

-- "A refusal changes no lent word": what a lent slice holds at the end, where a call with room for its answer makes it `after`.
abbrev pub left_for : {A : Type 0} → (answer : List ℕ) → (before after : List A) → List A
left_for answer before after = if has_four answer then after else before

-- A call's claim: what it returns, what its answer slice holds at the end, and what the slice that it writes to holds.
pub record Says {A : Type 0} (a : Answer) (answer : List ℕ) (before after : List A) (returned : ℕ) (answered : List ℕ) (left : List A) : Type 0 where
  pub returns : returned ≡ returned_for answer a
  pub answers : answered ≡ written_for answer a
  pub leaves : left ≡ left_for answer before after
