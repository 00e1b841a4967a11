-- Document 02, W-201: "whole numbers 0..10^9 without leading zeros". What the bytes of one field stand for.
use Rattle.std.specs.Prelude.{ℕ, ◌+◌, ◌-◌, ◌*◌, Bool, ◌&&◌, Option, Some, None, List, [], ◌∷◌, leb, ltb, eqb, length, get_or}
use Rattle.std.specs.Prelude.{if◌then◌else◌}

-- "0..10^9"
abbrev pub largest : ℕ
largest = 1000000000

-- The ASCII digits 0 to 9.
abbrev pub is_digit : ℕ → Bool
is_digit b = leb 48 b && leb b 57

-- Digits that come to so much, and the byte after them.
abbrev pub digit_after : (before b : ℕ) → Option ℕ
digit_after before b = if is_digit b && leb (10 * before + (b - 48)) largest then Some (10 * before + (b - 48)) else None

abbrev pub on_digit : Option ℕ → (ℕ → Option ℕ) → Option ℕ
on_digit (Some value) rest = rest value
on_digit None rest = None

-- The bytes after digits that come to so much.
unfoldable pub value_from : (before : ℕ) → List ℕ → Option ℕ
value_from before [] = Some before
value_from before (b ∷ s) = on_digit (digit_after before b) (λ value. value_from value s)

-- A 0 in front of other digits.
abbrev pub leading_zero : List ℕ → Bool
leading_zero s = eqb (get_or s 0 0) 48 && ltb 1 (length s)

-- The number that the bytes of a field stand for: none where there are no bytes.
abbrev pub whole_of : List ℕ → Option ℕ
whole_of s = if eqb (length s) 0 then None else if leading_zero s then None else value_from 0 s
