-- A number in decimal, in ASCII, as the checking program's line (document 01) and the comma lists (document 02, W-201) have it.
use Rattle.std.specs.Prelude.{ℕ, zero, suc, ◌+◌, ◌/◌, ◌%◌, List, [], ◌∷◌, ◌++◌, ltb}
use Rattle.std.specs.Prelude.{if◌then◌else◌}

-- The ASCII digits of x, in at most so many.
unfoldable pub digits_in : ℕ → ℕ → List ℕ
digits_in zero x = []
digits_in (suc digits) x = if ltb x 10 then (48 + x) ∷ [] else digits_in digits (x / 10) ++ ((48 + x % 10) ∷ [])

-- x in decimal, without a leading zero: 20 digits hold every 64-bit number.
abbrev pub decimal : ℕ → List ℕ
decimal x = digits_in 20 x
