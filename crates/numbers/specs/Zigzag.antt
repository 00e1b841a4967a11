-- Document 01, "Packs": "Coefficients and b are stored as 2x for x >= 0 and -2x-1 below". Below 0 a number is -(n + 1), and -2x-1 is 2n + 1.
use Rattle.std.specs.Prelude.{ℕ, ◌+◌, ◌*◌, ◌/◌, ◌%◌, eqb, ℤ, pos, negsuc}
use Rattle.numbers.specs.declared.zigzag.Sign.{Sign}
use Rattle.numbers.specs.declared.zigzag.Sign.TheVariants.{Plus, Minus}
use Rattle.std.specs.Prelude.{if◌then◌else◌}

-- The number that stands for x in a pack.
abbrev pub stored_of : ℤ → ℕ
stored_of (pos n) = n * 2
stored_of (negsuc n) = n * 2 + 1

-- The signed number that a pack's number stands for.
abbrev pub signed_of : ℕ → ℤ
signed_of raw = if eqb (raw % 2) 0 then pos (raw / 2) else negsuc (raw / 2)

-- A signed number by its sign.
abbrev pub sign_of : ℤ → Sign
sign_of (pos n) = Plus n
sign_of (negsuc n) = Minus n
