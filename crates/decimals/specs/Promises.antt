-- What is promised of decimal numbers.
use Rattle.std.specs.Prelude.{ℕ, suc, ◌+◌, ◌-◌, ◌*◌, ◌^◌, ◌≤◌, ◌<◌, ◌≡◌, Some, List, [], ◌∷◌, length}
use Rattle.decimals.specs.Decimal.{decimal}
use Rattle.decimals.specs.Whole.{largest, whole_of}

-- The number that ASCII digits stand for, after digits that come to so much.
abbrev pub numeral : ℕ → List ℕ → ℕ
numeral before [] = before
numeral before (digit ∷ digits) = numeral (10 * before + (digit - 48)) digits

-- Every byte is one of the digits 0 to 9.
abbrev pub AllDigits : List ℕ → Type 0
AllDigits [] = Unit {0}
AllDigits (digit ∷ digits) = ((48 ≤ digit) × (digit ≤ 57)) × AllDigits digits

-- The digits of a 64-bit number are digits and stand for it, and there are no more of them than it needs: so none is a leading zero.
abbrev pub DecimalsReadBack : Type 0
DecimalsReadBack = (x : ℕ) → x < 2 ^ 64 → AllDigits (decimal x) × (numeral 0 (decimal x) ≡ x)

abbrev pub DecimalsShortest : Type 0
DecimalsShortest = (k x : ℕ) → x < 10 ^ suc k → length (decimal x) ≤ suc k

-- A field stands for a number exactly if it is the number in decimal and the number is at most 10^9.
abbrev pub WholesReadBack : Type 0
WholesReadBack = (x : ℕ) → x ≤ largest → whole_of (decimal x) ≡ Some x

abbrev pub WholesWrittenBack : Type 0
WholesWrittenBack = (s : List ℕ) (x : ℕ) → whole_of s ≡ Some x → (s ≡ decimal x) × (x ≤ largest)
