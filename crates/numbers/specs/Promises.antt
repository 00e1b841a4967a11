-- What is promised of one number: reading and writing are inverse, both ways, and so are the stored form and its number.
use Rattle.std.specs.Prelude.{ℕ, ◌+◌, ◌^◌, ◌<◌, ◌≡◌, List, ◌++◌, ℤ, length, get_or}
use Rattle.numbers.specs.Plain.{found, number_in, bytes_of}
use Rattle.numbers.specs.Zigzag.{stored_of, signed_of}

-- A number that nine groups hold and that was written is read back, whatever comes after it.
abbrev pub NumbersReadBack : Type 0
NumbersReadBack = (x at : ℕ) (rest : List ℕ) → x < 2 ^ 63 → number_in 9 (bytes_of x ++ rest) at ≡ found x (at + length (bytes_of x))

-- The bytes start with the form of v that is written, which ends before the offset n, and nine groups hold v.
pub record StartsWith (bytes : List ℕ) (at v n : ℕ) : Type 0 where
  pub rest : List ℕ
  pub same : bytes ≡ bytes_of v ++ rest
  pub next : n ≡ at + length (bytes_of v)
  pub small : v < 2 ^ 63

-- "Only the shortest form is read": a number is read from no bytes but those that writing it gives.
abbrev pub NumbersWrittenBack : Type 0
NumbersWrittenBack = (bytes : List ℕ) (at v n : ℕ) → ((i : ℕ) → get_or bytes i 0 < 256) → number_in 9 bytes at ≡ found v n → StartsWith bytes at v n

-- "Coefficients and b are stored as 2x for x >= 0 and -2x-1 below", one to one.
abbrev pub SignsReadBack : Type 0
SignsReadBack = (x : ℤ) → signed_of (stored_of x) ≡ x

abbrev pub SignsWrittenBack : Type 0
SignsWrittenBack = (raw : ℕ) → stored_of (signed_of raw) ≡ raw
