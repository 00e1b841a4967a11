-- The shortest form of a number: one byte below 128, else a byte and the form of the rest; one to ten bytes, and nine for numbers below 2^63.
use Prim.Native.Nat.{ℕ, zero, suc, ◌+◌, ◌/◌, ◌%◌, ◌^◌, ◌≤◌, ◌<◌}
use mathlib.Core.Path.{◌≡◌, ap}
use mathlib.Core.Bool.{Bool, true, false}
use mathlib.Core.List.{List, [], ◌∷◌}
use native.Mathlib.Nat.{pow-suc}
use native.Mathlib.Omega.{arith}
use borrow.Author.Tests.{lt-ltb, le-ltb}
use lib.Dec.{ltb}
use lib.ListN.{length}
use Rattle.std.specs.Prelude.{if◌then◌else◌}
use Rattle.numbers.specs.Plain.{bytes_in, bytes_of}

-- more groups than are needed change nothing
bytes_fuel : (g x : ℕ) → x < 128 ^ suc g → bytes_in (suc g) x ≡ bytes_in (suc (suc g)) x
unfolding bytes_in
bytes_fuel zero x h = rw (lt-ltb x 128 h)
bytes_fuel (suc g) x h =
    ap (λ (r : List ℕ). if ltb x 128 then x ∷ [] else (x % 128 + 128) ∷ r) (bytes_fuel g (x / 128) (omega (arith, pow-suc 128 (suc g))))

pub bytes_one : (x : ℕ) → x < 128 → bytes_of x ≡ x ∷ []
unfolding bytes_in
bytes_one x h = rw (lt-ltb x 128 h)

pub bytes_more : (x : ℕ) → 128 ≤ x → x < 2 ^ 64 → bytes_of x ≡ (x % 128 + 128) ∷ bytes_of (x / 128)
unfolding bytes_in
bytes_more x h k = rw (le-ltb x 128 h) (ap (λ (r : List ℕ). (x % 128 + 128) ∷ r) (bytes_fuel 8 (x / 128) (omega arith)))

pub bytes_nine : (x : ℕ) → x < 2 ^ 63 → bytes_in 9 x ≡ bytes_of x
bytes_nine x h = bytes_fuel 8 x h

-- ---- how many bytes

length_in : (g x : ℕ) → length (bytes_in g x) ≤ g
unfolding bytes_in
length_in zero x = omega arith
length_in (suc g) x = go (ltb x 128) (length_in g (x / 128))
  where
    go : (t : Bool) → length (bytes_in g (x / 128)) ≤ g → length (if t then x ∷ [] else (x % 128 + 128) ∷ bytes_in g (x / 128)) ≤ suc g
    go true h = omega arith
    go false h = omega arith

pub size_most : (x : ℕ) → length (bytes_of x) ≤ 10
size_most x = length_in 10 x

pub size_some : (x : ℕ) → 1 ≤ length (bytes_of x)
unfolding bytes_in
size_some x = go (ltb x 128)
  where
    go : (t : Bool) → 1 ≤ length (if t then x ∷ [] else (x % 128 + 128) ∷ bytes_in 9 (x / 128))
    go true = omega arith
    go false = omega arith
