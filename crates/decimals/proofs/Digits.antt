-- The digits of a number: one below 10, else those of a tenth and one more; at most 20, and no more than its size asks for.
use Prim.Native.Nat.{ℕ, zero, suc, ◌+◌, ◌-◌, ◌*◌, ◌/◌, ◌%◌, ◌^◌, ◌≤◌, ◌<◌}
use mathlib.Core.Path.{◌≡◌, refl, sym, ap, ◌∙◌}
use mathlib.Core.Bool.{Bool, true, false}
use mathlib.Core.List.{List, [], ◌∷◌, ◌++◌}
use native.Mathlib.Nat.{pow-suc}
use native.Mathlib.Omega.{arith}
use borrow.Author.Tests.{lt-ltb, le-ltb, ltb-true, ltb-false}
use lib.Dec.{ltb}
use lib.ListN.{length, length-append}
use Rattle.std.specs.Prelude.{if◌then◌else◌}
use Rattle.decimals.specs.Decimal.{digits_in, decimal}
use Rattle.decimals.specs.Promises.{numeral, AllDigits, DecimalsReadBack, DecimalsShortest}

-- more room than is needed changes nothing
digits_fuel : (g x : ℕ) → x < 10 ^ suc g → digits_in (suc g) x ≡ digits_in (suc (suc g)) x
unfolding digits_in
digits_fuel zero x h = rw (lt-ltb x 10 h)
digits_fuel (suc g) x h =
    ap (λ (r : List ℕ). if ltb x 10 then (48 + x) ∷ [] else r ++ ((48 + x % 10) ∷ [])) (digits_fuel g (x / 10) (omega (arith, pow-suc 10 (suc g))))

pub digits_one : (x : ℕ) → x < 10 → decimal x ≡ (48 + x) ∷ []
unfolding digits_in
digits_one x h = rw (lt-ltb x 10 h)

pub digits_more : (x : ℕ) → 10 ≤ x → x < 2 ^ 64 → decimal x ≡ decimal (x / 10) ++ ((48 + x % 10) ∷ [])
unfolding digits_in
digits_more x h k = rw (le-ltb x 10 h) (ap (λ (r : List ℕ). r ++ ((48 + x % 10) ∷ [])) (digits_fuel 18 (x / 10) (omega arith)))

-- ---- how many digits
digits_step : (g k x : ℕ) (t : Bool) → ltb x 10 ≡ t → ((k' : ℕ) → x / 10 < 10 ^ suc k' → length (digits_in g (x / 10)) ≤ suc k') → x < 10 ^ suc k
    → length (if t then (48 + x) ∷ [] else digits_in g (x / 10) ++ ((48 + x % 10) ∷ [])) ≤ suc k
digits_step g k x true e ih h = omega arith
digits_step g zero x false e ih h = absurd (omega (arith, ltb-false x 10 e, h))
digits_step g (suc k) x false e ih h = rw length-append (omega (arith, ih k (omega (arith, pow-suc 10 (suc k)))))

digits_in_lem : (g k x : ℕ) → x < 10 ^ suc k → length (digits_in g x) ≤ suc k
unfolding digits_in
digits_in_lem zero k x h = omega arith
digits_in_lem (suc g) k x h = digits_step g k x (ltb x 10) refl (λ k'. digits_in_lem g k' (x / 10)) h

-- a number below 10^k has at most k digits
pub decimals_shortest : DecimalsShortest
decimals_shortest k x h = digits_in_lem 20 k x h

digits_all : (g x : ℕ) → length (digits_in g x) ≤ g
unfolding digits_in
digits_all zero x = omega arith
digits_all (suc g) x = go (ltb x 10) (digits_all g (x / 10))
  where
    go : (t : Bool) → length (digits_in g (x / 10)) ≤ g → length (if t then (48 + x) ∷ [] else digits_in g (x / 10) ++ ((48 + x % 10) ∷ [])) ≤ suc g
    go true h = omega arith
    go false h = rw length-append (omega arith)

pub digits_most : (x : ℕ) → length (decimal x) ≤ 20
digits_most x = digits_all 20 x

-- ---- what the digits stand for
numeral_last : (before : ℕ) (digits : List ℕ) (last : ℕ) → numeral before (digits ++ (last ∷ [])) ≡ 10 * numeral before digits + (last - 48)
numeral_last before [] last = refl
numeral_last before (digit ∷ digits) last = numeral_last (10 * before + (digit - 48)) digits last

stands_for : (g x : ℕ) (t : Bool) → numeral 0 (digits_in g (x / 10)) ≡ x / 10 → numeral 0 (if t then (48 + x) ∷ [] else digits_in g (x / 10) ++ ((48 + x % 10) ∷ [])) ≡ x
stands_for g x true e = omega arith
stands_for g x false e = numeral_last 0 (digits_in g (x / 10)) (48 + x % 10) ∙ omega arith

read_back : (g x : ℕ) → x < 10 ^ g → numeral 0 (digits_in g x) ≡ x
unfolding digits_in
read_back zero x h = omega arith
read_back (suc g) x h = stands_for g x (ltb x 10) (read_back g (x / 10) (omega (arith, pow-suc 10 g)))

-- ---- that they are digits
digits_last : (digits : List ℕ) (last : ℕ) → AllDigits digits → (48 ≤ last) × (last ≤ 57) → AllDigits (digits ++ (last ∷ []))
digits_last [] last a h = (h, tt)
digits_last (digit ∷ digits) last a h = (a.0, digits_last digits last a.1 h)

are_digits : (g x : ℕ) → AllDigits (digits_in g x)
unfolding digits_in
are_digits zero x = tt
are_digits (suc g) x = go (ltb x 10) refl (are_digits g (x / 10))
  where
    go : (t : Bool) → ltb x 10 ≡ t → AllDigits (digits_in g (x / 10)) → AllDigits (if t then (48 + x) ∷ [] else digits_in g (x / 10) ++ ((48 + x % 10) ∷ []))
    go true e a = ((omega arith, omega (arith, ltb-true x 10 e)), tt)
    go false e a = digits_last (digits_in g (x / 10)) (48 + x % 10) a (omega arith, omega arith)

pub decimals_read_back : DecimalsReadBack
decimals_read_back x h = (are_digits 20 x, read_back 20 x (omega arith))

-- ---- their count, as the function counts it
pub size_one : (x : ℕ) → x < 10 → (1 ≡ length (decimal x)) × (1 ≤ 20)
size_one x h = (sym (ap length (digits_one x h)), omega arith)

pub size_more : (x r : ℕ) → 10 ≤ x → x < 2 ^ 64 → r ≡ length (decimal (x / 10)) → (r + 1 ≡ length (decimal x)) × (r + 1 ≤ 20)
size_more x r h l e =
    let more : r + 1 ≡ length (decimal x) = omega (arith, e, ap length (digits_more x h l), length-append (decimal (x / 10)) ((48 + x % 10) ∷ [])) in
    (more, omega (arith, digits_most x))
