-- How long a line can be: two numbers take 42 bytes at most, an accepted table 1,017.
use Prim.Native.Nat.{ℕ, suc, ◌+◌, ◌*◌, ◌≤◌, ◌<◌}
use mathlib.Core.Path.{◌≡◌, refl, ap, ◌∙◌}
use mathlib.Core.List.{List, [], ◌∷◌, ◌++◌, map}
use native.Mathlib.Omega.{arith}
use lib.IntN.{ℤ, nat_abs}
use lib.ListN.{length, get_or, length-append}
use lib.Seq.{length-take-le, get_or-take}
use Rattle.jobs.specs.Words.{word_at}
use Rattle.checked.specs.Checked.{taken_from}
use Rattle.checked.specs.Given.{Rates}
use Rattle.checked.proofs.Values.{length_map, map_at}
use Rattle.decimals.specs.Decimal.{decimal}
use Rattle.line.specs.Line.{field, later, printed}
use Rattle.line.specs.Puts.{head_fields}
use Rattle.decimals.proofs.Digits.{decimals_shortest, digits_most}

printed_length : (first : ℕ) (rest : List ℕ) → length (printed first rest) ≡ length (decimal first) + (length (later rest) + 1)
printed_length first rest = length-append (decimal first) (later rest ++ (10 ∷ [])) ∙ ap (λ (k : ℕ). length (decimal first) + k) (length-append (later rest) (10 ∷ []))

later_length : (x : ℕ) (xs : List ℕ) → length (later (x ∷ xs)) ≡ suc (length (decimal x)) + length (later xs)
unfolding later
later_length x xs = length-append (field x) (later xs)

later_none : length (later []) ≡ 0
unfolding later
later_none = refl

pub two_fit : (a b : ℕ) → length (printed a (b ∷ [])) ≤ 1024
two_fit a b = omega (arith, printed_length a (b ∷ []), later_length b [], later_none, digits_most a, digits_most b)

-- the fields of a table's line before its values
pub head_length : (society job loss gap : ℕ)
    → length (head_fields society job loss gap)
    ≡ length (decimal 0) + (length (field society) + (length (field job) + (length (field loss) + length (field gap))))
head_length society job loss gap = simp length-append

-- ---- the values of a table
-- at most 120, each at most 1,000,000
pub record Small (values : List ℕ) : Type 0 where
  pub few : length values ≤ 120
  pub small : (i : ℕ) → i < length values → get_or values i 0 ≤ 1000000

values_fit : (values : List ℕ) → ((i : ℕ) → i < length values → get_or values i 0 ≤ 1000000) → length (later values) ≤ 8 * length values
values_fit [] h = omega (arith, later_none)
values_fit (x ∷ xs) h =
    let first : x ≤ 1000000 = h 0 (omega arith) in
    omega (arith, later_length x xs, decimals_shortest 6 x (omega arith), values_fit xs (λ i l. h (suc i) (omega arith)))

pub table_fits : (society job loss gap : ℕ) (values : List ℕ) → society ≤ 7 → job ≤ 4294967295 → Small values
    → length (printed 0 (society ∷ job ∷ loss ∷ gap ∷ values)) ≤ 1024
table_fits society job loss gap values s j S =
    omega (
      arith,
      printed_length 0 (society ∷ job ∷ loss ∷ gap ∷ values),
      later_length society (job ∷ loss ∷ gap ∷ values),
      later_length job (loss ∷ gap ∷ values),
      later_length loss (gap ∷ values),
      later_length gap values,
      decimals_shortest 0 0 (omega arith),
      decimals_shortest 0 society (omega arith),
      decimals_shortest 9 job (omega arith),
      digits_most loss,
      digits_most gap,
      values_fit values S.small,
      S.few,
    )

pub values_length : (n : ℕ) (rates : List ℤ) → n ≤ length rates → length (taken_from 0 n rates) ≡ n
values_length n rates h = length-take-le n (map nat_abs rates) (omega (arith, length_map nat_abs rates))

pub value_at : (n : ℕ) (rates : List ℤ) (i : ℕ) → i < n → get_or (taken_from 0 n rates) i 0 ≡ nat_abs (word_at rates i)
value_at n rates i h = get_or-take n (map nat_abs rates) i 0 h ∙ map_at rates i

pub rates_small : (n : ℕ) (rates : List ℤ) → Rates n rates → Small (taken_from 0 n rates)
rates_small n rates R =
    let long = values_length n rates R.inside in
    record { few = omega (arith, long, R.few); small = λ i h. let l : i < n = omega arith in omega (arith, value_at n rates i l, R.small i l) }
