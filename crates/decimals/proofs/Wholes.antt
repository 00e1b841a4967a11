-- A field read digit by digit: what each byte does, and what the loop keeps.
use Prim.Native.Nat.{ℕ, suc, ◌+◌, ◌-◌, ◌*◌, ◌≤◌, ◌<◌}
use mathlib.Core.Path.{◌≡◌, refl, sym, ap, ◌∙◌}
use mathlib.Core.Bool.{Bool, true, false, ◌&&◌}
use mathlib.Core.List.{List, [], ◌∷◌}
use native.Mathlib.Numerals.{add-one}
use native.Mathlib.Omega.{arith}
use borrow.Author.Tests.{leb-true, le-leb, ne_eqb}
use lib.Dec.{leb}
use lib.ListN.{length, get_or, drop, drop_of_length-le}
use lib.Seq.{drop-cons}
use Rattle.std.specs.Prelude.{Option, Some, None, if◌then◌else◌}
use Rattle.numbers.proofs.Clash.{clash}
use Rattle.numbers.proofs.Both.{both}
use Rattle.decimals.specs.Whole.{largest, is_digit, digit_after, on_digit, value_from, leading_zero, whole_of}

-- ---- one byte
module _ (before b d : ℕ) (low : 48 ≤ b) (high : b ≤ 57) (e : d ≡ b - 48) where
  pub digit_good : 10 * before + d ≤ largest → Some (10 * before + d) ≡ digit_after before b
  digit_good h = rw (e, le-leb 48 b low, le-leb b 57 high, le-leb (10 * before + (b - 48)) largest (omega arith))

-- a byte that counts is a digit, and what it makes is not too large
pub record Counts (before b value : ℕ) : Type 0 where
  pub low : 48 ≤ b
  pub high : b ≤ 57
  pub made : value ≡ 10 * before + (b - 48)
  pub small : value ≤ largest

pub digit_counts : (before b value : ℕ) → digit_after before b ≡ Some value → Counts before b value
digit_counts before b value e = go (is_digit b && leb (10 * before + (b - 48)) largest) refl e
  where
    go : (t : Bool) → is_digit b && leb (10 * before + (b - 48)) largest ≡ t → (if t then Some (10 * before + (b - 48)) else None) ≡ Some value → Counts before b value
    go true q e =
        let made : 10 * before + (b - 48) ≡ value = cc in
        let tests = both (is_digit b) (leb (10 * before + (b - 48)) largest) q in
        let digit = both (leb 48 b) (leb b 57) tests.0 in
        record {
          low = leb-true 48 b digit.0;
          high = leb-true b 57 digit.1;
          made = sym made;
          small = omega (arith, leb-true (10 * before + (b - 48)) largest tests.1);
        }
    go false q e = clash (cc)

-- ---- the tests before the digits
pub not_led : (s : List ℕ) → (length s ≡ 0 → ⊥) → leading_zero s ≡ false → value_from 0 s ≡ whole_of s
not_led s h e = rw (ne_eqb (length s) 0 h, e)

-- ---- the loop: the bytes from i on, after digits that come to `value`, are worth what the field is
pub record Reading (s : List ℕ) (i value : ℕ) : Type 0 where
  pub within : i ≤ length s
  pub small : value ≤ largest
  pub same : value_from value (drop i s) ≡ whole_of s

value_step : (value b : ℕ) (s : List ℕ) → value_from value (b ∷ s) ≡ on_digit (digit_after value b) (λ v. value_from v s)
unfolding value_from
value_step value b s = refl

value_done : (value : ℕ) → value_from value [] ≡ Some value
unfolding value_from
value_done value = refl

module _ {s : List ℕ} {i value : ℕ} (R : Reading s i value) where
  here : i < length s → on_digit (digit_after value (get_or s i 0)) (λ v. value_from v (drop (suc i) s)) ≡ whole_of s
  here h = sym (value_step value (get_or s i 0) (drop (suc i) s)) ∙ ap (value_from value) (sym (drop-cons s i 0 h)) ∙ R.same

  pub reading_go : i < length s → {next : ℕ} → digit_after value (get_or s i 0) ≡ Some next → Reading s (i + 1) next
  reading_go h {next} e =
      record {
        within = omega arith;
        small = (digit_counts value (get_or s i 0) next e).small;
        same = rw add-one (ap (λ (w : Option ℕ). on_digit w (λ v. value_from v (drop (suc i) s))) (sym e) ∙ here h);
      }

  pub reading_bad : i < length s → digit_after value (get_or s i 0) ≡ None → None ≡ whole_of s
  reading_bad h e = ap (λ (w : Option ℕ). on_digit w (λ v. value_from v (drop (suc i) s))) (sym e) ∙ here h

  pub reading_end : length s ≤ i → Some value ≡ whole_of s
  reading_end h = sym (value_done value) ∙ ap (value_from value) (sym (drop_of_length-le s {i = i} h)) ∙ R.same

-- ---- the digits, as numbers of their own
pub value_cons : (value b : ℕ) (s : List ℕ) {v : ℕ} → digit_after value b ≡ Some v → value_from value (b ∷ s) ≡ value_from v s
value_cons value b s e = value_step value b s ∙ ap (λ (w : Option ℕ). on_digit w (λ v. value_from v s)) e

pub value_nil : (value : ℕ) → value_from value [] ≡ Some value
value_nil value = value_done value

pub value_bad : (value b : ℕ) (s : List ℕ) → digit_after value b ≡ None → value_from value (b ∷ s) ≡ None
value_bad value b s e = value_step value b s ∙ ap (λ (w : Option ℕ). on_digit w (λ v. value_from v s)) e
