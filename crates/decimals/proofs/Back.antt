-- A field stands for a number exactly if it is the number in decimal.
use Prim.Native.Nat.{ℕ, zero, suc, ◌+◌, ◌-◌, ◌*◌, ◌/◌, ◌%◌, ◌^◌, ◌≤◌, ◌<◌}
use mathlib.Core.Path.{◌≡◌, refl, sym, ap, ◌∙◌}
use mathlib.Core.Bool.{Bool, true, false, ◌&&◌}
use mathlib.Core.List.{List, [], ◌∷◌, ◌++◌, append_assoc, append-nil}
use native.Mathlib.Nat.{pow-suc}
use native.Mathlib.Omega.{arith}
use borrow.Author.Tests.{ltb-false, eqb-false, lt-ltb, ne_eqb}
use lib.Dec.{ltb, eqb}
use lib.ListN.{length, get_or}
use Rattle.std.specs.Prelude.{Option, Some, None, if◌then◌else◌}
use Rattle.numbers.proofs.Clash.{clash}
use Rattle.decimals.specs.Decimal.{digits_in, decimal}
use Rattle.decimals.specs.Whole.{largest, digit_after, value_from, leading_zero, whole_of}
use Rattle.decimals.specs.Promises.{numeral, AllDigits, WholesReadBack, WholesWrittenBack}
use Rattle.decimals.proofs.Digits.{digits_one, digits_more, decimals_read_back}
use Rattle.decimals.proofs.Wholes.{digit_counts, digit_good, not_led, value_cons, value_nil, value_bad}

-- ---- a number in decimal is read
grows : (before : ℕ) (s : List ℕ) → before ≤ numeral before s
grows before [] = omega arith
grows before (b ∷ s) = omega (arith, grows (10 * before + (b - 48)) s)

value_reads : (before : ℕ) (s : List ℕ) → AllDigits s → numeral before s ≤ largest → value_from before s ≡ Some (numeral before s)
value_reads before [] a h = value_nil before
value_reads before (b ∷ s) a h =
    value_cons before b s (sym (digit_good before b (b - 48) a.0.0 a.0.1 refl (omega (arith, grows (10 * before + (b - 48)) s))))
    ∙ value_reads (10 * before + (b - 48)) s a.1 h

first_of : (a : List ℕ) (b : ℕ) → 48 < get_or a 0 0 → 48 < get_or (a ++ (b ∷ [])) 0 0
first_of [] b h = absurd (omega arith)
first_of (x ∷ a) b h = h

first_digit : (g x : ℕ) → 1 ≤ x → x < 10 ^ g → 48 < get_or (digits_in g x) 0 0
unfolding digits_in
first_digit zero x h l = absurd (omega arith)
first_digit (suc g) x h l = go (ltb x 10) refl (λ a b. first_digit g (x / 10) a b)
  where
    go : (t : Bool) → ltb x 10 ≡ t → (1 ≤ x / 10 → x / 10 < 10 ^ g → 48 < get_or (digits_in g (x / 10)) 0 0)
        → 48 < get_or (if t then (48 + x) ∷ [] else digits_in g (x / 10) ++ ((48 + x % 10) ∷ [])) 0 0
    go true e ih = omega arith
    go false e ih =
        first_of (digits_in g (x / 10)) (48 + x % 10) (ih (omega (arith, ltb-false x 10 e)) (omega (arith, pow-suc 10 g)))

-- a list that starts with a byte is not empty
starts : (s : List ℕ) → 48 < get_or s 0 0 → length s ≡ 0 → ⊥
starts [] h e = omega arith
starts (b ∷ s) h e = omega arith

large_read : (x : ℕ) → 1 ≤ x → x ≤ largest → whole_of (decimal x) ≡ Some x
large_read x h l =
    let first = first_digit 20 x h (omega arith) in
    let back = decimals_read_back x (omega arith) in
    let not_zero : eqb (get_or (decimal x) 0 0) 48 ≡ false = ne_eqb (get_or (decimal x) 0 0) 48 (λ q. omega arith) in
    sym (not_led (decimal x) (starts (decimal x) first) (rw not_zero))
    ∙ value_reads 0 (decimal x) back.0 (omega (arith, back.1))
    ∙ ap Some back.1

pub wholes_read_back : WholesReadBack
wholes_read_back zero h = ap whole_of (digits_one 0 (omega arith)) ∙ sym (not_led (48 ∷ []) (λ e. omega arith) refl) ∙ value_reads 0 (48 ∷ []) ((omega arith, omega arith), tt) (omega arith)
wholes_read_back (suc x) h = large_read (suc x) (omega arith) h

-- ---- what is read is a number in decimal
record Valued (before : ℕ) (s : List ℕ) (x : ℕ) : Type 0 where
  digits : AllDigits s
  stands : numeral before s ≡ x
  small : x ≤ largest

valued : (before : ℕ) (s : List ℕ) (x : ℕ) → before ≤ largest → value_from before s ≡ Some x → Valued before s x
valued before [] x l e = let q : before ≡ x = cc (value_nil before) in record { digits = tt; stands = q; small = omega arith }
valued before (b ∷ s) x l e = go (digit_after before b) refl (λ v. valued v s x)
  where
    go : (w : Option ℕ) → digit_after before b ≡ w → ((v : ℕ) → v ≤ largest → value_from v s ≡ Some x → Valued v s x) → Valued before (b ∷ s) x
    go (Some v) q ih =
        let c = digit_counts before b v q in
        let rest = ih v c.small (sym (value_cons before b s q) ∙ e) in
        record {
          digits = ((c.low, c.high), rest.digits);
          stands = ap (λ (n : ℕ). numeral n s) (sym c.made) ∙ rest.stands;
          small = rest.small;
        }
    go None q ih = let z : ◌≡◌ {A = ℕ} 0 1 = cc (value_bad before b s q) in absurd (omega arith)

-- digits after a number that is not 0 are written after its own
longer : (v : ℕ) (s : List ℕ) → 1 ≤ v → AllDigits s → numeral v s ≤ largest → decimal (numeral v s) ≡ decimal v ++ s
longer v [] h a l = sym (append-nil (decimal v))
longer v (b ∷ s) h a l =
    let x = 10 * v + (b - 48) in
    let up = grows x s in
    let tenth : x / 10 ≡ v = omega (arith, a.0.0, a.0.1) in
    let last : 48 + x % 10 ≡ b = omega (arith, a.0.0, a.0.1) in
    let digits : decimal (x / 10) ++ ((48 + x % 10) ∷ []) ≡ decimal v ++ (b ∷ []) = rw (tenth, last) in
    longer x s (omega arith) a.1 l
    ∙ ap (λ (d : List ℕ). d ++ s) (digits_more x (omega arith) (omega arith) ∙ digits)
    ∙ append_assoc (decimal v) (b ∷ []) s

one : (b : ℕ) → 48 ≤ b → b ≤ 57 → decimal (b - 48) ≡ b ∷ []
one b low high = let same : 48 + (b - 48) ≡ b = omega arith in digits_one (b - 48) (omega arith) ∙ rw same

zero_times : (n : ℕ) → 10 * 0 + n ≡ n
zero_times n = omega arith

decimal_of : (s : List ℕ) → (length s ≡ 0 → ⊥) → leading_zero s ≡ false → AllDigits s → numeral 0 s ≤ largest → s ≡ decimal (numeral 0 s)
decimal_of [] some led a l = absurd (some refl)
decimal_of (b ∷ []) some led a l = sym (ap decimal (zero_times (b - 48)) ∙ one b a.0.0 a.0.1)
decimal_of (b ∷ c ∷ s) some led a l = go (eqb b 48) refl
  where
    go : (t : Bool) → eqb b 48 ≡ t → b ∷ c ∷ s ≡ decimal (numeral 0 (b ∷ c ∷ s))
    go true q =
        let long : ltb 1 (length (b ∷ c ∷ s)) ≡ true = lt-ltb 1 (length (b ∷ c ∷ s)) (omega arith) in
        let t : (eqb b 48 && ltb 1 (length (b ∷ c ∷ s))) ≡ true = rw (q, long) in
        let z : ◌≡◌ {A = Bool} true false = sym t ∙ led in
        clash (cc)
    go false q =
        let some : 1 ≤ b - 48 = omega (arith, a.0.0, eqb-false b 48 q) in
        sym (
        ap (λ (n : ℕ). decimal (numeral n (c ∷ s))) (zero_times (b - 48))
        ∙ longer (b - 48) (c ∷ s) some a.1 (rw zero_times at l)
        ∙ ap (λ (d : List ℕ). d ++ (c ∷ s)) (one b a.0.0 a.0.1)
        )

pub wholes_written_back : WholesWrittenBack
wholes_written_back s x e = go (eqb (length s) 0) refl (leading_zero s) refl
  where
    absurdly : (w : Option ℕ) → None ≡ w → w ≡ Some x → (s ≡ decimal x) × (x ≤ largest)
    absurdly w p q = clash (cc)

    go : (t : Bool) → eqb (length s) 0 ≡ t → (u : Bool) → leading_zero s ≡ u → (s ≡ decimal x) × (x ≤ largest)
    go true p u q = absurdly (whole_of s) (rw p) e
    go false p true q = absurdly (whole_of s) (rw (p, q)) e
    go false p false q =
        let some = eqb-false (length s) 0 p in
        let read = valued 0 s x (omega arith) (not_led s some q ∙ e) in
        (decimal_of s some q read.digits (omega (arith, read.stands, read.small)) ∙ ap decimal read.stands, read.small)
