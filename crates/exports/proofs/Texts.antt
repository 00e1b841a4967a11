-- The lines of an export, put one after another, and how many bytes they have.
use Prim.Native.Nat.{ℕ, suc, ◌+◌, ◌-◌, ◌*◌, ◌≤◌, ◌<◌}
use mathlib.Core.Path.{◌≡◌, refl, sym, ap, ap₂, ◌∙◌}
use mathlib.Core.Bool.{Bool, true, false, ◌&&◌}
use mathlib.Core.List.{List, [], ◌∷◌, ◌++◌, append_assoc, append-nil}
use native.Mathlib.Nat.{zero-add, add-zero}
use native.Mathlib.Numerals.{add-one}
use native.Mathlib.Omega.{arith}
use borrow.Author.Tests.{lt-ltb, le-ltb, leb-true}
use lib.Dec.{leb}
use lib.ListN.{length, get_or, take, drop, length-append, take-append-drop}
use lib.Seq.{take-suc, drop-cons, length-take-le}
use Rattle.std.specs.List.{list_all}
use Rattle.std.specs.Prelude.{if◌then◌else◌}
use Rattle.std.specs.Prelude.{Ok, Err}
use Rattle.refusals.specs.declared.Refusal.TheVariants.{NotAllowed, NoRoom}
use Rattle.packs.specs.Writing.{Written, refused, in_room, Leaves}
use Rattle.decimals.specs.Decimal.{decimal}
use Rattle.decimals.specs.Puts.{Puts, Room}
use Rattle.decimals.specs.Whole.{largest}
use Rattle.decimals.proofs.Digits.{digits_most}
use Rattle.decimals.proofs.Stores.{puts_then, puts_same, puts_length, room_first, room_then, room_same}
use Rattle.numbers.proofs.Both.{both}
use Rattle.lists.specs.Cut.{line_end}
use Rattle.lists.specs.Lines.{rates_header, most_lines}
use Rattle.exports.specs.Exports.{export_line, export_lines, export_text, all_upto, exportable, export_of}

-- a byte that is still to be put lies within what is lent
pub bytes_room : (part : List ℕ) {out₀ out : List ℕ} {at next i : ℕ} → Puts (take i part) out₀ at next out → Room part at out₀ → i < length part → next < length out
bytes_room part {i = i} P room h = omega (arith, room.fits, P.next, puts_length P, length-take-le i part (omega arith))

-- ---- how long
pub line_length : (age rate : ℕ) {a b : ℕ} → a ≡ length (decimal age) → b ≡ length (decimal rate) → a ≤ 20 → b ≤ 20
    → (a + b + 3 ≡ length (export_line age rate)) × (a + b + 3 ≤ 43)
line_length age rate p q s t =
    (omega (arith, p, q, length-append (decimal age) ((44 ∷ []) ++ (decimal rate ++ line_end)), length-append (decimal rate) line_end), omega arith)

pub lines_cons : (first rate : ℕ) (rates : List ℕ) → export_lines first (rate ∷ rates) ≡ export_line first rate ++ export_lines (first + 1) rates
unfolding export_lines
lines_cons first rate rates = refl

pub lines_nil : (first : ℕ) → export_lines first [] ≡ []
unfolding export_lines
lines_nil first = refl

lines_append : (first : ℕ) (xs ys : List ℕ) → export_lines first (xs ++ ys) ≡ export_lines first xs ++ export_lines (first + length xs) ys
lines_append first [] ys = sym (ap (λ (l : List ℕ). l ++ export_lines (first + 0) ys) (lines_nil first) ∙ ap (λ (n : ℕ). export_lines n ys) (add-zero first))
lines_append first (x ∷ xs) ys =
    let n : first + 1 + length xs ≡ first + length (x ∷ xs) = omega arith in
    lines_cons first x (xs ++ ys)
    ∙ ap (λ (l : List ℕ). export_line first x ++ l) (lines_append (first + 1) xs ys ∙ ap (λ (k : ℕ). export_lines (first + 1) xs ++ export_lines k ys) n)
    ∙ sym (append_assoc (export_line first x) (export_lines (first + 1) xs) (export_lines (first + length (x ∷ xs)) ys))
    ∙ ap (λ (l : List ℕ). l ++ export_lines (first + length (x ∷ xs)) ys) (sym (lines_cons first x xs))

module _ (first : ℕ) (rates : List ℕ) (i : ℕ) (h : i < length rates) {age : ℕ} (aged : age ≡ first + i) where
  passed : first + length (take i rates) ≡ age
  passed = omega (arith, aged, length-take-le i rates (omega arith))

  -- one line more
  pub one_more : export_lines first (take i rates) ++ export_line age (get_or rates i 0) ≡ export_lines first (take (i + 1) rates)
  one_more =
      ap (λ (l : List ℕ). export_lines first (take i rates) ++ l)
      (sym (lines_cons age (get_or rates i 0) [] ∙ ap (λ (l : List ℕ). export_line age (get_or rates i 0) ++ l) (lines_nil (age + 1)) ∙ append-nil (export_line age (get_or rates i 0))))
      ∙ ap (λ (n : ℕ). export_lines first (take i rates) ++ export_lines n (get_or rates i 0 ∷ [])) (sym passed)
      ∙ sym (lines_append first (take i rates) (get_or rates i 0 ∷ []))
      ∙ ap (export_lines first) (sym (take-suc rates i 0 h) ∙ ap (λ (n : ℕ). take n rates) (sym (add-one i)))

  -- what is put, the next line, and the rest
  split : export_lines first rates ≡ export_lines first (take i rates) ++ (export_line age (get_or rates i 0) ++ export_lines (age + 1) (drop (suc i) rates))
  split =
      ap (export_lines first) (sym (take-append-drop i rates))
      ∙ lines_append first (take i rates) (drop i rates)
      ∙ ap₂ (λ (n : ℕ) (l : List ℕ). export_lines first (take i rates) ++ export_lines n l) passed (drop-cons rates i 0 h)
      ∙ ap (λ (l : List ℕ). export_lines first (take i rates) ++ l) (lines_cons age (get_or rates i 0) (drop (suc i) rates))

  module _ {out₀ out : List ℕ} {at next : ℕ} (P : Puts (export_lines first (take i rates)) out₀ at next out) where
    pub line_room : Room (export_lines first rates) at out₀ → Room (export_line age (get_or rates i 0)) next out
    line_room room = room_first (export_line age (get_or rates i 0)) (export_lines (age + 1) (drop (suc i) rates)) (room_then P (room_same split room))

    pub line_more : {last : List ℕ} {s : ℕ} → Puts (export_line age (get_or rates i 0)) out next s last → Puts (export_lines first (take (i + 1) rates)) out₀ at s last
    line_more q = puts_same one_more (puts_then P q)

pub lines_none_put : (first : ℕ) (rates out : List ℕ) (at : ℕ) → Puts (export_lines first (take 0 rates)) out at at out
lines_none_put first rates out at = puts_same (sym (lines_nil first)) (record { next = sym (add-zero at); stored = refl })

-- ---- the count of bytes
pub record Sizing (first : ℕ) (rates : List ℕ) (total age i : ℕ) : Type 0 where
  pub within : i ≤ length rates
  pub aged : age ≡ first + i
  pub counted : total ≡ length (export_lines first (take i rates))
  pub small : total ≤ 43 * i

pub sizing_start : (first : ℕ) (rates : List ℕ) → Sizing first rates 0 first 0
sizing_start first rates = record { within = omega arith; aged = sym (add-zero first); counted = sym (ap length (lines_nil first)); small = omega arith }

pub sizing_go : {first : ℕ} {rates : List ℕ} {total age i : ℕ} → Sizing first rates total age i → i < length rates → {size : ℕ}
    → (size ≡ length (export_line age (get_or rates i 0))) × (size ≤ 43) → Sizing first rates (total + size) (age + 1) (i + 1)
sizing_go {first} {rates} {total} {age} {i} S h {size} e =
    record {
      within = omega arith;
      aged = omega (arith, S.aged);
      counted =
          omega (
            arith,
            S.counted,
            e.0,
            ap length (one_more first rates i h S.aged),
            length-append (export_lines first (take i rates)) (export_line age (get_or rates i 0)),
          );
      small = omega (arith, S.small, e.1);
    }

-- ---- rates up to a most
pub upto_cons : (most x : ℕ) (xs : List ℕ) → all_upto most (x ∷ xs) ≡ leb x most && all_upto most xs
unfolding all_upto
upto_cons most x xs = refl

-- the library's test of all, at this test
pub upto_all : (most : ℕ) (xs : List ℕ) → list_all (λ x. leb x most) xs ≡ all_upto most xs
unfolding all_upto
upto_all most [] = refl
upto_all most (x ∷ xs) = ap (λ (t : Bool). leb x most && t) (upto_all most xs)

-- ---- what may go out
-- what may go out is small
pub record Out (first : ℕ) (rates : List ℕ) : Type 0 where
  pub some : 1 ≤ length rates
  pub few : length rates ≤ most_lines
  pub old : first + (length rates - 1) ≤ largest
  pub small : all_upto largest rates ≡ true

-- ---- the whole text
pub text_length : (first : ℕ) (rates : List ℕ) {n : ℕ} → n ≡ length (export_lines first rates) → 10 + n ≡ length (export_text first rates)
text_length first rates e = omega (arith, e, length-append (rates_header ++ line_end) (export_lines first rates))

pub no_room : (first : ℕ) (rates out : List ℕ) {n : ℕ} → n ≡ length (export_text first rates) → length out < n
    → Leaves (in_room (length out) (export_text first rates) (Ok (length (export_text first rates)))) out (Err (NoRoom n)) out
no_room first rates out e h = rw (← e, lt-ltb _ _ h) (refl, refl)

pub room_for : (first : ℕ) (rates out : List ℕ) {n : ℕ} → n ≡ length (export_text first rates) → n ≤ length out → {after : List ℕ} {end : ℕ}
    → Puts (export_text first rates) out 0 end after
    → Leaves (in_room (length out) (export_text first rates) (Ok (length (export_text first rates)))) out (Ok end) after
room_for first rates out {n} e h {after} {end} P =
    let count : end ≡ length (export_text first rates) = P.next ∙ zero-add (length (export_text first rates)) in
    let fits : length (export_text first rates) ≤ length out = omega (arith, e) in
    rw (le-ltb (length out) (length (export_text first rates)) fits) (ap Ok count, P.stored)

-- room for the header, and for the lines after it
whole_room : (first : ℕ) (rates out : List ℕ) {n : ℕ} → n ≡ length (export_text first rates) → n ≤ length out → Room (export_text first rates) 0 out
whole_room first rates out e h = record { fits = omega (arith, e) }

pub header_room : (first : ℕ) (rates out : List ℕ) {n : ℕ} → n ≡ length (export_text first rates) → n ≤ length out → Room (rates_header ++ line_end) 0 out
header_room first rates out e h = room_first (rates_header ++ line_end) (export_lines first rates) (whole_room first rates out e h)

pub lines_room : (first : ℕ) (rates out : List ℕ) {n : ℕ} → n ≡ length (export_text first rates) → n ≤ length out → {after : List ℕ} {r : ℕ}
    → Puts (rates_header ++ line_end) out 0 r after → Room (export_lines first rates) r after
lines_room first rates out e h P = room_then P (whole_room first rates out e h)

-- each test of the definition, from the whole
pub out_of : (first : ℕ) (rates : List ℕ) → exportable first rates ≡ true → Out first rates
out_of first rates e =
    let a = both (leb 1 (length rates)) (leb (length rates) most_lines && (leb (first + (length rates - 1)) largest && all_upto largest rates)) e in
    let b = both (leb (length rates) most_lines) (leb (first + (length rates - 1)) largest && all_upto largest rates) a.1 in
    let c = both (leb (first + (length rates - 1)) largest) (all_upto largest rates) b.1 in
    record {
      some = leb-true 1 (length rates) a.0;
      few = leb-true (length rates) most_lines b.0;
      old = leb-true (first + (length rates - 1)) largest c.0;
      small = c.1;
    }

-- ---- an export's length
lines_short : (first : ℕ) (rates : List ℕ) → length (export_lines first rates) ≤ 43 * length rates
lines_short first [] = omega (arith, ap length (lines_nil first))
lines_short first (rate ∷ rates) =
    let line = line_length first rate refl refl (digits_most first) (digits_most rate) in
    omega (
      arith,
      ap length (lines_cons first rate rates),
      length-append (export_line first rate) (export_lines (first + 1) rates),
      line.0,
      line.1,
      lines_short (first + 1) rates,
    )

pub text_short : (first : ℕ) (rates : List ℕ) → length rates ≤ 120 → length (export_text first rates) ≤ 5170
text_short first rates h = omega (arith, text_length first rates refl, lines_short first rates)

-- the two ways in which an export ends: 2, or a text of that length
pub export_cases : (P : Written → Type 0) (room first : ℕ) (rates : List ℕ) → P (refused (NotAllowed 0))
    → (length (export_text first rates) ≤ 5170 → P (in_room room (export_text first rates) (Ok (length (export_text first rates))))) → P (export_of room first rates)
export_cases P room first rates two made = go (exportable first rates) refl
  where
    go : (t : Bool) → exportable first rates ≡ t → P (if t then in_room room (export_text first rates) (Ok (length (export_text first rates))) else refused (NotAllowed 0))
    go true e = made (text_short first rates (out_of first rates e).few)
    go false e = two
