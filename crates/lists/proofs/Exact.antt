-- A line is well formed exactly if it is its numbers written out.
use Prim.Native.Nat.{ℕ, suc, ◌+◌, ◌≤◌, ◌<◌}
use mathlib.Core.Path.{◌≡◌, refl, sym, ap, ap₂, ◌∙◌}
use mathlib.Core.Bool.{Bool, true, false}
use mathlib.Core.List.{List, [], ◌∷◌, ◌++◌}
use native.Mathlib.Nat.{add-zero}
use native.Mathlib.Numerals.{add-one}
use native.Mathlib.Omega.{arith}
use borrow.Author.Tests.{ne_eqb, eqb-true, ltb-true, ltb-false}
use lib.Dec.{ltb}
use lib.ListN.{length, get_or, take, drop, drop_of_length-le}
use lib.Seq.{take_at, split_at, get_or-drop}
use Rattle.numbers.proofs.Clash.{clash}
use Rattle.std.specs.Prelude.{Option, Some, None}
use Rattle.decimals.specs.Decimal.{decimal}
use Rattle.decimals.specs.Whole.{largest, whole_of}
use Rattle.decimals.specs.Promises.{AllDigits}
use Rattle.decimals.proofs.Digits.{decimals_read_back}
use Rattle.decimals.proofs.Back.{wholes_read_back, wholes_written_back}
use Rattle.lists.specs.declared.lines.Entry.{Entry}
use Rattle.lists.specs.Cut.{length_to, is_comma, field_in, fields_after}
use Rattle.lists.specs.Lines.{entry_of, two_of, pair_of, three_of, fields_of}
use Rattle.lists.specs.Promises.{line_text, InRange, LinesExactly}
use Rattle.lists.proofs.Tests.{some_same}
use Rattle.lists.proofs.Cuts.{here_cons, on_cons, at_place}

-- ---- digits and a comma after them
comma_after : (s rest : List ℕ) → AllDigits s → length_to is_comma (s ++ (44 ∷ rest)) ≡ length s
comma_after [] rest a = here_cons is_comma 44 rest refl
comma_after (b ∷ s) rest a =
    on_cons is_comma b (s ++ (44 ∷ rest)) (ne_eqb b 44 (λ e. omega (arith, a.0.0))) ∙ ap suc (comma_after s rest a.1)

module _ (x : ℕ) (small : x ≤ largest) (rest : List ℕ) where
  stop : length_to is_comma (decimal x ++ (44 ∷ rest)) ≡ length (decimal x)
  stop = comma_after (decimal x) rest (decimals_read_back x (omega arith)).0

  pub first_field : field_in (decimal x ++ (44 ∷ rest)) ≡ decimal x
  first_field = ap (λ (n : ℕ). take n (decimal x ++ (44 ∷ rest))) stop ∙ take_at (decimal x) (44 ∷ rest) (length (decimal x)) refl

  pub later_fields : fields_after (decimal x ++ (44 ∷ rest)) ≡ rest
  later_fields =
      ap (λ (n : ℕ). drop (n + 1) (decimal x ++ (44 ∷ rest))) stop
      ∙ ap (λ (n : ℕ). drop n (decimal x ++ (44 ∷ rest))) (add-one (length (decimal x)))
      ∙ after (decimal x)
    where
      after : (s : List ℕ) → drop (suc (length s)) (s ++ (44 ∷ rest)) ≡ rest
      after [] = refl
      after (b ∷ s) = after s

pair_written : (age count : ℕ) → age ≤ largest → count ≤ largest → pair_of (decimal age ++ (44 ∷ decimal count)) ≡ Some (entry_of age 0 count)
pair_written age count a c =
    ap₂ two_of (ap whole_of (first_field age a (decimal count)) ∙ wholes_read_back age a) (ap whole_of (later_fields age a (decimal count)) ∙ wholes_read_back count c)

written : (claims : Bool) (age exposure count : ℕ) → InRange claims age exposure count → fields_of claims (line_text claims age exposure count) ≡ Some (entry_of age exposure count)
written true age exposure count r =
    let rest = decimal exposure ++ (44 ∷ decimal count) in
    ap₂ three_of (ap whole_of (first_field age r.age_fits rest) ∙ wholes_read_back age r.age_fits)
    (ap pair_of (later_fields age r.age_fits rest) ∙ pair_written exposure count r.exposure_fits r.count_fits)
written false age exposure count r =
    pair_written age count r.age_fits r.count_fits ∙ ap (λ (e : ℕ). Some (entry_of age e count)) (sym (r.none refl))

-- ---- what was cut at a comma
pub cut_at : (line : List ℕ) → length_to is_comma line < length line → line ≡ field_in line ++ (44 ∷ fields_after line)
cut_at line h =
    let n = length_to is_comma line in
    let comma : get_or line n 0 ≡ 44 =
    sym (get_or-drop n line 0 0 ∙ ap (λ (k : ℕ). get_or line k 0) (add-zero n)) ∙ eqb-true (get_or (drop n line) 0 0) 44 (at_place is_comma line h) in
    split_at line n 0 h
    ∙ ap₂ (λ (b : ℕ) (rest : List ℕ). take n line ++ (b ∷ rest)) comma (ap (λ (k : ℕ). drop k line) (sym (add-one n)))

-- where something comes after it, there was one
module _ (line : List ℕ) (some : (fields_after line ≡ []) → ⊥) where
  pub there : length_to is_comma line < length line
  there = go (ltb (length_to is_comma line) (length line)) refl
    where
      go : (t : Bool) → ltb (length_to is_comma line) (length line) ≡ t → length_to is_comma line < length line
      go true e = ltb-true (length_to is_comma line) (length line) e
      go false e =
          let l = ltb-false (length_to is_comma line) (length line) e in
          absurd (some (drop_of_length-le line {i = length_to is_comma line + 1} (omega arith)))

-- an empty field is no number, and an empty line no pair
not_empty : (s : List ℕ) (x : ℕ) → whole_of s ≡ Some x → s ≡ [] → ⊥
not_empty [] x e q = clash (cc)
not_empty (b ∷ s) x e q = clash (cc)

pub record Pair (line : List ℕ) (age exposure count : ℕ) : Type 0 where
  pub age_small : age ≤ largest
  pub count_small : count ≤ largest
  pub none : exposure ≡ 0
  pub text : line ≡ decimal age ++ (44 ∷ decimal count)

pair_only : (line : List ℕ) (age exposure count : ℕ) → pair_of line ≡ Some (entry_of age exposure count) → Pair line age exposure count
pair_only line age exposure count e = go (whole_of (field_in line)) refl (whole_of (fields_after line)) refl e
  where
    go : (a : Option ℕ) → whole_of (field_in line) ≡ a → (b : Option ℕ) → whole_of (fields_after line) ≡ b → two_of a b ≡ Some (entry_of age exposure count) → Pair line age exposure count
    go (Some x) p (Some y) q e =
        let same : entry_of x 0 y ≡ entry_of age exposure count = some_same e in
        let first : x ≡ age = ap (λ (w : Entry). w.age) same in
        let none : 0 ≡ exposure = ap (λ (w : Entry). w.exposure) same in
        let last : y ≡ count = ap (λ (w : Entry). w.count) same in
        let a = wholes_written_back (field_in line) x p in
        let b = wholes_written_back (fields_after line) y q in
        record {
          age_small = omega (arith, a.1);
          count_small = omega (arith, b.1);
          none = sym none;
          text =
              cut_at line (there line (not_empty (fields_after line) y q))
              ∙ ap₂ (λ (s t : List ℕ). s ++ (44 ∷ t)) (a.0 ∙ ap decimal first) (b.0 ∙ ap decimal last);
        }
    go (Some x) p None q e = clash (cc)
    go None p b q e = clash (cc)

no_pair : (line : List ℕ) (age exposure count : ℕ) → pair_of line ≡ Some (entry_of age exposure count) → line ≡ [] → ⊥
no_pair line age exposure count e q = starts (decimal age) (decimal count) (sym q ∙ (pair_only line age exposure count e).text)
  where
    starts : (s t : List ℕ) → [] ≡ s ++ (44 ∷ t) → ⊥
    starts [] t e = clash (cc)
    starts (b ∷ s) t e = clash (cc)

triple_only : (line : List ℕ) (age exposure count : ℕ) → three_of (whole_of (field_in line)) (pair_of (fields_after line)) ≡ Some (entry_of age exposure count)
    → InRange true age exposure count × (line ≡ line_text true age exposure count)
triple_only line age exposure count e = go (whole_of (field_in line)) refl (pair_of (fields_after line)) refl e
  where
    go : (a : Option ℕ) → whole_of (field_in line) ≡ a → (r : Option Entry) → pair_of (fields_after line) ≡ r → three_of a r ≡ Some (entry_of age exposure count)
        → InRange true age exposure count × (line ≡ line_text true age exposure count)
    go (Some x) p (Some later) q e =
        let same : entry_of x later.age later.count ≡ entry_of age exposure count = some_same e in
        let first : x ≡ age = ap (λ (w : Entry). w.age) same in
        let second : later.age ≡ exposure = ap (λ (w : Entry). w.exposure) same in
        let last : later.count ≡ count = ap (λ (w : Entry). w.count) same in
        let a = wholes_written_back (field_in line) x p in
        let b = pair_only (fields_after line) later.age later.exposure later.count q in (
          record { age_fits = omega (arith, a.1); exposure_fits = omega (arith, b.age_small); count_fits = omega (arith, b.count_small); none = λ f. absurd (never f) },
          cut_at line (there line (no_pair (fields_after line) later.age later.exposure later.count q))
              ∙ ap₂ (λ (s t : List ℕ). s ++ (44 ∷ t)) (a.0 ∙ ap decimal first) (b.text ∙ ap₂ (λ (e d : ℕ). decimal e ++ (44 ∷ decimal d)) second last),
        )
      where
        never : true ≡ false → ⊥
        never f = let w : ◌≡◌ {A = ℕ} 0 1 = cc in omega arith
    go (Some x) p None q e = clash (cc)
    go None p r q e = clash (cc)

only : (claims : Bool) (line : List ℕ) (age exposure count : ℕ) → fields_of claims line ≡ Some (entry_of age exposure count)
    → InRange claims age exposure count × (line ≡ line_text claims age exposure count)
only true line age exposure count e = triple_only line age exposure count e
only false line age exposure count e =
    let p = pair_only line age exposure count e in
    (record { age_fits = p.age_small; exposure_fits = omega (arith, p.none); count_fits = p.count_small; none = λ f. p.none }, p.text)

pub lines_exactly : LinesExactly
lines_exactly = record { written = written; only = only }
