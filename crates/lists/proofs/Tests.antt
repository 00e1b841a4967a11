-- What the tests of a line come to, case by case.
use Prim.Native.Nat.{ℕ, ◌+◌, ◌≤◌, ◌<◌}
use mathlib.Core.Path.{◌≡◌, refl, sym, ap, ap₂, ◌∙◌}
use mathlib.Core.Bool.{Bool, true, false, ◌&&◌}
use mathlib.Core.List.{List, []}
use native.Mathlib.Omega.{arith}
use borrow.Author.Tests.{eq-eqb, ne_eqb, lt-ltb, le-ltb, ltb-true}
use lib.Dec.{eqb, ltb}
use lib.ListN.{length, drop_of_length-le}
use Rattle.std.specs.Prelude.{Option, Some, None, Result, Ok, Err, if◌then◌else◌}
use Rattle.numbers.proofs.Clash.{clash}
use Rattle.decimals.specs.Whole.{largest, whole_of}
use Rattle.decimals.proofs.Back.{wholes_written_back}
use Rattle.lists.specs.declared.lines.Entry.{Entry}
use Rattle.lists.specs.declared.lines.Fault.{Fault}
use Rattle.lists.specs.declared.lines.Fault.TheVariants.{Malformed, Sequence, Deaths}
use Rattle.lists.specs.Cut.{length_to, is_comma, field_in, fields_after}
use Rattle.lists.specs.Lines.{most_lines, entry_of, two_of, pair_of, three_of, fields_of, in_sequence, tested, line_of}

-- ---- ages
pub sequence_first : (k before age : ℕ) → k ≡ 0 → true ≡ in_sequence k before age
sequence_first k before age h = rw (eq-eqb k 0 h)

pub sequence_later : (k before age : ℕ) → (k ≡ 0 → ⊥) → eqb age (before + 1) ≡ in_sequence k before age
sequence_later k before age h = rw (ne_eqb k 0 h)

-- ---- a row's numbers
module _ (claims : Bool) (k before age exposure count : ℕ) where
  pub deaths_within : in_sequence k before age ≡ true → claims ≡ true → count ≤ exposure
      → Ok (entry_of age exposure count) ≡ tested claims k before (Some (entry_of age exposure count))
  deaths_within s c h = rw (s, c, le-ltb exposure count h)

  pub no_deaths : in_sequence k before age ≡ true → claims ≡ false → Ok (entry_of age exposure count) ≡ tested claims k before (Some (entry_of age exposure count))
  no_deaths s c = rw (s, c)

-- ---- fields that are not there
after_two : (w : Option ℕ) → None ≡ two_of w None
after_two (Some a) = refl
after_two None = refl

after_three : (w : Option ℕ) → None ≡ three_of w None
after_three (Some a) = refl
after_three None = refl

no_later : (line : List ℕ) → length line ≤ length_to is_comma line → fields_after line ≡ []
no_later line h = drop_of_length-le line {i = length_to is_comma line + 1} (omega arith)

pub one_field : (line : List ℕ) → length line ≤ length_to is_comma line → None ≡ pair_of line
one_field line h = after_two (whole_of (field_in line)) ∙ ap (λ (s : List ℕ). two_of (whole_of (field_in line)) (whole_of s)) (sym (no_later line h))

empty_pair : None ≡ pair_of []
unfolding length_to
empty_pair = refl

pub one_of_three : (claims : Bool) (line : List ℕ) → claims ≡ true → length line ≤ length_to is_comma line → None ≡ fields_of claims line
one_of_three claims line c h =
    rw c (
    after_three (whole_of (field_in line))
    ∙ ap (λ (r : Option Entry). three_of (whole_of (field_in line)) r) (empty_pair ∙ ap pair_of (sym (no_later line h)))
    )

-- ---- the numbers of a line are at most 10^9
pub some_same : {v w : Entry} → Some v ≡ Some w → v ≡ w
some_same e = cc

ok_same : {v w : Entry} → ◌≡◌ {A = Result Entry Fault} (Ok v) (Ok w) → v ≡ w
ok_same e = cc

pub record Small (age exposure count : ℕ) : Type 0 where
  pub age_small : age ≤ largest
  pub exposure_small : exposure ≤ largest
  pub count_small : count ≤ largest

pair_small : (line : List ℕ) (age exposure count : ℕ) → pair_of line ≡ Some (entry_of age exposure count) → Small age exposure count
pair_small line age exposure count e = go (whole_of (field_in line)) refl (whole_of (fields_after line)) refl e
  where
    go : (a : Option ℕ) → whole_of (field_in line) ≡ a → (b : Option ℕ) → whole_of (fields_after line) ≡ b → two_of a b ≡ Some (entry_of age exposure count) → Small age exposure count
    go (Some x) p (Some y) q e =
        let same : entry_of x 0 y ≡ entry_of age exposure count = some_same e in
        let first : x ≡ age = ap (λ (w : Entry). w.age) same in
        let none : 0 ≡ exposure = ap (λ (w : Entry). w.exposure) same in
        let last : y ≡ count = ap (λ (w : Entry). w.count) same in
        let a = (wholes_written_back (field_in line) x p).1 in
        let b = (wholes_written_back (fields_after line) y q).1 in
        record { age_small = omega arith; exposure_small = omega arith; count_small = omega arith }
    go (Some x) p None q e = clash (cc)
    go None p b q e = clash (cc)

triple_small : (line : List ℕ) (age exposure count : ℕ) → three_of (whole_of (field_in line)) (pair_of (fields_after line)) ≡ Some (entry_of age exposure count) → Small age exposure count
triple_small line age exposure count e = go (whole_of (field_in line)) refl (pair_of (fields_after line)) refl e
  where
    go : (a : Option ℕ) → whole_of (field_in line) ≡ a → (r : Option Entry) → pair_of (fields_after line) ≡ r → three_of a r ≡ Some (entry_of age exposure count) → Small age exposure count
    go (Some x) p (Some later) q e =
        let same : entry_of x later.age later.count ≡ entry_of age exposure count = some_same e in
        let first : x ≡ age = ap (λ (w : Entry). w.age) same in
        let second : later.age ≡ exposure = ap (λ (w : Entry). w.exposure) same in
        let last : later.count ≡ count = ap (λ (w : Entry). w.count) same in
        let a = (wholes_written_back (field_in line) x p).1 in
        let b = pair_small (fields_after line) later.age later.exposure later.count q in
        record { age_small = omega arith; exposure_small = omega (arith, b.age_small); count_small = omega (arith, b.count_small) }
    go (Some x) p None q e = clash (cc)
    go None p r q e = clash (cc)

row_small : (claims : Bool) (line : List ℕ) (age exposure count : ℕ) → fields_of claims line ≡ Some (entry_of age exposure count) → Small age exposure count
row_small true line age exposure count e = triple_small line age exposure count e
row_small false line age exposure count e = pair_small line age exposure count e

-- What a line that has no fault comes to.
pub record Good (claims : Bool) (k before : ℕ) (line : List ℕ) (age exposure count : ℕ) : Type 0 where
  pub few : k < most_lines
  pub fields : fields_of claims line ≡ Some (entry_of age exposure count)
  pub sequence : in_sequence k before age ≡ true
  pub deaths : (claims && ltb exposure count) ≡ false

pub line_good : (claims : Bool) (k before : ℕ) (line : List ℕ) (age exposure count : ℕ) → line_of claims k before line ≡ Ok (entry_of age exposure count) → Good claims k before line age exposure count
line_good claims k before line age exposure count e = go (ltb k most_lines) refl (fields_of claims line) refl e
  where
    last : (a x y : ℕ) → ltb k most_lines ≡ true → fields_of claims line ≡ Some (entry_of a x y) → (t u : Bool) → in_sequence k before a ≡ t → (claims && ltb x y) ≡ u
        → (if t then (if u then Err Deaths else Ok (entry_of a x y)) else Err Sequence) ≡ Ok (entry_of age exposure count) → Good claims k before line age exposure count
    last a x y h r false u p q e = clash (cc)
    last a x y h r true true p q e = clash (cc)
    last a x y h r true false p q e =
        let same : entry_of a x y ≡ entry_of age exposure count = ok_same e in
        let first : a ≡ age = ap (λ (w : Entry). w.age) same in
        let second : x ≡ exposure = ap (λ (w : Entry). w.exposure) same in
        let third : y ≡ count = ap (λ (w : Entry). w.count) same in
        record {
          few = ltb-true k most_lines h;
          fields = r ∙ ap {B = Option Entry} Some same;
          sequence = ap (λ (n : ℕ). in_sequence k before n) (sym first) ∙ p;
          deaths = ap₂ (λ (n m : ℕ). claims && ltb n m) (sym second) (sym third) ∙ q;
        }

    go : (t : Bool) → ltb k most_lines ≡ t → (r : Option Entry) → fields_of claims line ≡ r → (if t then tested claims k before r else Err Malformed) ≡ Ok (entry_of age exposure count)
        → Good claims k before line age exposure count
    go true h (Some w) r e = last w.age w.exposure w.count h r (in_sequence k before w.age) (claims && ltb w.exposure w.count) refl refl e
    go true h None r e = clash (cc)
    go false h row r e = clash (cc)

pub line_small : (claims : Bool) (k before : ℕ) (line : List ℕ) (age exposure count : ℕ) → line_of claims k before line ≡ Ok (entry_of age exposure count) → Small age exposure count
line_small claims k before line age exposure count e = row_small claims line age exposure count (line_good claims k before line age exposure count e).fields

-- ---- a line after 120 others
pub within_120 : (claims : Bool) (k before : ℕ) (line : List ℕ) {l : Result Entry Fault} → k < most_lines → l ≡ tested claims k before (fields_of claims line) → l ≡ line_of claims k before line
within_120 claims k before line h e = rw (lt-ltb k most_lines h) e

pub beyond_120 : (claims : Bool) (k before : ℕ) (line : List ℕ) → most_lines ≤ k → Err Malformed ≡ line_of claims k before line
beyond_120 claims k before line h = rw (le-ltb k most_lines h)
