-- A list read line by line: what is left of it, after the lines passed, ends as the whole does.
use Prim.Native.Nat.{ℕ, zero, suc, ◌+◌, ◌-◌, ◌≤◌, ◌<◌}
use mathlib.Core.Path.{◌≡◌, refl, sym, ap, ap₂, ◌∙◌}
use mathlib.Core.Bool.{Bool, true, false}
use mathlib.Core.List.{List, [], ◌∷◌}
use native.Mathlib.Nat.{zero-add}
use native.Mathlib.Numerals.{add-one}
use native.Mathlib.Omega.{arith}
use lib.ListN.{length, set, take, drop, length-drop, length-set, drop_of_length-le}
use lib.Seq.{sets, drop-drop}
use Rattle.std.specs.Prelude.{Result, Ok, Err, if◌then◌else◌}
use Rattle.refusals.specs.declared.Refusal.{Refusal}
use Rattle.refusals.specs.declared.Refusal.TheVariants.{BadLine}
use Rattle.decimals.specs.Whole.{largest}
use Rattle.lists.specs.declared.lines.Entry.{Entry}
use Rattle.lists.specs.declared.lines.Fault.{Fault}
use Rattle.lists.specs.Cut.{length_to, is_break, line_in, lines_after, lines_of, same_bytes}
use Rattle.lists.specs.Lines.{most_lines, header_of, line_of, refusal_at, refused_at, Listed, ends_with, on_line, listed_from, listed_of, ListRead}
use Rattle.numbers.proofs.Clash.{clash}
use Rattle.lists.proofs.Cuts.{lines_none, lines_some}
use Rattle.lists.proofs.Tests.{Small, line_good, line_small}

-- ---- one line more
pub listed_step : (claims : Bool) (k before : ℕ) (line : List ℕ) (lines : List (List ℕ))
    → listed_from claims k before (line ∷ lines) ≡ on_line (line_of claims k before line) (k + 2) (λ age. listed_from claims (k + 1) age lines)
unfolding listed_from
listed_step claims k before line lines = refl

pub listed_end : (claims : Bool) (k before : ℕ) → listed_from claims k before [] ≡ ends_with (Ok k)
unfolding listed_from
listed_end claims k before = refl

-- the line at an offset, as the code cuts it, and what comes after it
module _ (text : List ℕ) (at : ℕ) (h : at < length text) {end : ℕ} (e : end ≡ at + length_to is_break (drop at text)) where
  line_cut : line_in (drop at text) ≡ take (end - at) (drop at text)
  line_cut = let n : length_to is_break (drop at text) ≡ end - at = omega arith in ap (λ (k : ℕ). take k (drop at text)) n

  after_cut : lines_after (drop at text) ≡ drop (end + 2) text
  after_cut =
      let n : at + (length_to is_break (drop at text) + 2) ≡ end + 2 = omega arith in
      drop-drop (length_to is_break (drop at text) + 2) at text ∙ ap (λ (k : ℕ). drop k text) n

  pub lines_cut : lines_of (drop at text) ≡ take (end - at) (drop at text) ∷ lines_of (drop (end + 2) text)
  lines_cut =
      lines_some (drop at text) (omega (arith, length-drop at text))
      ∙ ap₂ (λ (l rest : List ℕ). l ∷ lines_of rest) line_cut after_cut

-- ---- a line's refusal
ok_at : (x : Result Entry Fault) (n : ℕ) {entry : Entry} → refused_at n x ≡ Ok entry → x ≡ Ok entry
ok_at (Ok w) n e = ap Ok (ok_refusal e)
  where
    ok_refusal : {v w : Entry} → ◌≡◌ {A = Result Entry Refusal} (Ok v) (Ok w) → v ≡ w
    ok_refusal e = cc
ok_at (Err f) n e = clash (cc)

record ErrAt (x : Result Entry Fault) (n : ℕ) (refusal : Refusal) : Type 0 where
  fault : Fault
  was : x ≡ Err fault
  same : refusal_at fault n ≡ refusal

err_at : (x : Result Entry Fault) (n : ℕ) {refusal : Refusal} → refused_at n x ≡ Err refusal → ErrAt x n refusal
err_at (Ok w) n e = clash (cc)
err_at (Err f) n e = record { fault = f; was = refl; same = cc }

-- ---- the loop
abbrev pub from_text : (claims : Bool) → List ℕ → (from k before : ℕ) → Listed
from_text claims text from k before = listed_from claims k before (lines_of (drop from text))

pub record Walking (claims : Bool) (text : List ℕ) (from : ℕ) (exposures₀ counts₀ exposures counts : List ℕ) (at k before : ℕ) : Type 0 where
  pub near : at ≤ length text + 2
  pub few : k ≤ most_lines
  pub small : before ≤ largest
  pub long_exposures : length exposures ≡ length exposures₀
  pub long_counts : length counts ≡ length counts₀
  pub ends : (from_text claims text at k before).outcome ≡ (from_text claims text from 0 0).outcome
  pub kept : sets exposures k (from_text claims text at k before).exposures ≡ sets exposures₀ 0 (from_text claims text from 0 0).exposures
  pub counted : sets counts k (from_text claims text at k before).counts ≡ sets counts₀ 0 (from_text claims text from 0 0).counts

pub walking_start : (claims : Bool) (text : List ℕ) (from : ℕ) (exposures counts : List ℕ) → from ≤ length text + 2
    → Walking claims text from exposures counts exposures counts from 0 0
walking_start claims text from exposures counts h =
    record { near = h; few = omega arith; small = omega arith; long_exposures = refl; long_counts = refl; ends = refl; kept = refl; counted = refl }

module _ {claims : Bool} {text : List ℕ} {from : ℕ} {exposures₀ counts₀ exposures counts : List ℕ} {at k before : ℕ}
    (W : Walking claims text from exposures₀ counts₀ exposures counts at k before) where
  -- where nothing is left, what was stored is all
  ended : {o : Result ℕ Refusal} → from_text claims text at k before ≡ ends_with o → ListRead (from_text claims text from 0 0) exposures₀ counts₀ o exposures counts
  ended e =
      record {
        ends = sym (ap (λ (x : Listed). x.outcome) e) ∙ W.ends;
        kept = sym (ap (λ (x : Listed). sets exposures k x.exposures) e) ∙ W.kept;
        counted = sym (ap (λ (x : Listed). sets counts k x.counts) e) ∙ W.counted;
      }

  module _ (h : at < length text) {end : ℕ} (e : end ≡ at + length_to is_break (drop at text)) where
    -- what is left, by its first line
    left : from_text claims text at k before
        ≡ on_line (line_of claims k before (take (end - at) (drop at text))) (k + 2) (λ age. listed_from claims (k + 1) age (lines_of (drop (end + 2) text)))
    left = ap (listed_from claims k before) (lines_cut text at h e) ∙ listed_step claims k before (take (end - at) (drop at text)) (lines_of (drop (end + 2) text))

    module _ {r : Result Entry Refusal} (l : r ≡ refused_at (k + 2) (line_of claims k before (take (end - at) (drop at text)))) where
      read : (entry : Entry) → r ≡ Ok entry → line_of claims k before (take (end - at) (drop at text)) ≡ Ok entry
      read entry q = ok_at (line_of claims k before (take (end - at) (drop at text))) (k + 2) (sym l ∙ q)

      pub walking_small : (entry : Entry) → r ≡ Ok entry → Small entry.age entry.exposure entry.count
      walking_small entry q = line_small claims k before (take (end - at) (drop at text)) entry.age entry.exposure entry.count (read entry q)

      pub walking_few : (entry : Entry) → r ≡ Ok entry → k < most_lines
      walking_few entry q = (line_good claims k before (take (end - at) (drop at text)) entry.age entry.exposure entry.count (read entry q)).few

      pub walking_go : end ≤ length text → (entry : Entry) → r ≡ Ok entry
          → Walking claims text from exposures₀ counts₀ (set exposures k entry.exposure) (set counts k entry.count) (end + 2) (k + 1) entry.age
      walking_go m entry q =
          let rest = from_text claims text (end + 2) (k + 1) entry.age in
          let more : from_text claims text at k before ≡ on_line (Ok entry) (k + 2) (λ a. listed_from claims (k + 1) a (lines_of (drop (end + 2) text))) =
          left ∙ ap (λ (x : Result Entry Fault). on_line x (k + 2) (λ a. listed_from claims (k + 1) a (lines_of (drop (end + 2) text)))) (read entry q) in
          record {
            near = omega arith;
            few = omega (arith, walking_few entry q);
            small = (walking_small entry q).age_small;
            long_exposures = length-set exposures k entry.exposure ∙ W.long_exposures;
            long_counts = length-set counts k entry.count ∙ W.long_counts;
            ends = sym (ap (λ (x : Listed). x.outcome) more) ∙ W.ends;
            kept =
                ap (λ (n : ℕ). sets (set exposures k entry.exposure) n rest.exposures) (add-one k)
                ∙ sym (ap (λ (x : Listed). sets exposures k x.exposures) more)
                ∙ W.kept;
            counted =
                ap (λ (n : ℕ). sets (set counts k entry.count) n rest.counts) (add-one k)
                ∙ sym (ap (λ (x : Listed). sets counts k x.counts) more)
                ∙ W.counted;
          }

      module _ (refusal : Refusal) (q : r ≡ Err refusal) where
        told : ErrAt (line_of claims k before (take (end - at) (drop at text))) (k + 2) refusal
        told = err_at (line_of claims k before (take (end - at) (drop at text))) (k + 2) (sym l ∙ q)

        stopped : from_text claims text at k before ≡ ends_with (Err refusal)
        stopped =
            left
            ∙ ap (λ (x : Result Entry Fault). on_line x (k + 2) (λ age. listed_from claims (k + 1) age (lines_of (drop (end + 2) text)))) told.was
            ∙ ap (λ (s : Refusal). ends_with (Err s)) told.same

        pub walking_bad : ListRead (from_text claims text from 0 0) exposures₀ counts₀ (Err refusal) exposures counts
        walking_bad = ended stopped

  module _ (h : length text ≤ at) where
    over : from_text claims text at k before ≡ ends_with (Ok k)
    over = ap (λ (s : List ℕ). listed_from claims k before (lines_of s)) (drop_of_length-le text {i = at} h) ∙ ap (listed_from claims k before) lines_none ∙ listed_end claims k before

    pub walking_end : ListRead (from_text claims text from 0 0) exposures₀ counts₀ (Ok k) exposures counts
    walking_end = ended over

-- ---- the header
no_header : (claims : Bool) → same_bytes [] (header_of claims) ≡ false
unfolding same_bytes
no_header true = refl
no_header false = refl

take_nil : (n : ℕ) → take {A = ℕ} n [] ≡ []
take_nil zero = refl
take_nil (suc n) = refl

headed : (claims : Bool) (text : List ℕ) {end : ℕ} (t : Bool) → end ≡ length_to is_break text → same_bytes (take end text) (header_of claims) ≡ t
    → (if t then listed_from claims 0 0 (lines_of (drop (end + 2) text)) else ends_with (Err (BadLine 1))) ≡ listed_of claims (lines_of text)
headed claims [] {end} t e q =
    let none : t ≡ false = sym q ∙ ap (λ (s : List ℕ). same_bytes s (header_of claims)) (take_nil end) ∙ no_header claims in
    rw none (ap (listed_of claims) (sym lines_none))
headed claims (b ∷ s) {end} t e q =
    let cut : lines_of (b ∷ s) ≡ take end (b ∷ s) ∷ lines_of (drop (end + 2) (b ∷ s)) =
    lines_some (b ∷ s) (omega arith) ∙ ap (λ (n : ℕ). take n (b ∷ s) ∷ lines_of (drop (n + 2) (b ∷ s))) (sym e) in
    ap (λ (u : Bool). if u then listed_from claims 0 0 (lines_of (drop (end + 2) (b ∷ s))) else ends_with (Err (BadLine 1))) (sym q) ∙ ap (listed_of claims) (sym cut)

-- the header, as the code cuts it
module _ (claims : Bool) (text : List ℕ) {end : ℕ} (e : end ≡ 0 + length_to is_break text) {r : Bool} (told : r ≡ same_bytes (take end text) (header_of claims)) where
  end_plain : end ≡ length_to is_break text
  end_plain = e ∙ zero-add (length_to is_break text)

  same_plain : same_bytes (take end text) (header_of claims) ≡ r
  same_plain = sym told

  pub list_headed : r ≡ true → listed_from claims 0 0 (lines_of (drop (end + 2) text)) ≡ listed_of claims (lines_of text)
  list_headed q = headed claims text true end_plain (same_plain ∙ q)

  pub list_headless : r ≡ false → ends_with (Err (BadLine 1)) ≡ listed_of claims (lines_of text)
  list_headless q = headed claims text false end_plain (same_plain ∙ q)

-- what was read of the lines is read of the list
pub read_same_as : {a b : Listed} → a ≡ b → {exposures counts exposures-after counts-after : List ℕ} {o : Result ℕ Refusal} → ListRead a exposures counts o exposures-after counts-after
    → ListRead b exposures counts o exposures-after counts-after
read_same_as e {exposures} {counts} l =
    record {
      ends = l.ends ∙ ap (λ (x : Listed). x.outcome) e;
      kept = l.kept ∙ ap (λ (x : Listed). sets exposures 0 x.exposures) e;
      counted = l.counted ∙ ap (λ (x : Listed). sets counts 0 x.counts) e;
    }

pub read_none : (o : Result ℕ Refusal) (exposures counts : List ℕ) → ListRead (ends_with o) exposures counts o exposures counts
read_none o exposures counts = record { ends = refl; kept = refl; counted = refl }
