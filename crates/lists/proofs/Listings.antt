-- Lines are read as a list exactly if they are well formed, with ages rising by one and no deaths above exposure.
use Prim.Native.Nat.{ℕ, suc, ◌+◌, ◌≤◌, ◌<◌}
use mathlib.Core.Path.{◌≡◌, refl, sym, ap, ◌∙◌}
use mathlib.Core.Logic.{◌⊎◌, inl, inr}
use mathlib.Core.Bool.{Bool, true, false, ◌&&◌}
use mathlib.Core.List.{List, [], ◌∷◌}
use native.Mathlib.Nat.{zero-add}
use native.Mathlib.Omega.{arith}
use borrow.Author.Tests.{eq-eqb, eqb-true, eqb-false, ltb-false}
use lib.Dec.{eqb, ltb}
use lib.ListN.{length}
use Rattle.numbers.proofs.Clash.{clash}
use Rattle.refusals.specs.declared.Refusal.{Refusal}
use Rattle.refusals.specs.declared.Refusal.TheVariants.{BadLine}
use Rattle.std.specs.Prelude.{Some, Result, Ok, Err}
use Rattle.lists.specs.declared.lines.Entry.{Entry}
use Rattle.lists.specs.declared.lines.Fault.{Fault}
use Rattle.lists.specs.Cut.{lines_of, same_bytes}
use Rattle.lists.specs.Lines.{most_lines, header_of, entry_of, in_sequence, tested, line_of, Listed, ends_with, on_line, listed_from, listed_of}
use Rattle.lists.specs.Promises.{line_text, InRange, Listing, none, line, ReadExactly}
use Rattle.lists.proofs.Cuts.{bytes_same, bytes_equal}
use Rattle.lists.proofs.Tests.{Good, line_good, sequence_first, sequence_later, deaths_within, no_deaths, within_120}
use Rattle.lists.proofs.Walks.{listed_step, listed_end}
use Rattle.lists.proofs.Whole.{list_count}
use Rattle.lists.proofs.Exact.{lines_exactly}

pub same_length : {claims : Bool} {age : ℕ} {lines : List (List ℕ)} {es ds : List ℕ} → Listing claims age lines es ds → length es ≡ length ds
same_length none = refl
same_length (line r below L) = ap suc (same_length L)

-- ---- a line written out is read
good_line : (claims : Bool) (k before age exposure count : ℕ) → k < most_lines → InRange claims age exposure count → in_sequence k before age ≡ true
    → (claims ≡ true → count ≤ exposure) → line_of claims k before (line_text claims age exposure count) ≡ Ok (entry_of age exposure count)
good_line claims k before age exposure count h r s d =
    sym (
    within_120 claims k before (line_text claims age exposure count) h
    (plain claims refl ∙ ap (tested claims k before) (sym (lines_exactly.written claims age exposure count r)))
    )
  where
    plain : (t : Bool) → claims ≡ t → Ok (entry_of age exposure count) ≡ tested claims k before (Some (entry_of age exposure count))
    plain true e = deaths_within claims k before age exposure count s e (d e)
    plain false e = no_deaths claims k before age exposure count s e

in_sequence_lem : (k before age : ℕ) → (k ≡ 0) ⊎ (age ≡ before + 1) → in_sequence k before age ≡ true
in_sequence_lem k before age (inl e) = sym (sequence_first k before age e)
in_sequence_lem k before age (inr e) = go (eqb k 0) refl
  where
    go : (t : Bool) → eqb k 0 ≡ t → in_sequence k before age ≡ true
    go true q = sym (sequence_first k before age (eqb-true k 0 q))
    go false q = sym (sequence_later k before age (eqb-false k 0 q)) ∙ eq-eqb age (before + 1) e

-- what reading such lines gives
pub record ReadAs (k : ℕ) (listed : Listed) (exposures counts : List ℕ) : Type 0 where
  pub same_exposures : listed.exposures ≡ exposures
  pub same_counts_lem : listed.counts ≡ counts
  pub ends : listed.outcome ≡ Ok (k + length exposures)

read_same : {k : ℕ} {a b : Listed} {exposures counts : List ℕ} → a ≡ b → ReadAs k b exposures counts → ReadAs k a exposures counts
read_same e r =
    record {
      same_exposures = ap (λ (x : Listed). x.exposures) e ∙ r.same_exposures;
      same_counts_lem = ap (λ (x : Listed). x.counts) e ∙ r.same_counts_lem;
      ends = ap (λ (x : Listed). x.outcome) e ∙ r.ends;
    }

pub step_by : (claims : Bool) (k before : ℕ) (l : List ℕ) (lines : List (List ℕ)) {x : Result Entry Fault} → line_of claims k before l ≡ x
    → listed_from claims k before (l ∷ lines) ≡ on_line x (k + 2) (λ age. listed_from claims (k + 1) age lines)
step_by claims k before l lines e =
    listed_step claims k before l lines ∙ ap (λ (x : Result Entry Fault). on_line x (k + 2) (λ age. listed_from claims (k + 1) age lines)) e

pub listing_read : (claims : Bool) (k before : ℕ) {age : ℕ} {lines : List (List ℕ)} {exposures counts : List ℕ} → Listing claims age lines exposures counts
    → k + length exposures ≤ most_lines → (k ≡ 0) ⊎ (age ≡ before + 1) → ReadAs k (listed_from claims k before lines) exposures counts
listing_read claims k before none h s =
    read_same (listed_end claims k before) (record { same_exposures = refl; same_counts_lem = refl; ends = ap Ok (omega arith) })
listing_read claims k before {age} (line {exposure = exposure} {count = count} {lines = lines} {exposures = exposures} r d L) h s =
    let step = step_by claims k before (line_text claims age exposure count) lines (good_line claims k before age exposure count (omega arith) r (in_sequence_lem k before age s) d) in
    let rest = listing_read claims (k + 1) age L (omega arith) (inr refl) in
    let n : k + 1 + length exposures ≡ k + length (exposure ∷ exposures) = omega arith in
    read_same step (record {
      same_exposures = ap (λ (xs : List ℕ). exposure ∷ xs) rest.same_exposures;
      same_counts_lem = ap (λ (xs : List ℕ). count ∷ xs) rest.same_counts_lem;
      ends = rest.ends ∙ ap Ok n;
    })

-- ---- what was read was such lines
deaths_of : (claims : Bool) (exposure count : ℕ) → (claims && ltb exposure count) ≡ false → claims ≡ true → count ≤ exposure
deaths_of true exposure count e t = ltb-false exposure count e
deaths_of false exposure count e t = clash (cc)

module _ (claims : Bool) (k before : ℕ) (l : List ℕ) (lines : List (List ℕ)) (age exposure count : ℕ) (e : line_of claims k before l ≡ Ok (entry_of age exposure count)) where
  good : Good claims k before l age exposure count
  good = line_good claims k before l age exposure count e

  pub row_good : InRange claims age exposure count × (l ≡ line_text claims age exposure count)
  row_good = lines_exactly.only claims l age exposure count good.fields

  pub deaths_good : claims ≡ true → count ≤ exposure
  deaths_good = deaths_of claims exposure count good.deaths

  pub age_due : (k ≡ 0 → ⊥) → age ≡ before + 1
  age_due h = eqb-true age (before + 1) (sequence_later k before age h ∙ good.sequence)

  pub step_listing : Listing claims (age + 1) lines (listed_from claims (k + 1) age lines).exposures (listed_from claims (k + 1) age lines).counts
      → Listing claims age (l ∷ lines) (listed_from claims k before (l ∷ lines)).exposures (listed_from claims k before (l ∷ lines)).counts
  step_listing L =
      let step = step_by claims k before l lines e in
      rw (ap (λ (x : Listed). x.exposures) step, ap (λ (x : Listed). x.counts) step, row_good.1) (line row_good.0 deaths_good L)

refused_done : {r : Refusal} {n : ℕ} → Err r ≡ Ok n → ⊥
refused_done e = clash (cc)

pub listing_of : (claims : Bool) (k before : ℕ) (lines : List (List ℕ)) (n : ℕ) → (k ≡ 0 → ⊥) → (listed_from claims k before lines).outcome ≡ Ok n
    → Listing claims (before + 1) lines (listed_from claims k before lines).exposures (listed_from claims k before lines).counts
listing_of claims k before [] n h e =
    rw (ap (λ (x : Listed). x.exposures) (listed_end claims k before), ap (λ (x : Listed). x.counts) (listed_end claims k before)) none
listing_of claims k before (l ∷ lines) n h e = go (line_of claims k before l) refl (λ age q. listing_of claims (k + 1) age lines n (λ z. omega arith) q)
  where
    go : (x : Result Entry Fault) → line_of claims k before l ≡ x
        → ((age : ℕ) → (listed_from claims (k + 1) age lines).outcome ≡ Ok n
        → Listing claims (age + 1) lines (listed_from claims (k + 1) age lines).exposures (listed_from claims (k + 1) age lines).counts)
        → Listing claims (before + 1) (l ∷ lines) (listed_from claims k before (l ∷ lines)).exposures (listed_from claims k before (l ∷ lines)).counts
    go (Ok entry) q ih =
        rw (← age_due claims k before l lines entry.age entry.exposure entry.count q h)
        (step_listing claims k before l lines entry.age entry.exposure entry.count q (ih entry.age (sym (ap (λ (x : Listed). x.outcome) (step_by claims k before l lines q)) ∙ e)))
    go (Err fault) q ih = absurd (refused_done (sym (ap (λ (x : Listed). x.outcome) (step_by claims k before l lines q)) ∙ e))

-- the first age is free
pub listing_first : (claims : Bool) (lines : List (List ℕ)) (n : ℕ) → (listed_from claims 0 0 lines).outcome ≡ Ok n
    → (first : ℕ) × Listing claims first lines (listed_from claims 0 0 lines).exposures (listed_from claims 0 0 lines).counts
listing_first claims [] n e =
    (0, rw (ap (λ (x : Listed). x.exposures) (listed_end claims 0 0), ap (λ (x : Listed). x.counts) (listed_end claims 0 0)) none)
listing_first claims (l ∷ lines) n e = go (line_of claims 0 0 l) refl
  where
    go : (x : Result Entry Fault) → line_of claims 0 0 l ≡ x
        → (first : ℕ) × Listing claims first (l ∷ lines) (listed_from claims 0 0 (l ∷ lines)).exposures (listed_from claims 0 0 (l ∷ lines)).counts
    go (Ok entry) q = (
      entry.age,
      step_listing claims 0 0 l lines entry.age entry.exposure entry.count q
          (listing_of claims (0 + 1) entry.age lines n (λ z. omega arith) (sym (ap (λ (x : Listed). x.outcome) (step_by claims 0 0 l lines q)) ∙ e)),
    )
    go (Err fault) q = absurd (refused_done (sym (ap (λ (x : Listed). x.outcome) (step_by claims 0 0 l lines q)) ∙ e))

-- ---- a whole list
pub record WholeList (claims : Bool) (all : List (List ℕ)) : Type 0 where
  pub first : ℕ
  pub lines : List (List ℕ)
  pub headed : all ≡ header_of claims ∷ lines
  pub listing : Listing claims first lines (listed_of claims all).exposures (listed_of claims all).counts

pub whole_list : (claims : Bool) (all : List (List ℕ)) (n : ℕ) → (listed_of claims all).outcome ≡ Ok n → WholeList claims all
whole_list claims [] n e = absurd (refused_done e)
whole_list claims (header ∷ lines) n e = go (same_bytes header (header_of claims)) refl
  where
    go : (t : Bool) → same_bytes header (header_of claims) ≡ t → WholeList claims (header ∷ lines)
    go true q =
        let same : listed_of claims (header ∷ lines) ≡ listed_from claims 0 0 lines = rw q in
        let found = listing_first claims lines n (sym (ap (λ (x : Listed). x.outcome) same) ∙ e) in
        record {
          first = found.0;
          lines = lines;
          headed = ap (λ (h : List ℕ). h ∷ lines) (bytes_equal header (header_of claims) q);
          listing = rw (ap (λ (x : Listed). x.exposures) same, ap (λ (x : Listed). x.counts) same) found.1;
        }
    go false q =
        let same : listed_of claims (header ∷ lines) ≡ ends_with (Err (BadLine 1)) = rw q in
        absurd (refused_done (sym (ap (λ (x : Listed). x.outcome) same) ∙ e))

pub headed_read : (claims : Bool) {all lines : List (List ℕ)} {first : ℕ} {exposures counts : List ℕ} → all ≡ header_of claims ∷ lines → Listing claims first lines exposures counts
    → length exposures ≤ most_lines → ReadAs 0 (listed_of claims all) exposures counts
headed_read claims {all} {lines} e L h =
    let same : listed_of claims all ≡ listed_from claims 0 0 lines = ap (listed_of claims) e ∙ rw (bytes_same (header_of claims)) in
    read_same same (listing_read claims 0 0 L (omega arith) (inl refl))

pub read_exactly : ReadExactly
read_exactly =
    record {
      read = λ claims text exposures counts L. let r = headed_read claims L.headed L.listing L.few in (r.same_exposures, r.same_counts_lem, r.ends ∙ ap Ok (zero-add (length exposures)));
      only = λ claims text n e.
          let w = whole_list claims (lines_of text) n e in
          let c = list_count claims (lines_of text) n e in
          record { first = w.first; lines = w.lines; headed = w.headed; few = omega (arith, c.exposures, c.few); listing = w.listing };
    }
