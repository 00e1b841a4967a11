-- The line named is the first faulty one, and the number is the first of 16, 17 and 18 that applies on it.
use Prim.Native.Nat.{ℕ, ◌+◌, ◌≤◌}
use mathlib.Core.Path.{◌≡◌, refl, sym, ap, ◌∙◌}
use mathlib.Core.Logic.{◌⊎◌, inl, inr}
use mathlib.Core.Bool.{Bool, true, false, ◌&&◌, true≢false}
use mathlib.Core.List.{List, [], ◌∷◌, ◌++◌}
use native.Mathlib.Omega.{arith}
use borrow.Author.Tests.{eqb-true, eqb-false, ltb-true, ltb-false}
use lib.Dec.{eqb, ltb}
use lib.ListN.{length}
use Rattle.std.specs.Prelude.{Option, Some, None, Result, Ok, Err, if◌then◌else◌}
use Rattle.numbers.proofs.Clash.{clash}
use Rattle.refusals.specs.declared.Refusal.{Refusal}
use Rattle.refusals.specs.declared.Refusal.TheVariants.{BadLine}
use Rattle.refusals.specs.Refusals.{number_of, place_of}
use Rattle.lists.specs.declared.lines.Entry.{Entry}
use Rattle.lists.specs.declared.lines.Fault.{Fault}
use Rattle.lists.specs.declared.lines.Fault.TheVariants.{Malformed, Sequence, Deaths}
use Rattle.lists.specs.Cut.{lines_of, same_bytes}
use Rattle.lists.specs.Lines.{most_lines, header_of, entry_of, fields_of, in_sequence, tested, line_of, refusal_at, Listed, ends_with, listed_from, listed_of}
use Rattle.lists.specs.Promises.{line_text, InRange, Listing, none, line, Faulty, beyond, malformed, sequence, deaths, FirstFault, NoHeader, FaultOf, LowestFault}
use Rattle.numbers.proofs.Both.{both}
use Rattle.lists.proofs.Cuts.{bytes_same, bytes_equal}
use Rattle.lists.proofs.Tests.{sequence_first, sequence_later}
use Rattle.lists.proofs.Walks.{listed_end}
use Rattle.lists.proofs.Exact.{lines_exactly}
use Rattle.lists.proofs.Near.{told_at}
use Rattle.lists.proofs.Listings.{step_by, row_good, deaths_good, age_due}

-- ---- one line
due : (k before age : ℕ) → in_sequence k before age ≡ true → (k ≡ 0) ⊎ (age ≡ before + 1)
due k before age e = go (eqb k 0) refl
  where
    go : (t : Bool) → eqb k 0 ≡ t → (k ≡ 0) ⊎ (age ≡ before + 1)
    go true q = inl (eqb-true k 0 q)
    go false q = inr (eqb-true age (before + 1) (sequence_later k before age (eqb-false k 0 q) ∙ e))

not_due : (k before age : ℕ) → in_sequence k before age ≡ false → (k ≡ 0 → ⊥) × (age ≡ before + 1 → ⊥)
not_due k before age e = (later, λ q. eqb-false age (before + 1) (sequence_later k before age later ∙ e) q)
  where
    later : k ≡ 0 → ⊥
    later z = let w : ◌≡◌ {A = Bool} true false = sequence_first k before age z ∙ e in clash (cc)

unread : (claims : Bool) (l : List ℕ) → fields_of claims l ≡ None → (age exposure count : ℕ) → InRange claims age exposure count → l ≡ line_text claims age exposure count → ⊥
unread claims l b age exposure count r e =
    let good : Some (entry_of age exposure count) ≡ None = sym (lines_exactly.written claims age exposure count r) ∙ ap (fields_of claims) (sym e) ∙ b in
    clash (cc)

pub line_fault : (claims : Bool) (k before : ℕ) (l : List ℕ) (fault : Fault) (n : ℕ) → line_of claims k before l ≡ Err fault
    → Faulty claims k (before + 1) l (number_of (refusal_at fault n))
line_fault claims k before l fault n e = go (ltb k most_lines) refl (fields_of claims l) refl e
  where
    last : (w : Entry) → ltb k most_lines ≡ true → fields_of claims l ≡ Some w → (t u : Bool) → in_sequence k before w.age ≡ t → (claims && ltb w.exposure w.count) ≡ u
        → (if t then (if u then Err Deaths else Ok w) else Err Sequence) ≡ Err fault → Faulty claims k (before + 1) l (number_of (refusal_at fault n))
    last w h r false u p q e =
        let f : Sequence ≡ fault = cc in
        let row = lines_exactly.only claims l w.age w.exposure w.count r in
        let out = not_due k before w.age p in
        rw (← f) (sequence w.age w.exposure w.count (ltb-true k most_lines h) row.0 row.1 out.0 out.1)
    last w h r true true p q e =
        let f : Deaths ≡ fault = cc in
        let row = lines_exactly.only claims l w.age w.exposure w.count r in
        let above = both claims (ltb w.exposure w.count) q in
        rw (← f) (deaths w.age w.exposure w.count (ltb-true k most_lines h) row.0 row.1 (due k before w.age p) above.0 (ltb-true w.exposure w.count above.1))
    last w h r true false p q e = clash (cc)

    go : (t : Bool) → ltb k most_lines ≡ t → (r : Option Entry) → fields_of claims l ≡ r → (if t then tested claims k before r else Err Malformed) ≡ Err fault
        → Faulty claims k (before + 1) l (number_of (refusal_at fault n))
    go true h (Some w) r e = last w h r (in_sequence k before w.age) (claims && ltb w.exposure w.count) refl refl e
    go true h None r e = let f : Malformed ≡ fault = cc in rw (← f) (malformed (ltb-true k most_lines h) (unread claims l r))
    go false h row r e = let f : Malformed ≡ fault = cc in rw (← f) (beyond (ltb-false k most_lines h))

-- ---- the first of them, after k lines without fault, where the age `next` is due
record From (claims : Bool) (k next : ℕ) (lines : List (List ℕ)) (number place : ℕ) : Type 0 where
  good : List (List ℕ)
  exposures : List ℕ
  counts : List ℕ
  bad : List ℕ
  later : List (List ℕ)
  parts : lines ≡ good ++ (bad ∷ later)
  listing : Listing claims next good exposures counts
  named : place ≡ k + length good + 2
  fault : Faulty claims (k + length good) (next + length good) bad number

faulty_at : {claims : Bool} {k m n o : ℕ} {l : List ℕ} {number : ℕ} → k ≡ m → n ≡ o → Faulty claims k n l number → Faulty claims m o l number
faulty_at p q f = rw (← p, ← q) f

from_here : (claims : Bool) (k next : ℕ) (l : List ℕ) (lines : List (List ℕ)) {number place : ℕ} → place ≡ k + 2 → Faulty claims k next l number → From claims k next (l ∷ lines) number place
from_here claims k next l lines p f =
    record {
      good = [];
      exposures = [];
      counts = [];
      bad = l;
      later = lines;
      parts = refl;
      listing = none;
      named = omega (arith, p);
      fault = faulty_at (omega arith) (omega arith) f;
    }

from_later : (claims : Bool) (k age exposure count : ℕ) {l : List ℕ} {lines : List (List ℕ)} {number place : ℕ}
    → InRange claims age exposure count × (l ≡ line_text claims age exposure count) → (claims ≡ true → count ≤ exposure)
    → From claims (k + 1) (age + 1) lines number place → From claims k age (l ∷ lines) number place
from_later claims k age exposure count {l} r d f =
    record {
      good = l ∷ f.good;
      exposures = exposure ∷ f.exposures;
      counts = count ∷ f.counts;
      bad = f.bad;
      later = f.later;
      parts = ap (λ (ls : List (List ℕ)). l ∷ ls) f.parts;
      listing = rw r.1 (line r.0 d f.listing);
      named = omega (arith, f.named);
      fault = faulty_at (omega arith) (omega arith) f.fault;
    }

from_same : {claims : Bool} {k m n : ℕ} {lines : List (List ℕ)} {number place : ℕ} → m ≡ n → From claims k m lines number place → From claims k n lines number place
from_same e f = rw (← e) f

done_refused : {r : Refusal} {n : ℕ} → Ok n ≡ Err r → ⊥
done_refused e = clash (cc)

refused_same : {r s : Refusal} → ◌≡◌ {A = Result ℕ Refusal} (Err r) (Err s) → r ≡ s
refused_same e = cc

fault_here : (claims : Bool) (k before : ℕ) (l : List ℕ) (lines : List (List ℕ)) (fault : Fault) (r : Refusal) → line_of claims k before l ≡ Err fault
    → refusal_at fault (k + 2) ≡ r → From claims k (before + 1) (l ∷ lines) (number_of r) (place_of r)
fault_here claims k before l lines fault r q same =
    rw (← same) (from_here claims k (before + 1) l lines (told_at fault (k + 2)) (line_fault claims k before l fault (k + 2) q))

fault_from : (claims : Bool) (k before : ℕ) (lines : List (List ℕ)) (r : Refusal) → (k ≡ 0 → ⊥) → (listed_from claims k before lines).outcome ≡ Err r
    → From claims k (before + 1) lines (number_of r) (place_of r)
fault_from claims k before [] r h e = absurd (done_refused (sym (ap (λ (x : Listed). x.outcome) (listed_end claims k before)) ∙ e))
fault_from claims k before (l ∷ lines) r h e = go (line_of claims k before l) refl (λ age q. fault_from claims (k + 1) age lines r (λ z. omega arith) q)
  where
    go : (x : Result Entry Fault) → line_of claims k before l ≡ x
        → ((age : ℕ) → (listed_from claims (k + 1) age lines).outcome ≡ Err r → From claims (k + 1) (age + 1) lines (number_of r) (place_of r))
        → From claims k (before + 1) (l ∷ lines) (number_of r) (place_of r)
    go (Ok w) q ih =
        from_same (age_due claims k before l lines w.age w.exposure w.count q h)
        (from_later claims k w.age w.exposure w.count (row_good claims k before l lines w.age w.exposure w.count q) (deaths_good claims k before l lines w.age w.exposure w.count q)
        (ih w.age (sym (ap (λ (x : Listed). x.outcome) (step_by claims k before l lines q)) ∙ e)))
    go (Err fault) q ih = fault_here claims k before l lines fault r q (refused_same (sym (ap (λ (x : Listed). x.outcome) (step_by claims k before l lines q)) ∙ e))

first_of : {claims : Bool} {first : ℕ} {lines : List (List ℕ)} {number place : ℕ} → From claims 0 first lines number place → FirstFault claims lines number place
first_of {first} f =
    record {
      first = first;
      good = f.good;
      exposures = f.exposures;
      counts = f.counts;
      bad = f.bad;
      later = f.later;
      parts = f.parts;
      listing = f.listing;
      named = omega (arith, f.named);
      fault = faulty_at (omega arith) refl f.fault;
    }

first_fault : (claims : Bool) (lines : List (List ℕ)) (r : Refusal) → (listed_from claims 0 0 lines).outcome ≡ Err r → FirstFault claims lines (number_of r) (place_of r)
first_fault claims [] r e = absurd (done_refused (sym (ap (λ (x : Listed). x.outcome) (listed_end claims 0 0)) ∙ e))
first_fault claims (l ∷ lines) r e = go (line_of claims 0 0 l) refl
  where
    go : (x : Result Entry Fault) → line_of claims 0 0 l ≡ x → FirstFault claims (l ∷ lines) (number_of r) (place_of r)
    go (Ok w) q =
        first_of
        (from_later claims 0 w.age w.exposure w.count (row_good claims 0 0 l lines w.age w.exposure w.count q) (deaths_good claims 0 0 l lines w.age w.exposure w.count q)
        (fault_from claims (0 + 1) w.age lines r (λ z. omega arith) (sym (ap (λ (x : Listed). x.outcome) (step_by claims 0 0 l lines q)) ∙ e)))
    go (Err fault) q = first_of (fault_here claims 0 0 l lines fault r q (refused_same (sym (ap (λ (x : Listed). x.outcome) (step_by claims 0 0 l lines q)) ∙ e)))

-- ---- the whole text
cons_head : (claims : Bool) {h : List ℕ} {lines rest : List (List ℕ)} → h ∷ lines ≡ header_of claims ∷ rest → h ≡ header_of claims
cons_head claims e = cc

lines_fault : (claims : Bool) (text : List ℕ) (all : List (List ℕ)) → lines_of text ≡ all → (r : Refusal) → (listed_of claims all).outcome ≡ Err r
    → NoHeader claims text (number_of r) (place_of r) ⊎ FaultOf claims text (number_of r) (place_of r)
lines_fault claims text [] s r e =
    let same = refused_same e in
    inl (record { headless = λ lines q. none_there (sym s ∙ q); sixteen = sym (ap number_of same); one = sym (ap place_of same) })
  where
    none_there : {lines : List (List ℕ)} → [] ≡ header_of claims ∷ lines → ⊥
    none_there q = clash (cc)
lines_fault claims text (header ∷ lines) s r e = go (same_bytes header (header_of claims)) refl
  where
    go : (t : Bool) → same_bytes header (header_of claims) ≡ t → NoHeader claims text (number_of r) (place_of r) ⊎ FaultOf claims text (number_of r) (place_of r)
    go true q =
        let same : listed_of claims (header ∷ lines) ≡ listed_from claims 0 0 lines = rw q in
        inr (record {
          lines = lines;
          headed = s ∙ ap (λ (h : List ℕ). h ∷ lines) (bytes_equal header (header_of claims) q);
          fault = first_fault claims lines r (sym (ap (λ (x : Listed). x.outcome) same) ∙ e);
        })
    go false q =
        let same : listed_of claims (header ∷ lines) ≡ ends_with (Err (BadLine 1)) = rw q in
        let told = refused_same (sym (ap (λ (x : Listed). x.outcome) same) ∙ e) in
        inl (record {
          headless = λ rest p. true≢false (sym (bytes_same (header_of claims)) ∙ ap (λ (h : List ℕ). same_bytes h (header_of claims)) (sym (cons_head claims (sym s ∙ p))) ∙ q);
          sixteen = sym (ap number_of told);
          one = sym (ap place_of told);
        })

pub lowest_fault : LowestFault
lowest_fault claims text r e = lines_fault claims text (lines_of text) refl r e
