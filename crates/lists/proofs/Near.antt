-- How reading a list ends: with at most 120 lines, or with 16, 17 or 18 at a line up to the 122nd.
use Prim.Native.Nat.{ℕ, ◌+◌, ◌≤◌}
use mathlib.Core.Path.{◌≡◌, refl, ap}
use mathlib.Core.Logic.{◌⊎◌, inl, inr}
use mathlib.Core.Bool.{Bool, true, false, ◌&&◌}
use mathlib.Core.List.{List, [], ◌∷◌}
use native.Mathlib.Omega.{arith}
use lib.Dec.{ltb}
use Rattle.std.specs.Prelude.{Option, Some, None, Result, Ok, Err, if◌then◌else◌}
use Rattle.numbers.proofs.Clash.{clash}
use Rattle.refusals.specs.declared.Refusal.{Refusal}
use Rattle.refusals.specs.declared.Refusal.TheVariants.{BadLine}
use Rattle.refusals.specs.Refusals.{number_of, place_of}
use Rattle.numbers.proofs.Both.{both}
use Rattle.lists.specs.declared.lines.Entry.{Entry}
use Rattle.lists.specs.declared.lines.Fault.{Fault}
use Rattle.lists.specs.declared.lines.Fault.TheVariants.{Malformed, Sequence, Deaths}
use Rattle.lists.specs.Cut.{same_bytes}
use Rattle.lists.specs.Lines.{most_lines, header_of, fields_of, in_sequence, tested, line_of, refusal_at, Listed, ends_with, listed_from, listed_of}
use Rattle.lists.proofs.Tests.{line_good}
use Rattle.lists.proofs.Walks.{listed_end}
use Rattle.lists.proofs.Listings.{step_by}

-- 16, 17, and in a claims list 18
abbrev pub LineNumber : Bool → ℕ → Type 0
LineNumber claims number = (number ≡ 16) ⊎ ((number ≡ 17) ⊎ ((number ≡ 18) × (claims ≡ true)))

abbrev pub Ends : Bool → Result ℕ Refusal → Type 0
Ends claims (Ok n) = n ≤ most_lines
Ends claims (Err r) = LineNumber claims (number_of r) × (place_of r ≤ 122)

-- the place of a line's refusal is the line
pub told_at : (fault : Fault) (line : ℕ) → place_of (refusal_at fault line) ≡ line
told_at Malformed line = refl
told_at Sequence line = refl
told_at Deaths line = refl

fault_of : (claims : Bool) (k before : ℕ) (l : List ℕ) (fault : Fault) (n : ℕ) → line_of claims k before l ≡ Err fault → LineNumber claims (number_of (refusal_at fault n))
fault_of claims k before l fault n e = go (ltb k most_lines) (fields_of claims l) e
  where
    numbered : Fault → ℕ
    numbered f = number_of (refusal_at f n)

    last : (w : Entry) (t u : Bool) → (claims && ltb w.exposure w.count) ≡ u → (if t then (if u then Err Deaths else Ok w) else Err Sequence) ≡ Err fault → LineNumber claims (numbered fault)
    last w false u q e = let f : fault ≡ Sequence = cc in inr (inl (ap numbered f))
    last w true true q e = let f : fault ≡ Deaths = cc in inr (inr (ap numbered f, (both claims (ltb w.exposure w.count) q).0))
    last w true false q e = clash (cc)

    go : (t : Bool) (r : Option Entry) → (if t then tested claims k before r else Err Malformed) ≡ Err fault → LineNumber claims (numbered fault)
    go true (Some w) e = last w (in_sequence k before w.age) (claims && ltb w.exposure w.count) refl e
    go true None e = let f : fault ≡ Malformed = cc in inl (ap numbered f)
    go false r e = let f : fault ≡ Malformed = cc in inl (ap numbered f)

ends_same : (claims : Bool) {a b : Listed} → a ≡ b → Ends claims b.outcome → Ends claims a.outcome
ends_same claims e h = rw e h

lines_end : (claims : Bool) (k before : ℕ) (lines : List (List ℕ)) → k ≤ most_lines → Ends claims (listed_from claims k before lines).outcome
lines_end claims k before [] h = ends_same claims (listed_end claims k before) h
lines_end claims k before (l ∷ lines) h = go (line_of claims k before l) refl (λ age m. lines_end claims (k + 1) age lines m)
  where
    go : (x : Result Entry Fault) → line_of claims k before l ≡ x → ((age : ℕ) → k + 1 ≤ most_lines → Ends claims (listed_from claims (k + 1) age lines).outcome)
        → Ends claims (listed_from claims k before (l ∷ lines)).outcome
    go (Ok entry) q ih =
        ends_same claims (step_by claims k before l lines q) (ih entry.age (omega (arith, (line_good claims k before l entry.age entry.exposure entry.count q).few)))
    go (Err fault) q ih = ends_same claims (step_by claims k before l lines q) (fault_of claims k before l fault (k + 2) q, omega (arith, told_at fault (k + 2)))

pub list_ends : (claims : Bool) (all : List (List ℕ)) → Ends claims (listed_of claims all).outcome
list_ends claims [] = (inl refl, omega arith)
list_ends claims (header ∷ lines) = go (same_bytes header (header_of claims))
  where
    go : (t : Bool) → Ends claims (if t then listed_from claims 0 0 lines else ends_with (Err (BadLine 1))).outcome
    go true = lines_end claims 0 0 lines (omega arith)
    go false = (inl refl, omega arith)
