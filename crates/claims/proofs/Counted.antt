-- What the test of counts says, from its answer: the counts are allowed, or wrong at a place; and they are not both.
use Prim.Native.Nat.{ℕ}
use mathlib.Core.Path.{◌≡◌, refl, sym, ap, ◌∙◌}
use mathlib.Core.Bool.{Bool, true, false, cond}
use mathlib.Core.List.{List}
use native.Mathlib.Omega.{arith}
use lib.Dec.{leb}
use borrow.Author.Tests.{leb-false}
use Rattle.std.specs.Prelude.{Option, Some, None}
use Rattle.slots.specs.Slots.{at_slot}
use Rattle.std.specs.Prelude.{Err}
use Rattle.refusals.specs.declared.Refusal.TheVariants.{CountsNotAllowed}
use Rattle.counts.specs.Counts.{passed, societies, all_slots, slots_of, lowest_wrong, test_row}
use Rattle.counts.proofs.Tests.{each_right, lowest_wrong_is, right_allotted}
use Rattle.claims.specs.CountsPromises.{CountsAllowed, CountsWrong, a_count, the_total}

pub allowed_of : (row : List ℕ) → test_row row ≡ passed → CountsAllowed row
allowed_of row e = let a = right_allotted row e in record { each = λ s h. (a.some s h, a.few s h); total = a.total }

pub wrong_of : (row : List ℕ) (place : ℕ) → test_row row ≡ Err (CountsNotAllowed place) → CountsWrong row place
unfolding test_row
wrong_of row place e = go (lowest_wrong row) refl (leb (slots_of row) all_slots) refl e
  where
    go : (o : Option ℕ) → lowest_wrong row ≡ o → (b : Bool) → leb (slots_of row) all_slots ≡ b → at_slot o (λ society. Err (CountsNotAllowed society)) (cond b passed (Err (CountsNotAllowed societies))) ≡ Err (CountsNotAllowed place) → CountsWrong row place
    go (Some s) p b q f =
        let z : s ≡ place = cc in
        let w = lowest_wrong_is row place (p ∙ ap {B = Option ℕ} (λ (n : ℕ). Some n) z) in
        a_count (record { among = w.0; itself = w.1; lower = w.2 })
    go None p true q f = let z : ◌≡◌ {A = ℕ} 0 1 = cc in absurd (omega arith)
    go None p false q f = let z : societies ≡ place = cc in the_total (each_right row p) (leb-false (slots_of row) all_slots q) (sym z)

pub not_both : (row : List ℕ) (place : ℕ) → CountsAllowed row → CountsWrong row place → ⊥
not_both row place a (a_count w) = w.itself (a.each place w.among)
not_both row place a (the_total each many e) = omega (arith, a.total)
