-- What the test of a row says of its counts.
use mathlib.Core.Path.{◌≡◌, refl, sym, ap, ◌∙◌, subst}
use mathlib.Core.Logic.{◌⊎◌, inl, inr}
use mathlib.Core.Bool.{Bool, true, false, cond, ◌||◌}
use mathlib.Core.List.{List, [], ◌∷◌}
use Prim.Native.Nat.{ℕ, zero, suc, ◌+◌, ◌*◌, ◌<◌, ◌≤◌}
use native.Mathlib.Omega.{arith}
use lib.Dec.{eqb, leb, ltb}
use lib.ListN.{length, drop, get_or}
use lib.Seq.{length-take-le, take_all, get_or-take, drop-drop}
use borrow.Author.Tests.{leb-true, leb-false, le-ltb, ltb-false, eq-eqb, eqb-true}
use Rattle.std.specs.Prelude.{Option, Some, None, Err}
use Rattle.slots.specs.Slots.{slot_words, lowest, pick, later, at_slot}
use Rattle.slots.proofs.Lowest.{first_word}
use Rattle.slots.proofs.Sizes.{at_inj, no_slot, found_below}
use Rattle.refusals.specs.declared.Refusal.{Refusal}
use Rattle.refusals.specs.declared.Refusal.TheVariants.{NoRoom, CountsNotAllowed}
use Rattle.refusals.specs.Refusals.{number_of, place_of}
use Rattle.counts.specs.Counts.{societies, most_slots, passed, all_slots, shelf_words, count_in, slots_of, is_wrong, lowest_wrong, Tested, test_row, test_length, and_then, test_shelf, row_in, start_in, Ready}
use Rattle.counts.specs.Given.{Counts}
use Rattle.counts.proofs.Below.{below_apart}

-- ---- a count
pub wrong_alone : (x : ℕ) (xs : List ℕ) → is_wrong (x ∷ []) ≡ is_wrong (x ∷ xs)
unfolding is_wrong
wrong_alone x xs = refl

module _ (row : List ℕ) (at : ℕ) where
  -- a count that is not wrong is 1 to 16
  right_count : is_wrong (drop at row) ≡ false → (1 ≤ get_or row at 0) × (get_or row at 0 ≤ most_slots)
  unfolding is_wrong
  right_count e = go (ltb (get_or row at 0) 1) refl (ltb most_slots (get_or row at 0)) refl (ap (λ (n : ℕ). ltb n 1 || ltb most_slots n) (sym (first_word row at)) ∙ e)
    where
      go : (a : Bool) → ltb (get_or row at 0) 1 ≡ a → (b : Bool) → ltb most_slots (get_or row at 0) ≡ b → a || b ≡ false → (1 ≤ get_or row at 0) × (get_or row at 0 ≤ most_slots)
      go false p false q f = (ltb-false (get_or row at 0) 1 p, ltb-false most_slots (get_or row at 0) q)
      go false p true q f = let z : ◌≡◌ {A = ℕ} 0 1 = cc in absurd (omega arith)
      go true p b q f = let z : ◌≡◌ {A = ℕ} 0 1 = cc in absurd (omega arith)

  -- and one that is wrong is not
  wrong_count : is_wrong (drop at row) ≡ true → (1 ≤ get_or row at 0) × (get_or row at 0 ≤ most_slots) → ⊥
  unfolding is_wrong
  wrong_count e h = clash (sym e ∙ sym (ap (λ (n : ℕ). ltb n 1 || ltb most_slots n) (sym (first_word row at))) ∙ rw (le-ltb (get_or row at 0) 1 h.0, le-ltb most_slots (get_or row at 0) h.1))
    where
      clash : true ≡ false → ⊥
      clash c = let z : ◌≡◌ {A = ℕ} 0 1 = cc in omega (arith, z)

-- ---- a search over slots of one word
module _ (test : List ℕ → Bool) where
  later_word : (i : ℕ) (s : List ℕ) → test (drop (suc i) s) ≡ test (drop i (drop 1 s))
  later_word i s = let e : 1 + i ≡ suc i = omega arith in ap test (ap (λ (k : ℕ). drop k s) (sym e) ∙ sym (drop-drop i 1 s))

  abbrev Fails : (c : ℕ) (s : List ℕ) → Type 0
  Fails c s = (p : ℕ) → p < c → test (drop p s) ≡ false

  fails_next : (c : ℕ) (s : List ℕ) → test s ≡ false → Fails c (drop 1 s) → Fails (suc c) s
  fails_next c s e k zero h = e
  fails_next c s e k (suc p) h = later_word p s ∙ k p (omega arith)

  -- where none passes, each fails
  none_passes : (c : ℕ) (s : List ℕ) → lowest test 1 c s ≡ None → Fails c s
  unfolding lowest
  none_passes zero s e = λ p h. absurd (omega arith)
  none_passes (suc c) s e = go (test s) refl (lowest test 1 c (drop 1 s)) refl e (none_passes c (drop 1 s))
    where
      go : (b : Bool) → test s ≡ b → (o : Option ℕ) → lowest test 1 c (drop 1 s) ≡ o → pick b (Some 0) (later o) ≡ None → (lowest test 1 c (drop 1 s) ≡ None → Fails c (drop 1 s)) → Fails (suc c) s
      go true q o r f others = absurd (no_slot 0 (sym f))
      go false q (Some n) r f others = absurd (no_slot (suc n) (sym f))
      go false q None r f others = fails_next c s q (others r)

  -- the one that is found passes, and each below it fails
  abbrev Passes : (p : ℕ) (s : List ℕ) → Type 0
  Passes p s = (test (drop p s) ≡ true) × Fails p s

  found_passes : (c : ℕ) (s : List ℕ) (p : ℕ) → lowest test 1 c s ≡ Some p → Passes p s
  unfolding lowest
  found_passes zero s p e = absurd (no_slot p e)
  found_passes (suc c) s p e = go (test s) refl (lowest test 1 c (drop 1 s)) refl e (found_passes c (drop 1 s))
    where
      go : (b : Bool) → test s ≡ b → (o : Option ℕ) → lowest test 1 c (drop 1 s) ≡ o → pick b (Some 0) (later o) ≡ Some p → ((n : ℕ) → lowest test 1 c (drop 1 s) ≡ Some n → Passes n (drop 1 s)) → Passes p s
      go true q o r f others = subst (λ (n : ℕ). Passes n s) (at_inj 0 p f) (q, λ i h. absurd (omega arith))
      go false q (Some n) r f others = let k = others n r in subst (λ (m : ℕ). Passes m s) (at_inj (suc n) p f) (later_word n s ∙ k.0, fails_next n s q k.1)
      go false q None r f others = absurd (no_slot p f)

-- a refusal is no pass
never : {A : Type 0} (r : Refusal) → ◌≡◌ {A = Tested} (Err r) passed → A
never r e = let z : ◌≡◌ {A = ℕ} 0 1 = cc in absurd (omega arith)

-- ---- a row that is right
pub record Allotted (row : List ℕ) : Type 0 where
  pub some : (s : ℕ) → s < societies → 1 ≤ count_in row s
  pub few : (s : ℕ) → s < societies → count_in row s ≤ most_slots
  pub total : slots_of row ≤ all_slots

-- its spans lie within the shelf
pub row_inside : (row : List ℕ) → Allotted row → (s : ℕ) → s < societies → start_in row s + slot_words * count_in row s ≤ shelf_words
row_inside row a s h = omega (arith, below_apart (count_in row) s societies h, a.total)

-- every count is 1 to 16
pub each_right : (row : List ℕ) → lowest_wrong row ≡ None → (s : ℕ) → s < societies → (1 ≤ count_in row s) × (count_in row s ≤ most_slots)
each_right row e s h = right_count row s (none_passes is_wrong societies row e s h)

-- the lowest society whose count is not
pub lowest_wrong_is : (row : List ℕ) (s : ℕ) → lowest_wrong row ≡ Some s
    → (s < societies) × ((1 ≤ count_in row s) × (count_in row s ≤ most_slots) → ⊥) × ((i : ℕ) → i < s → (1 ≤ count_in row i) × (count_in row i ≤ most_slots))
lowest_wrong_is row s e =
    let f = found_passes is_wrong societies row s e in
    (found_below is_wrong 1 societies row s e, wrong_count row s f.0, λ i h. right_count row i (f.1 i h))

pub right_allotted : (row : List ℕ) → test_row row ≡ passed → Allotted row
unfolding test_row
right_allotted row e = go (lowest_wrong row) refl (leb (slots_of row) all_slots) refl e
  where
    go : (o : Option ℕ) → lowest_wrong row ≡ o → (b : Bool) → leb (slots_of row) all_slots ≡ b → at_slot o (λ society. Err (CountsNotAllowed society)) (cond b passed (Err (CountsNotAllowed societies))) ≡ passed → Allotted row
    go (Some s) p b q f = never (CountsNotAllowed s) f
    go None p true q f = record { some = λ s h. (each_right row p s h).0; few = λ s h. (each_right row p s h).1; total = leb-true (slots_of row) all_slots q }
    go None p false q f = never (CountsNotAllowed societies) f

-- a fault is told at a society, or at 8
pub wrong_is : (row : List ℕ) (r : Refusal) → test_row row ≡ Err r → (place : ℕ) × (r ≡ CountsNotAllowed place) × (place ≤ societies)
unfolding test_row
wrong_is row r e = go (lowest_wrong row) refl (leb (slots_of row) all_slots) e
  where
    go : (o : Option ℕ) → lowest_wrong row ≡ o → (b : Bool) → at_slot o (λ society. Err (CountsNotAllowed society)) (cond b passed (Err (CountsNotAllowed societies))) ≡ Err r
        → (place : ℕ) × (r ≡ CountsNotAllowed place) × (place ≤ societies)
    go (Some s) p b f = let z : CountsNotAllowed s ≡ r = cc in (s, sym z, omega (arith, found_below is_wrong 1 societies row s p))
    go None p true f = never r (sym f)
    go None p false f = let z : CountsNotAllowed societies ≡ r = cc in (societies, sym z, omega arith)

-- with the number 22
pub wrong_number : (row : List ℕ) (r : Refusal) → test_row row ≡ Err r → number_of r ≡ 22
wrong_number row r e = ap number_of (wrong_is row r e).1

-- ---- a row has eight counts
some_inside : (i : ℕ) (xs : List ℕ) → 1 ≤ get_or xs i 0 → i < length xs
some_inside i [] h = absurd (omega arith)
some_inside zero (x ∷ xs) h = omega arith
some_inside (suc i) (x ∷ xs) h = let k = some_inside i xs h in omega arith

pub right_eight : (counts : List ℕ) → test_row (row_in counts) ≡ passed → length (row_in counts) ≡ societies
right_eight counts e = go (leb societies (length counts)) refl (some_inside 7 (row_in counts) ((right_allotted (row_in counts) e).some 7 (omega arith)))
  where
    go : (b : Bool) → leb societies (length counts) ≡ b → 7 < length (row_in counts) → length (row_in counts) ≡ societies
    go true q k = length-take-le societies counts (leb-true societies (length counts) q)
    go false q k =
        let s = leb-false societies (length counts) q in
        absurd (omega (arith, ap length (take_all societies counts (omega arith))))

-- ---- counts that may be added up
pub counts_right : (row : List ℕ) → length row ≡ societies → lowest_wrong row ≡ None → Counts row societies
counts_right row len e = record { inside = omega arith; few = omega arith; small = λ i k. (each_right row e i k).1 }

pub counts_allotted : (row : List ℕ) → length row ≡ societies → Allotted row → (s : ℕ) → s ≤ societies → Counts row s
counts_allotted row len a s h = record { inside = omega arith; few = h; small = λ i k. a.few i (omega arith) }

-- ---- the test of a shelf
pub length_right : (shelf : List ℕ) → length shelf ≡ shelf_words → test_length shelf ≡ passed
length_right shelf e = ap {B = Tested} (λ (b : Bool). cond b passed (Err (NoRoom shelf_words))) (eq-eqb (length shelf) shelf_words e)

module _ (row shelf : List ℕ) where
  pub shelf_long : length shelf ≡ shelf_words → test_shelf row shelf ≡ test_row row
  unfolding test_shelf
  shelf_long e = ap {B = Tested} (λ (o : Tested). and_then o (test_row row)) (length_right shelf e)

  pub shelf_right : length shelf ≡ shelf_words → test_row row ≡ passed → test_shelf row shelf ≡ passed
  shelf_right e r = shelf_long e ∙ r

  pub shelf_wrong : length shelf ≡ shelf_words → (r : Refusal) → test_row row ≡ Err r → test_shelf row shelf ≡ Err r
  shelf_wrong e r w = shelf_long e ∙ w

  -- a shelf that passes has all its words, and its row is right
  pub passed_both : test_shelf row shelf ≡ passed → (length shelf ≡ shelf_words) × (test_row row ≡ passed)
  unfolding test_shelf
  passed_both e = go (eqb (length shelf) shelf_words) refl (test_row row) refl e
    where
      go : (b : Bool) → eqb (length shelf) shelf_words ≡ b → (o : Tested) → test_row row ≡ o → and_then (cond b passed (Err (NoRoom shelf_words))) o ≡ passed → (length shelf ≡ shelf_words) × (test_row row ≡ passed)
      go true p o q f = (eqb-true (length shelf) shelf_words p, q ∙ f)
      go false p o q f = never (NoRoom shelf_words) f

  -- one that does not is refused with 13, or with 22 at a society or at 8
  pub refused_either : (r : Refusal) → test_shelf row shelf ≡ Err r → ((number_of r ≡ 13) × (place_of r ≡ shelf_words)) ⊎ ((number_of r ≡ 22) × (place_of r ≤ societies))
  unfolding test_shelf
  refused_either r e = go (eqb (length shelf) shelf_words) e
    where
      go : (b : Bool) → and_then (cond b passed (Err (NoRoom shelf_words))) (test_row row) ≡ Err r → ((number_of r ≡ 13) × (place_of r ≡ shelf_words)) ⊎ ((number_of r ≡ 22) × (place_of r ≤ societies))
      go true f = let w = wrong_is row r f in inr (ap number_of w.1, omega (arith, ap place_of w.1, w.2))
      go false f = let z : NoRoom shelf_words ≡ r = cc in inl (sym (ap number_of z), sym (ap place_of z))

-- so its number is not 0
pub refused_some : (row shelf : List ℕ) (r : Refusal) → test_shelf row shelf ≡ Err r → number_of r ≡ 0 → ⊥
refused_some row shelf r e z = go (refused_either row shelf r e)
  where
    go : ((number_of r ≡ 13) × (place_of r ≡ shelf_words)) ⊎ ((number_of r ≡ 22) × (place_of r ≤ societies)) → ⊥
    go (inl h) = omega (arith, h.0)
    go (inr h) = omega (arith, h.0)

-- it goes by the row and by the shelf's length alone
pub tested_alike : (row xs ys : List ℕ) → length xs ≡ length ys → test_shelf row xs ≡ test_shelf row ys
unfolding test_shelf
tested_alike row xs ys e = ap {B = Tested} (λ (n : ℕ). and_then (cond (eqb n shelf_words) passed (Err (NoRoom shelf_words))) (test_row row)) e

-- ---- a shelf that is ready
pub passed_ready : (shelf : List ℕ) → test_shelf (row_in shelf) shelf ≡ passed → Ready shelf
passed_ready shelf e = let b = passed_both (row_in shelf) shelf e in record { long = b.0; row = b.1 }

pub ready_passed : (shelf : List ℕ) → Ready shelf → test_shelf (row_in shelf) shelf ≡ passed
ready_passed shelf r = shelf_right (row_in shelf) shelf r.long r.row

module _ (shelf : List ℕ) (r : Ready shelf) (s : ℕ) (h : s < societies) where
  pub ready_counts : Counts (row_in shelf) s
  ready_counts = counts_allotted (row_in shelf) (length-take-le societies shelf (omega (arith, r.long))) (right_allotted (row_in shelf) r.row) s (omega arith)

  pub count_at : get_or shelf s 0 ≡ count_in (row_in shelf) s
  count_at = sym (rw get_or-take)

  pub count_some : 0 < count_in (row_in shelf) s
  count_some = (right_allotted (row_in shelf) r.row).some s h

  pub span_inside : start_in (row_in shelf) s + slot_words * count_in (row_in shelf) s ≤ shelf_words
  span_inside = row_inside (row_in shelf) (right_allotted (row_in shelf) r.row) s h
