-- The eight spans of a shelf, for any layout in which they lie apart: what is done to one society's leaves every other's as it was.
use mathlib.Core.Path.{◌≡◌, refl, ap, ◌∙◌}
use mathlib.Core.Bool.{Bool, true, false, cond}
use mathlib.Core.List.{List}
use Prim.Native.Nat.{ℕ, ◌+◌, ◌<◌, ◌≤◌}
use native.Mathlib.Omega.{arith}
use lib.Dec.{leb, ltb}
use lib.ListN.{length, drop, length-drop}
use lib.Seq.{length-take-le}
use borrow.Author.Tests.{le-leb, leb-true, ltb-true, ltb-false}
use Rattle.shelf.specs.Shelf.{Layout, size_of, span_of, on_part, on_society, from_society}
use Rattle.slots.specs.Slots.{slot_words}
use Rattle.checked.specs.Answers.{Reply, refusal}
use Rattle.shelf.proofs.Parts.{on_length, on_own, on_before, on_after}

-- the spans of a layout lie within the shelf, one after the other, and hold at least one slot, in which a table has room
pub record Lawful (l : Layout) : Type 0 where
  pub wide : slot_words ≤ l.words
  pub some : (s : ℕ) → s ≤ 7 → 0 < l.count s
  pub within : (s : ℕ) → s ≤ 7 → l.start s + size_of l s ≤ l.total
  pub apart : (s t : ℕ) → s < t → t ≤ 7 → l.start s + size_of l s ≤ l.start t

module _ (l : Layout) (ok : Lawful l) where
  pub span_length : (s : ℕ) (xs : List ℕ) → length xs ≡ l.total → s ≤ 7 → length (span_of l s xs) ≡ size_of l s
  span_length s xs len h = length-take-le (size_of l s) (drop (l.start s) xs) (rw length-drop (omega (arith, ok.within s h)))

  module _ (s : ℕ) (f : List ℕ → List ℕ) (xs : List ℕ) (len : length xs ≡ l.total) (same : s ≤ 7 → length (f (span_of l s xs)) ≡ size_of l s) where
    long : s ≤ 7 → l.start s + size_of l s ≤ length xs
    long h = omega (arith, ok.within s h)

    pub society_length : length (on_society l s f xs) ≡ l.total
    unfolding on_society
    society_length = go (leb s 7) refl
      where
        go : (b : Bool) → leb s 7 ≡ b → length (cond b (on_part (l.start s) (size_of l s) f xs) xs) ≡ l.total
        go true e = on_length (l.start s) (size_of l s) f xs (long (leb-true s 7 e)) (same (leb-true s 7 e)) ∙ len
        go false e = len

    -- its own span becomes f of what it was
    pub own : s ≤ 7 → span_of l s (on_society l s f xs) ≡ f (span_of l s xs)
    unfolding on_society
    own h =
        ap (λ (b : Bool). span_of l s (cond b (on_part (l.start s) (size_of l s) f xs) xs)) (le-leb s 7 h) ∙ on_own (l.start s) (size_of l s) f xs (long h) (same h)

    -- every other span stays
    pub other : (t : ℕ) → t ≤ 7 → (t ≡ s → ⊥) → span_of l t (on_society l s f xs) ≡ span_of l t xs
    unfolding on_society
    other t m ne = go (leb s 7) refl (ltb t s) refl
      where
        go : (b : Bool) → leb s 7 ≡ b → (o : Bool) → ltb t s ≡ o → span_of l t (cond b (on_part (l.start s) (size_of l s) f xs) xs) ≡ span_of l t xs
        go true e true k = let h = leb-true s 7 e in on_before (l.start s) (size_of l s) f xs (long h) (same h) (l.start t) (size_of l t) (ok.apart t s (ltb-true t s k) h)
        go true e false k =
            let h = leb-true s 7 e in
            let n = ltb-false t s k in
            let q : s < t = omega (arith, ne) in
            on_after (l.start s) (size_of l s) f xs (long h) (same h) (l.start t) (size_of l t) (ok.apart s t q m)
        go false e o k = refl

-- what is said of a society's span is said of it alone
pub from_same : (l : Layout) (s : ℕ) (f : List ℕ → Reply) (xs ys : List ℕ) → (s ≤ 7 → span_of l s xs ≡ span_of l s ys) → from_society l s f xs ≡ from_society l s f ys
unfolding from_society
from_same l s f xs ys a = go (leb s 7) refl
  where
    go : (b : Bool) → leb s 7 ≡ b → cond b (f (span_of l s xs)) (refusal 11 0) ≡ cond b (f (span_of l s ys)) (refusal 11 0)
    go true e = ap {B = Reply} f (a (leb-true s 7 e))
    go false e = refl
