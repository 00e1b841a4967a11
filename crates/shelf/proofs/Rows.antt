-- The leading row and the spans: a row that is right has a lawful layout, and no call but clearing changes it.
use mathlib.Core.Path.{◌≡◌, refl}
use mathlib.Core.Bool.{Bool, true, false, cond}
use mathlib.Core.List.{List}
use Prim.Native.Nat.{ℕ, ◌≤◌}
use native.Mathlib.Omega.{arith}
use lib.Dec.{leb}
use lib.ListN.{length}
use borrow.Author.Tests.{leb-true}
use Rattle.counts.specs.Counts.{societies, shelf_words, count_in, passed, test_row, row_in, Ready}
use Rattle.counts.proofs.Below.{below_apart}
use Rattle.counts.proofs.Tests.{right_allotted, row_inside}
use Rattle.shelf.specs.Shelf.{rowed, layout_in, size_of, span_of, on_part, on_society}
use Rattle.shelf.proofs.Parts.{on_before}
use Rattle.shelf.proofs.Spans.{Lawful}

pub rowed_lawful : (row : List ℕ) → test_row row ≡ passed → Lawful (rowed row)
rowed_lawful row e =
    let r = right_allotted row e in
    let c = count_in row in
    record {
      wide = omega arith;
      some = λ s h. r.some s (omega arith);
      within = λ s h. row_inside row r s (omega arith);
      apart = λ s t h k. omega (arith, below_apart c s t h);
    }

-- ---- a shelf that is ready
module _ (shelf : List ℕ) (r : Ready shelf) where
  pub ready_lawful : Lawful (layout_in shelf)
  ready_lawful = rowed_lawful (row_in shelf) r.row

-- ---- no call but clearing changes the row
pub row_stays : (row : List ℕ) → test_row row ≡ passed → (s : ℕ) (f : List ℕ → List ℕ) (xs : List ℕ) → length xs ≡ shelf_words
    → (s ≤ 7 → length (f (span_of (rowed row) s xs)) ≡ size_of (rowed row) s) → row_in (on_society (rowed row) s f xs) ≡ row_in xs
unfolding on_society
row_stays row e s f xs len same = go (leb s 7) refl
  where
    go : (b : Bool) → leb s 7 ≡ b → row_in (cond b (on_part ((rowed row).start s) (size_of (rowed row) s) f xs) xs) ≡ row_in xs
    go true q =
        let h = leb-true s 7 q in
        on_before ((rowed row).start s) (size_of (rowed row) s) f xs (omega (arith, (rowed_lawful row e).within s h)) (same h) 0 societies (omega arith)
    go false q = refl
