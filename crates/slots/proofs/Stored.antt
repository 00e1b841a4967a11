-- A slot whose parts were written one after the other: its head, then twice words with zeros after them.
use mathlib.Core.Path.{◌≡◌, refl, sym, ap, ap₂, ◌∙◌}
use mathlib.Core.List.{List, [], ◌++◌, append-nil, append_assoc}
use Prim.Native.Nat.{ℕ, ◌+◌, ◌-◌, ◌≤◌}
use native.Mathlib.Omega.{arith}
use lib.ListN.{length, take, drop, replicate, length-drop, length-append, length-replicate, drop_of_length-le}
use lib.Seq.{length-take-le, take_all, take_at, drop_at, sets, sets-eq}
use borrow.Rule.Slice.PartMut.{put_mid, mid_of, post_of}
use Rattle.slots.specs.Slots.{head_size, most_cells, values_end, head_of, padded, slot_of}

-- ---- the part that follows a
module _ {A : Type 0} (a rest : List A) (i : ℕ) (e : length a ≡ i) (k : ℕ) where
  pub put_next : (y : List A) → put_mid i k (a ++ rest) y ≡ (a ++ y) ++ drop k rest
  put_next y =
      ap (λ (r : List A). r ++ (y ++ post_of i k (a ++ rest))) (take_at a rest i e)
      ∙ ap (λ (r : List A). a ++ (y ++ drop k r)) (drop_at a rest i e)
      ∙ sym (append_assoc a y (drop k rest))

  pub mid_next : mid_of i k (a ++ rest) ≡ take k rest
  mid_next = ap (take k) (drop_at a rest i e)

-- the last part: nothing follows it
pub put_last : {A : Type 0} (a rest : List A) (i k : ℕ) → length a ≡ i → length rest ≤ k → (y : List A) → put_mid i k (a ++ rest) y ≡ a ++ y
put_last {A} a rest i k e h y = put_next a rest i e k y ∙ ap (λ (r : List A). (a ++ y) ++ r) (drop_of_length-le rest {i = k} h) ∙ append-nil (a ++ y)

pub mid_last : {A : Type 0} (a rest : List A) (i k : ℕ) → length a ≡ i → length rest ≤ k → mid_of i k (a ++ rest) ≡ rest
mid_last a rest i k e h = mid_next a rest i e k ∙ take_all k rest h

-- ---- stores over all of a list
pub stored_all : (l h : List ℕ) → length l ≡ length h → sets l 0 h ≡ h
stored_all l h e =
    sets-eq h l 0 (omega arith) ∙ ap (λ (r : List ℕ). h ++ r) (drop_of_length-le l {i = 0 + length h} (omega arith)) ∙ append-nil h

-- ---- words, and zeros after them
pub padded_length : (k : ℕ) (v : List ℕ) → length v ≤ k → length (padded k v) ≡ k
padded_length k v h = length-append v (replicate (k - length v) 0) ∙ ap (λ (n : ℕ). length v + n) (length-replicate (k - length v) 0) ∙ omega arith

-- ---- a slot of w words: its head, its values and its multipliers were put, one after the other
module _ (w : ℕ) (l : List ℕ) (len : length l ≡ w) (wide : values_end ≤ w) (h : List ℕ) (hl : length h ≡ head_size) where
  abbrev headed : List ℕ
  headed = put_mid 0 head_size l h

  headed_is : headed ≡ h ++ drop head_size l
  headed_is = put_next [] l 0 refl head_size h

  values_room : length (mid_of head_size most_cells headed) ≡ most_cells
  values_room =
      ap (λ (x : List ℕ). length (mid_of head_size most_cells x)) headed_is ∙ ap length (mid_next h (drop head_size l) head_size hl most_cells)
      ∙ length-take-le most_cells (drop head_size l) (rw length-drop (omega arith))

  module _ (p : List ℕ) (pl : length p ≡ most_cells) where
    abbrev valued : List ℕ
    valued = put_mid head_size most_cells headed p

    valued_is : valued ≡ (h ++ p) ++ drop most_cells (drop head_size l)
    valued_is = ap (λ (x : List ℕ). put_mid head_size most_cells x p) headed_is ∙ put_next h (drop head_size l) head_size hl most_cells p

    front : length (h ++ p) ≡ values_end
    front = length-append h p ∙ ap₂ ◌+◌ hl pl

    left : length (drop most_cells (drop head_size l)) ≡ w - values_end
    left = rw (length-drop, length-drop) (omega arith)

    multipliers_room : length (mid_of values_end (w - values_end) valued) ≡ w - values_end
    multipliers_room =
        ap (λ (x : List ℕ). length (mid_of values_end (w - values_end) x)) valued_is
        ∙ ap length (mid_last (h ++ p) (drop most_cells (drop head_size l)) values_end (w - values_end) front (omega (arith, left))) ∙ left

    parts_are : (q : List ℕ) → put_mid values_end (w - values_end) valued q ≡ h ++ (p ++ q)
    parts_are q =
        ap (λ (x : List ℕ). put_mid values_end (w - values_end) x q) valued_is
        ∙ put_last (h ++ p) (drop most_cells (drop head_size l)) values_end (w - values_end) front (omega (arith, left)) q ∙ append_assoc h p q

-- so it holds the table
pub table_is : (w : ℕ) (l : List ℕ) → length l ≡ w → values_end ≤ w → (job f g : ℕ) (v y : List ℕ) → length v ≤ most_cells
    → (h : List ℕ) → h ≡ head_of (length v) job f g (length y)
    → (p : List ℕ) → p ≡ padded (length (mid_of head_size most_cells (put_mid 0 head_size l h))) v
    → (q : List ℕ) → q ≡ padded (length (mid_of values_end (w - values_end) (put_mid head_size most_cells (put_mid 0 head_size l h) p))) y
    → put_mid values_end (w - values_end) (put_mid head_size most_cells (put_mid 0 head_size l h) p) q ≡ slot_of w job f g v y
unfolding slot_of
table_is w l len wide job f g v y fits h eh p ep q eq =
    let hl : length h ≡ head_size = ap length eh in
    let pp : p ≡ padded most_cells v = ep ∙ ap (λ (k : ℕ). padded k v) (values_room w l len wide h hl) in
    let pl : length p ≡ most_cells = ap length pp ∙ padded_length most_cells v fits in
    let qq : q ≡ padded (w - values_end) y = eq ∙ ap (λ (k : ℕ). padded k y) (multipliers_room w l len wide h hl p pl) in
    parts_are w l len wide h hl p pl q ∙ ap (λ (x : List ℕ). x ++ (p ++ q)) eh ∙ ap₂ (λ (a b : List ℕ). head_of (length v) job f g (length y) ++ (a ++ b)) pp qq
