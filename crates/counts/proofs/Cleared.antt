-- A cleared shelf: its row, its spans, the rest, and that copying the counts and zeroing the spans makes it.
use mathlib.Core.Path.{◌≡◌, sym, ap, ◌∙◌}
use mathlib.Core.List.{List, ◌++◌, append_assoc}
use Prim.Native.Nat.{ℕ, ◌+◌, ◌-◌, ◌*◌, ◌<◌, ◌≤◌}
use native.Mathlib.Omega.{arith}
use lib.ListN.{length, take, drop, replicate, length-append, length-drop, length-replicate, replicate-append-replicate}
use lib.Seq.{length-take-le, take_at, drop_at, drop-drop, take-append-le, drop-append-le, drop-append-add}
use borrow.Rule.Slice.PartMut.{put_mid, mid_of}
use Rattle.slots.specs.Slots.{slot_words}
use Rattle.slots.proofs.Stored.{put_next, mid_next}
use Rattle.counts.specs.Counts.{societies, all_slots, shelf_words, count_in, slots_below, slots_of, passed, test_row, row_in, start_in, rest_of, cleared}
use Rattle.counts.proofs.Below.{below_apart}
use Rattle.counts.proofs.Tests.{right_allotted}

-- ---- parts of zeros
take_zeros : (k n : ℕ) → k ≤ n → take k (replicate {A = ℕ} n 0) ≡ replicate k 0
take_zeros k n h =
    let e : k + (n - k) ≡ n = omega arith in
    ap (λ (m : ℕ). take k (replicate {A = ℕ} m 0)) (sym e) ∙ ap (take k) (sym (replicate-append-replicate {A = ℕ} k (n - k) 0)) ∙ take_at (replicate k 0) (replicate (n - k) 0) k (length-replicate {A = ℕ} k 0)

drop_zeros : (k n : ℕ) → k ≤ n → drop k (replicate {A = ℕ} n 0) ≡ replicate (n - k) 0
drop_zeros k n h =
    let e : k + (n - k) ≡ n = omega arith in
    ap (λ (m : ℕ). drop k (replicate {A = ℕ} m 0)) (sym e) ∙ ap (drop k) (sym (replicate-append-replicate {A = ℕ} k (n - k) 0)) ∙ drop_at (replicate k 0) (replicate (n - k) 0) k (length-replicate {A = ℕ} k 0)

-- ---- a shelf cleared with a row that is right
module _ (row : List ℕ) (len : length row ≡ societies) (e : test_row row ≡ passed) (xs : List ℕ) (long : length xs ≡ shelf_words) where
  abbrev zeros : List ℕ
  zeros = replicate (slot_words * slots_of row) 0

  few : slots_of row ≤ all_slots
  few = (right_allotted row e).total

  pub cleared_length : length (cleared row xs) ≡ shelf_words
  unfolding cleared
  cleared_length =
      omega (arith, few, length-append row (zeros ++ rest_of row xs), length-append zeros (rest_of row xs), length-replicate {A = ℕ} (slot_words * slots_of row) 0, length-drop (start_in row societies) xs)

  pub cleared_row : row_in (cleared row xs) ≡ row
  unfolding cleared
  cleared_row = take_at row (zeros ++ rest_of row xs) societies len

  pub cleared_span : (s : ℕ) → s < societies → take (slot_words * count_in row s) (drop (start_in row s) (cleared row xs)) ≡ replicate (slot_words * count_in row s) 0
  unfolding cleared
  cleared_span s h =
      let c = count_in row in
      let m = slot_words * slots_below c s in
      let k = slot_words * c s in
      let n = slot_words * slots_of row in
      let rest = rest_of row xs in
      let fits : m + k ≤ n = omega (arith, below_apart c s societies h) in
      let z : length zeros ≡ n = length-replicate {A = ℕ} n 0 in
      let d : drop (societies + m) (row ++ (zeros ++ rest)) ≡ drop m (zeros ++ rest) = ap (λ (x : ℕ). drop (x + m) (row ++ (zeros ++ rest))) (sym len) ∙ drop-append-add row (zeros ++ rest) m in
      let f : drop m zeros ≡ replicate (n - m) 0 = drop_zeros m n (omega arith) in
      let l : length (drop m zeros) ≡ n - m = ap length f ∙ length-replicate {A = ℕ} (n - m) 0 in
      ap (take k) (d ∙ drop-append-le m zeros rest (omega arith)) ∙ take-append-le k (drop m zeros) rest (omega arith)
      ∙ ap (take k) f ∙ take_zeros k (n - m) (omega arith)

  pub cleared_rest : rest_of row (cleared row xs) ≡ rest_of row xs
  unfolding cleared
  cleared_rest =
      let n = slot_words * slots_of row in
      let rest = rest_of row xs in
      ap (λ (x : ℕ). drop (x + n) (row ++ (zeros ++ rest))) (sym len) ∙ drop-append-add row (zeros ++ rest) n ∙ drop_at zeros rest n (length-replicate {A = ℕ} n 0)

-- ---- the row was copied over the front, and then the spans were zeroed
pub cleared_is : (row xs a zs : List ℕ) (n e : ℕ) → length row ≡ societies → length xs ≡ shelf_words → slots_of row ≤ all_slots → n ≡ slots_of row → e ≡ societies + slot_words * n
    → a ≡ put_mid 0 societies xs row → zs ≡ replicate (length (mid_of societies (e - societies) a)) 0 → put_mid societies (e - societies) a zs ≡ cleared row xs
unfolding cleared
cleared_is row xs a zs n e len long few en ee ea ez =
    let k = slot_words * slots_of row in
    let rest = drop societies xs in
    let front : a ≡ row ++ rest = ea in
    let size : e - societies ≡ k = ap (λ (m : ℕ). m - societies) (ee ∙ ap (λ (m : ℕ). societies + slot_words * m) en) ∙ omega arith in
    let mid : length (mid_of societies k a) ≡ k =
    ap (λ (x : List ℕ). length (mid_of societies k x)) front ∙ ap length (mid_next row rest societies len k) ∙ length-take-le k rest (rw length-drop (omega arith)) in
    ap (λ (m : ℕ). put_mid societies m a zs) size ∙ ap (λ (x : List ℕ). put_mid societies k x zs) front ∙ put_next row rest societies len k zs
    ∙ ap (λ (x : List ℕ). (row ++ x) ++ drop k rest) (ez ∙ ap (λ (m : ℕ). replicate (length (mid_of societies m a)) 0) size ∙ ap (λ (m : ℕ). replicate m 0) mid)
    ∙ append_assoc row (replicate k 0) (drop k rest) ∙ ap (λ (x : List ℕ). row ++ (replicate k 0 ++ x)) (drop-drop k societies xs)
