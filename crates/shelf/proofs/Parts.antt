-- Parts of words: what is done to one part leaves every part apart from it as it was.
use mathlib.Core.Path.{◌≡◌, sym, ap, ◌∙◌}
use mathlib.Core.List.{List, ◌++◌, append_assoc}
use Prim.Native.Nat.{ℕ, ◌+◌, ◌-◌, ◌≤◌}
use native.Mathlib.Omega.{arith}
use lib.ListN.{length, take, drop, length-append, length-drop, take-append-drop}
use lib.Seq.{take_at, drop_at, length-take-le, take-append-le, drop-append-le, drop-drop}
use borrow.Rule.Slice.PartMut.{mid_of, post_of, same_len_mid}
use Rattle.shelf.specs.Shelf.{on_part}

module _ (a k : ℕ) (f : List ℕ → List ℕ) (xs : List ℕ) (long : a + k ≤ length xs) (same : length (f (mid_of a k xs)) ≡ k) where
  part_length : length (mid_of a k xs) ≡ k
  part_length = length-take-le k (drop a xs) (rw length-drop (omega arith))

  front_length : length (take a xs) ≡ a
  front_length = length-take-le a xs (omega arith)

  pub on_length : length (on_part a k f xs) ≡ length xs
  on_length = same_len_mid a k xs (f (mid_of a k xs)) (same ∙ sym part_length)

  -- the part itself becomes f of what it was
  pub on_own : take k (drop a (on_part a k f xs)) ≡ f (mid_of a k xs)
  on_own =
      ap (take k) (drop_at (take a xs) (f (mid_of a k xs) ++ post_of a k xs) a front_length) ∙ take_at (f (mid_of a k xs)) (post_of a k xs) k same

  -- a part before it
  before : (b m : ℕ) → b + m ≤ a → (r : List ℕ) → take m (drop b (take a xs ++ r)) ≡ take m (drop b (take a xs))
  before b m h r =
      let l = front_length in
      let d : length (drop b (take a xs)) ≡ a - b = length-drop b (take a xs) ∙ ap (λ (n : ℕ). n - b) l in
      ap (take m) (drop-append-le b (take a xs) r (omega arith)) ∙ take-append-le m (drop b (take a xs)) r (omega arith)

  pub on_before : (b m : ℕ) → b + m ≤ a → take m (drop b (on_part a k f xs)) ≡ take m (drop b xs)
  on_before b m h =
      before b m h (f (mid_of a k xs) ++ post_of a k xs) ∙ sym (before b m h (drop a xs)) ∙ ap (λ (l : List ℕ). take m (drop b l)) (take-append-drop a xs)

  -- a part after it
  beyond : drop (a + k) (on_part a k f xs) ≡ drop (a + k) xs
  beyond =
      let y = f (mid_of a k xs) in
      let l : length (take a xs ++ y) ≡ a + k = length-append (take a xs) y ∙ ap (λ (n : ℕ). n + length y) front_length ∙ ap (λ (n : ℕ). a + n) same in
      ap (drop (a + k)) (sym (append_assoc (take a xs) y (post_of a k xs))) ∙ drop_at (take a xs ++ y) (post_of a k xs) (a + k) l ∙ drop-drop k a xs

  pub on_after : (b m : ℕ) → a + k ≤ b → take m (drop b (on_part a k f xs)) ≡ take m (drop b xs)
  on_after b m h =
      let e : a + k + (b - (a + k)) ≡ b = omega arith in
      let go : (l : List ℕ) → drop b l ≡ drop (b - (a + k)) (drop (a + k) l) = λ l. ap (λ (n : ℕ). drop n l) (sym e) ∙ sym (drop-drop (b - (a + k)) (a + k) l) in
      ap (take m) (go (on_part a k f xs) ∙ ap (drop (b - (a + k))) beyond ∙ sym (go xs))
