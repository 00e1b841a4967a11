-- A span after a part of it was lent to a move: a slot put, every slot moved down, one slot dropped. For any w.
use mathlib.Core.Path.{◌≡◌, refl, sym, ap, ◌∙◌}
use mathlib.Core.List.{List, [], ◌++◌, append-nil, append_assoc}
use Prim.Native.Nat.{ℕ, ◌+◌, ◌-◌, ◌*◌, ◌≤◌}
use native.Mathlib.Omega.{arith}
use lib.ListN.{length, take, drop, replicate, length-drop, length-append, drop_of_length-le}
use lib.Seq.{length-take-le, take_all, drop-drop, drop_at, paste}
use Rattle.std.proofs.lemmas.List.Edits.{length-paste}
use borrow.Rule.Slice.PartMut.{put_mid, mid_of, post_of}
use Rattle.slots.specs.Slots.{put_slot, dropped_slot, pushed}
use Rattle.slots.proofs.Sizes.{slot_end}
use Rattle.slots.proofs.Stored.{put_last}

pub put_is : (w p : ℕ) (s x y : List ℕ) → y ≡ x → put_mid (w * p) (w * p + w - w * p) s y ≡ put_slot w p x s
unfolding put_slot
put_is w p s x y e =
    let k : w * p + w - w * p ≡ w = omega arith in
    ap (λ (n : ℕ). take (w * p) s ++ (y ++ drop n (drop (w * p) s))) k
    ∙ ap (λ (r : List ℕ). take (w * p) s ++ (r ++ drop w (drop (w * p) s))) e
    ∙ ap (λ (r : List ℕ). take (w * p) s ++ (x ++ r)) (drop-drop w (w * p) s ∙ ap (λ (n : ℕ). drop n s) (sym (slot_end w p)))

-- ---- the words from a + w on moved down by w, and y put for the last w
module _ (w a : ℕ) (s : List ℕ) (fits : a + w ≤ length s) where
  abbrev front : List ℕ
  front = take a s ++ drop (a + w) s

  front_length : length front ≡ length s - w
  front_length =
      let t : length (take a s) ≡ a = length-take-le a s (omega arith) in
      omega (arith, length-append (take a s) (drop (a + w) s), length-drop (a + w) s)

  pub cut : paste s a (drop (a + w) s) (length s - (a + w)) ≡ front ++ drop (length s - w) s
  cut =
      let e : a + (length s - (a + w)) ≡ length s - w = omega arith in
      ap (λ (r : List ℕ). take a s ++ r ++ drop (a + (length s - (a + w))) s) (take_all (length s - (a + w)) (drop (a + w) s) (rw length-drop (omega arith)))
      ∙ ap (λ (n : ℕ). front ++ drop n s) e

  pub cut_length : length (paste s a (drop (a + w) s) (length s - (a + w))) ≡ length s
  cut_length = length-paste s a (drop (a + w) s) (length s - (a + w)) (omega arith) (rw length-drop (omega arith))

  -- ... where the words from a on were lent to the move
  lent : mid_of a (length s - a) s ≡ drop a s
  lent = take_all (length s - a) (drop a s) (rw length-drop (omega arith))

  pub lent_length : w ≤ length (mid_of a (length s - a) s)
  lent_length = omega (arith, ap length lent, length-drop a s)

  abbrev after : List ℕ → List ℕ
  after l = drop w l ++ drop (length l - w) l

  pub lent_moved : (ys : List ℕ) → ys ≡ after (mid_of a (length s - a) s) → put_mid a (length s - a) s ys ≡ paste s a (drop (a + w) s) (length s - (a + w))
  lent_moved ys e =
      let none : post_of a (length s - a) s ≡ [] = drop_of_length-le (drop a s) {i = length s - a} (rw length-drop (omega arith)) in
      let q : a + (length s - a - w) ≡ length s - w = omega arith in
      let tail : after (drop a s) ≡ drop (a + w) s ++ drop (length s - w) s =
      ap (λ (r : List ℕ). r ++ drop (length (drop a s) - w) (drop a s)) (drop-drop w a s)
      ∙ ap (λ (n : ℕ). drop (a + w) s ++ drop (n - w) (drop a s)) (length-drop a s)
      ∙ ap (λ (r : List ℕ). drop (a + w) s ++ r) (drop-drop (length s - a - w) a s ∙ ap (λ (n : ℕ). drop n s) q) in
      ap (λ (r : List ℕ). take a s ++ (ys ++ r)) none ∙ ap (λ (r : List ℕ). take a s ++ r) (append-nil ys ∙ e ∙ ap after lent ∙ tail)
      ∙ sym (append_assoc (take a s) (drop (a + w) s) (drop (length s - w) s)) ∙ sym cut

  module _ (ys : List ℕ) (moved : ys ≡ paste s a (drop (a + w) s) (length s - (a + w))) where
    last_length : length (mid_of (length s - w) (length s - (length s - w)) ys) ≡ w
    last_length =
        let d : drop (length s - w) ys ≡ drop (length s - w) s = ap (drop (length s - w)) (moved ∙ cut) ∙ drop_at front (drop (length s - w) s) (length s - w) front_length in
        let l = length-drop (length s - w) s in
        ap (λ (r : List ℕ). length (take (length s - (length s - w)) r)) d ∙ ap length (take_all (length s - (length s - w)) (drop (length s - w) s) (omega arith)) ∙ omega arith

    last_put : (y : List ℕ) → put_mid (length s - w) (length s - (length s - w)) ys y ≡ front ++ y
    last_put y =
        let l = length-drop (length s - w) s in
        ap (λ (r : List ℕ). put_mid (length s - w) (length s - (length s - w)) r y) (moved ∙ cut)
        ∙ put_last front (drop (length s - w) s) (length s - w) (length s - (length s - w)) front_length (omega arith) y

    module _ (len : length ys ≡ length s) where
      pub moved_put : (y : List ℕ) → put_mid (length ys - w) (length ys - (length ys - w)) ys y ≡ take a s ++ (drop (a + w) s ++ y)
      moved_put y = ap (λ (n : ℕ). put_mid (n - w) (n - (n - w)) ys y) len ∙ last_put y ∙ append_assoc (take a s) (drop (a + w) s) y

      pub moved_last : length (mid_of (length ys - w) (length ys - (length ys - w)) ys) ≡ w
      moved_last = ap (λ (n : ℕ). length (mid_of (n - w) (n - (n - w)) ys)) len ∙ last_length

pub pushed_is : (w : ℕ) (s x : List ℕ) → drop w s ++ x ≡ pushed w x s
unfolding pushed
pushed_is w s x = refl

pub dropped_is : (w p : ℕ) (s : List ℕ) → take (w * p) s ++ (drop (w * p + w) s ++ replicate w 0) ≡ dropped_slot w p s
unfolding dropped_slot
dropped_is w p s = ap (λ (n : ℕ). take (w * p) s ++ (drop n s ++ replicate w 0)) (sym (slot_end w p))
