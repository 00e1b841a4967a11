-- Values copied into a part of a list stand there, and the rest is untouched.
use Prim.Native.Nat.{ℕ, ◌+◌, ◌≤◌}
use mathlib.Core.Path.{◌≡◌, sym, ap, ap₂, ◌∙◌}
use mathlib.Core.List.{List, ◌++◌, append_assoc}
use native.Mathlib.Nat.{zero-add}
use native.Mathlib.Omega.{arith}
use lib.ListN.{length, take, drop}
use lib.Seq.{sets, sets-eq, drop-drop}
use borrow.Rule.Slice.PartMut.{put_mid}

module _ {A : Type 0} {part vs : List A} (same : part ≡ vs) (l : List A) where
  pub placed : (at k : ℕ) → at + length vs ≤ length l → k ≡ length vs → put_mid at k l part ≡ sets l at vs
  placed at k h e =
      ap₂ (λ (p rest : List A). take at l ++ (p ++ rest)) same (drop-drop k at l ∙ ap (λ (n : ℕ). drop (at + n) l) e)
      ∙ sym (append_assoc (take at l) vs (drop (at + length vs) l))
      ∙ sym (sets-eq vs l at h)

  pub placed_first : (k : ℕ) → length vs ≤ length l → k ≡ length vs → part ++ drop k l ≡ sets l 0 vs
  placed_first k h e =
      ap₂ (λ (p : List A) (n : ℕ). p ++ drop n l) same (e ∙ sym (zero-add (length vs))) ∙ sym (sets-eq vs l 0 (omega arith))
