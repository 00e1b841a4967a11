-- A loop that copies a list over the front of another, one element a turn. For any type of element, with any element z in place of those past the end.
use mathlib.Core.Path.{◌≡◌, sym, ap, ◌∙◌}
use mathlib.Core.List.{List, ◌++◌}
use Prim.Native.Nat.{ℕ, suc, ◌+◌, ◌<◌}
use native.Mathlib.Nat.{le_of_lt}
use native.Mathlib.Numerals.{add-one}
use lib.ListN.{length, get_or, set, take, drop}
use lib.Seq.{length-take-le, drop-cons, take-suc, set_at, append_snoc, take-length}

abbrev pub copied : {A : Type 0} → List A → List A → ℕ → List A
copied s d i = take i s ++ drop i d

pub copy_more : {A : Type 0} (z : A) (s d : List A) (i : ℕ) → i < length s → i < length d → set (copied s d i) i (get_or s i z) ≡ copied s d (i + 1)
copy_more {A} z s d i ls ld =
    let v = get_or s i z in
    ap (λ (r : List A). set (take i s ++ r) i v) (drop-cons d i z ld)
    ∙ set_at (take i s) (get_or d i z) (drop (suc i) d) v i (length-take-le i s (le_of_lt ls))
    ∙ sym (append_snoc (take i s) v (drop (suc i) d))
    ∙ ap (λ (r : List A). r ++ drop (suc i) d) (sym (take-suc s i z ls))
    ∙ ap (λ (n : ℕ). copied s d n) (sym (add-one i))

pub copy_all : {A : Type 0} (s d : List A) (i : ℕ) → i ≡ length s → copied s d i ≡ s ++ drop (length s) d
copy_all {A} s d i e = ap (λ (n : ℕ). copied s d n) e ∙ ap (λ (r : List A). r ++ drop (length s) d) (take-length s)
