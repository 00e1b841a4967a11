-- The fields of a line, in the parts that the functions put.
use Prim.Native.Nat.{ℕ, suc, ◌+◌, ◌<◌}
use mathlib.Core.Path.{◌≡◌, refl, sym, ap, ◌∙◌}
use mathlib.Core.List.{List, [], ◌∷◌, ◌++◌, append_assoc, append-nil}
use native.Mathlib.Numerals.{add-one}
use native.Mathlib.Omega.{arith}
use lib.ListN.{length, get_or, set, take, drop, take-append-drop}
use lib.Seq.{take-suc, drop-cons}
use Rattle.decimals.specs.Decimal.{decimal}
use Rattle.line.specs.Line.{field, later, printed}
use Rattle.decimals.specs.Puts.{Puts, Room}
use Rattle.line.specs.Puts.{head_fields}
use Rattle.decimals.proofs.Stores.{puts_then, puts_same, room_first, room_then, room_same}

-- a space, and a number after it
pub put_spaced : (x : ℕ) {out after : List ℕ} {at r : ℕ} → Puts (decimal x) (set out at 32) (at + 1) r after → Puts (field x) out at r after
put_spaced x {out} {at = at} p = puts_then {a = 32 ∷ []} {out = out} {at = at} (record { next = refl; stored = refl }) p

-- ---- the values, one after another
later_append : (xs ys : List ℕ) → later (xs ++ ys) ≡ later xs ++ later ys
unfolding later
later_append [] ys = refl
later_append (x ∷ xs) ys = ap (λ (l : List ℕ). field x ++ l) (later_append xs ys) ∙ sym (append_assoc (field x) (later xs) (later ys))

later_one : (x : ℕ) → later (x ∷ []) ≡ field x
unfolding later
later_one x = append-nil (field x)

later_cons : (x : ℕ) (xs : List ℕ) → later (x ∷ xs) ≡ field x ++ later xs
unfolding later
later_cons x xs = refl

pub put_none : (out : List ℕ) (at : ℕ) → Puts (later []) out at at out
unfolding later
put_none out at = record { next = omega arith; stored = refl }

module _ (vs : List ℕ) (i : ℕ) (h : i < length vs) where
  -- the values are the first i, the next one, and the rest
  parts : later vs ≡ later (take i vs) ++ (field (get_or vs i 0) ++ later (drop (suc i) vs))
  parts =
      ap later (sym (take-append-drop i vs))
      ∙ later_append (take i vs) (drop i vs)
      ∙ ap (λ (l : List ℕ). later (take i vs) ++ later l) (drop-cons vs i 0 h)
      ∙ ap (λ (l : List ℕ). later (take i vs) ++ l) (later_cons (get_or vs i 0) (drop (suc i) vs))

  more : later (take i vs) ++ field (get_or vs i 0) ≡ later (take (i + 1) vs)
  more =
      ap (λ (l : List ℕ). later (take i vs) ++ l) (sym (later_one (get_or vs i 0)))
      ∙ sym (later_append (take i vs) (get_or vs i 0 ∷ []))
      ∙ ap later (sym (take-suc vs i 0 h))
      ∙ ap (λ (n : ℕ). later (take n vs)) (sym (add-one i))

  module _ (x : ℕ) (e : x ≡ get_or vs i 0) {out after : List ℕ} {at r : ℕ} (p : Puts (later (take i vs)) out at r after) where
    pub room_next : Room (later vs) at out → Room (field x) r after
    room_next room = room_same (ap field (sym e)) (room_first (field (get_or vs i 0)) (later (drop (suc i) vs)) (room_then p (room_same parts room)))

    pub put_next : {last : List ℕ} {s : ℕ} → Puts (field x) after r s last → Puts (later (take (i + 1) vs)) out at s last
    put_next q = puts_same more (puts_then p (puts_same (ap field e) q))

-- ---- the parts of a line
-- two numbers: the first, a field, the line feed
pub pair_parts : (a b : ℕ) → decimal a ++ (field b ++ (10 ∷ [])) ≡ printed a (b ∷ [])
pair_parts a b = ap (λ (l : List ℕ). decimal a ++ (l ++ (10 ∷ []))) (sym (later_one b))

-- an accepted table's line: its head, its values, the line feed
pub table_parts : (society job loss gap : ℕ) (values : List ℕ)
    → head_fields society job loss gap ++ (later values ++ (10 ∷ [])) ≡ printed 0 (society ∷ job ∷ loss ∷ gap ∷ values)
unfolding later
table_parts society job loss gap values = simp append_assoc
