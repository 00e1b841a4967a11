-- Parts of a text one after another: what is put after a part, and the room for both.
use Prim.Native.Nat.{ℕ, ◌+◌, ◌/◌, ◌%◌, ◌^◌, ◌≤◌, ◌<◌}
use mathlib.Core.Path.{◌≡◌, refl, sym, ap, ap₂, ◌∙◌}
use mathlib.Core.List.{List, [], ◌∷◌, ◌++◌}
use native.Mathlib.Omega.{arith}
use lib.ListN.{length, set, length-append}
use lib.Seq.{sets, length-sets}
use Rattle.numbers.proofs.Stores.{sets_append}
use Rattle.decimals.specs.Decimal.{decimal}
use Rattle.decimals.specs.Puts.{Puts, Room}
use Rattle.decimals.proofs.Digits.{digits_one, digits_more}

-- ---- two parts
pub puts_then : {a b out after last : List ℕ} {at r s : ℕ} → Puts a out at r after → Puts b after r s last → Puts (a ++ b) out at s last
puts_then {a} {b} {out} {at = at} p q = record {
  next = omega (arith, p.next, q.next, length-append a b);
  stored = q.stored ∙ ap₂ (λ (l : List ℕ) (i : ℕ). sets l i b) p.stored p.next ∙ sym (sets_append a b out at);
}

pub puts_same : {a b out after : List ℕ} {at r : ℕ} → a ≡ b → Puts a out at r after → Puts b out at r after
puts_same {out = out} {at = at} e p = record { next = p.next ∙ ap (λ (l : List ℕ). at + length l) e; stored = p.stored ∙ ap (sets out at) e }

pub puts_length : {a out after : List ℕ} {at r : ℕ} → Puts a out at r after → length after ≡ length out
puts_length {a} {out} {at = at} p = ap length p.stored ∙ length-sets out at a

-- room for the first of two parts, and for the second after it
pub room_first : (a b : List ℕ) {out : List ℕ} {at : ℕ} → Room (a ++ b) at out → Room a at out
room_first a b h = record { fits = omega (arith, h.fits, length-append a b) }

pub room_then : {a b out after : List ℕ} {at r : ℕ} → Puts a out at r after → Room (a ++ b) at out → Room b r after
room_then {a} {b} p h = record { fits = omega (arith, h.fits, p.next, puts_length p, length-append a b) }

pub room_same : {a b out : List ℕ} {at : ℕ} → a ≡ b → Room a at out → Room b at out
room_same {at = at} e h = record { fits = omega (arith, h.fits, ap length e) }

-- ---- the digits of a number
pub put_one : (x : ℕ) (out : List ℕ) (at : ℕ) → x < 10 → Puts (decimal x) out at (at + 1) (set out at (48 + x))
put_one x out at h = puts_same (sym (digits_one x h)) (record { next = refl; stored = refl })

pub room_one : (x : ℕ) {out : List ℕ} {at : ℕ} → x < 10 → Room (decimal x) at out → at < length out
room_one x h r = omega (arith, r.fits, ap length (digits_one x h))

module _ (x : ℕ) (h : 10 ≤ x) (small : x < 2 ^ 64) {out : List ℕ} {at : ℕ} (room : Room (decimal x) at out) where
  whole : Room (decimal (x / 10) ++ ((48 + x % 10) ∷ [])) at out
  whole = room_same (digits_more x h small) room

  pub room_tenth : Room (decimal (x / 10)) at out
  room_tenth = room_first (decimal (x / 10)) ((48 + x % 10) ∷ []) whole

  module _ {after : List ℕ} {last : ℕ} (p : Puts (decimal (x / 10)) out at last after) where
    pub room_last : last < length after
    room_last = omega (arith, (room_then p whole).fits)

    pub put_more : Puts (decimal x) out at (last + 1) (set after last (48 + x % 10))
    put_more = puts_same (sym (digits_more x h small)) (puts_then p (record { next = refl; stored = refl }))
