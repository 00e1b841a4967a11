-- What reading a number at an offset finds: the next byte decides, the value of g groups is below 128 ^ g, and the offset after it lies inside and
-- no further on than its groups.
use Prim.Native.Nat.{ℕ, zero, suc, ◌+◌, ◌-◌, ◌*◌, ◌%◌, ◌^◌, ◌≤◌, ◌<◌}
use mathlib.Core.Path.{◌≡◌, refl, ap}
use mathlib.Core.Bool.{Bool, true, false}
use mathlib.Core.List.{List, [], ◌∷◌}
use native.Mathlib.Nat.{pow-suc, one-le-pow, pow-le-pow_right, lt_of_lt_of_le}
use native.Mathlib.Numerals.{add-one}
use native.Mathlib.Omega.{arith}
use borrow.Author.Tests.{ltb-true}
use lib.Dec.{ltb, eqb}
use lib.ListN.{length, get_or, drop, drop_of_length-le}
use lib.Seq.{drop-cons}
use Rattle.numbers.specs.declared.plain.Number.{Number}
use Rattle.std.specs.Prelude.{Option, Some, None, if◌then◌else◌}
use Rattle.numbers.specs.Plain.{found, number_in, joined, value_of}
use Rattle.numbers.proofs.Clash.{clash}

-- two numbers that were read and are the same
next_of : Option Number → ℕ
next_of (Some n) = n.next
next_of None = 0

pub same_value : {v n w m : ℕ} → found v n ≡ found w m → v ≡ w
same_value e = ap value_of e

pub same_next : {v n w m : ℕ} → found v n ≡ found w m → n ≡ m
unfolding next_of
same_next e = ap next_of e

-- past the end there is no number
pub at_end : (g : ℕ) (s : List ℕ) (at : ℕ) → length s ≤ at → number_in g (drop at s) at ≡ None
unfolding number_in
at_end zero s at h = refl
at_end (suc g) s at h = rw (drop_of_length-le s {i = at} h)

-- inside, the byte at the offset decides
pub at_byte : (left : ℕ) (s : List ℕ) (at : ℕ) → (left ≡ 0 → ⊥) → at < length s
    → number_in left (drop at s) at
    ≡ (if ltb (get_or s at 0) 128 then found (get_or s at 0) (at + 1) else joined (get_or s at 0) (number_in (left - 1) (drop (at + 1) s) (at + 1)))
unfolding number_in
at_byte zero s at some h = absurd (some refl)
at_byte (suc g) s at some h = rw (drop-cons s at 0 h, add-one, one_less)
  where
    one_less : suc g - 1 ≡ g
    one_less = omega arith

-- ---- the value of g groups is below 128 ^ g

bound_joined : (b p : ℕ) (r : Option Number) → value_of r < p → value_of (joined b r) < p * 128
bound_joined b p None h = omega arith
bound_joined b p (Some r) h = go (eqb v 0)
  where
    v : ℕ
    v = r.value

    n : ℕ
    n = r.next

    go : (t : Bool) → value_of (if t then None else found (v * 128 + b % 128) n) < p * 128
    go true = omega arith
    go false = omega arith

bound_byte : (g b at : ℕ) (r : Option Number) (t : Bool) → ltb b 128 ≡ t → value_of r < 128 ^ g → value_of (if t then found b (at + 1) else joined b r) < 128 ^ suc g
bound_byte g b at r true e h = omega (arith, ltb-true b 128 e, pow-suc 128 g)
bound_byte g b at r false e h = rw pow-suc (bound_joined b (128 ^ g) r h)

pub bound : (g : ℕ) (bytes : List ℕ) (at : ℕ) → value_of (number_in g bytes at) < 128 ^ g
unfolding number_in
bound zero bytes at = omega arith
bound (suc g) [] at = one-le-pow (suc g) 128 (omega arith)
bound (suc g) (b ∷ bytes) at = bound_byte g b at (number_in g bytes (at + 1)) (ltb b 128) refl (bound g bytes (at + 1))

pub bound_of : (g k : ℕ) (bytes : List ℕ) (at : ℕ) → g ≤ k → value_of (number_in g bytes at) < 128 ^ k
bound_of g k bytes at h = lt_of_lt_of_le (bound g bytes at) (pow-le-pow_right (omega arith) h)

-- ---- the offset after a number

after_joined : (b at len : ℕ) (r : Option Number) {v n : ℕ} → ((w m : ℕ) → r ≡ found w m → (at + 1 < m) × (m ≤ at + 1 + len)) → joined b r ≡ found v n
    → (at < n) × (n ≤ at + suc len)
after_joined b at len None ih e = clash (cc)
after_joined b at len (Some r) {v} {n} ih e = go (eqb w 0) e (ih w m refl)
  where
    w : ℕ
    w = r.value

    m : ℕ
    m = r.next

    go : (t : Bool) → (if t then None else found (w * 128 + b % 128) m) ≡ found v n → (at + 1 < m) × (m ≤ at + 1 + len) → (at < n) × (n ≤ at + suc len)
    go true e h = clash (cc)
    go false e h = let q : m ≡ n = same_next e in omega arith

pub offset_after : (g : ℕ) (bytes : List ℕ) (at v n : ℕ) → number_in g bytes at ≡ found v n → (at < n) × (n ≤ at + length bytes)
unfolding number_in
offset_after zero bytes at v n e = clash (cc)
offset_after (suc g) [] at v n e = clash (cc)
offset_after (suc g) (b ∷ bytes) at v n e = go (ltb b 128) e (λ w m. offset_after g bytes (at + 1) w m)
  where
    go : (t : Bool) → (if t then found b (at + 1) else joined b (number_in g bytes (at + 1))) ≡ found v n
        → ((w m : ℕ) → number_in g bytes (at + 1) ≡ found w m → (at + 1 < m) × (m ≤ at + 1 + length bytes)) → (at < n) × (n ≤ at + length (b ∷ bytes))
    go true e ih = let q : at + 1 ≡ n = same_next e in omega arith
    go false e ih = after_joined b at (length bytes) (number_in g bytes (at + 1)) ih e

pub offset_near : (g : ℕ) (bytes : List ℕ) (at v n : ℕ) → number_in g bytes at ≡ found v n → (at < n) × (n ≤ at + g)
unfolding number_in
offset_near zero bytes at v n e = clash (cc)
offset_near (suc g) [] at v n e = clash (cc)
offset_near (suc g) (b ∷ bytes) at v n e = go (ltb b 128) e (λ w m. offset_near g bytes (at + 1) w m)
  where
    go : (t : Bool) → (if t then found b (at + 1) else joined b (number_in g bytes (at + 1))) ≡ found v n
        → ((w m : ℕ) → number_in g bytes (at + 1) ≡ found w m → (at + 1 < m) × (m ≤ at + 1 + g)) → (at < n) × (n ≤ at + suc g)
    go true e ih = let q : at + 1 ≡ n = same_next e in omega arith
    go false e ih = after_joined b at g (number_in g bytes (at + 1)) ih e
