-- Reading and writing a number are inverse, both ways: a number below 2^63 that was written is read back (`numbers_read_back`), and the bytes that a
-- number was read from are its shortest form with the rest after it (`numbers_written_back`): no other form is read.
use Prim.Native.Nat.{ℕ, zero, suc, ◌+◌, ◌*◌, ◌/◌, ◌%◌, ◌^◌, ◌≤◌, ◌<◌}
use mathlib.Core.Path.{◌≡◌, refl, ap, ap₂, ◌∙◌}
use mathlib.Core.Bool.{Bool, true, false}
use mathlib.Core.List.{List, [], ◌∷◌, ◌++◌}
use native.Mathlib.Nat.{pow-suc}
use native.Mathlib.Omega.{arith}
use borrow.Author.Tests.{ltb-true, ltb-false, lt-ltb, le-ltb, ne_eqb, eqb-false}
use lib.Dec.{ltb, eqb}
use lib.ListN.{length, get_or}
use Rattle.numbers.specs.declared.plain.Number.{Number}
use Rattle.std.specs.Prelude.{Option, Some, None, if◌then◌else◌}
use Rattle.numbers.specs.Plain.{found, number_in, joined, bytes_in}
use Rattle.numbers.specs.Promises.{NumbersReadBack, NumbersWrittenBack}
use Rattle.numbers.proofs.Clash.{clash}
use Rattle.numbers.proofs.Reading.{bound, same_value, same_next}
use Rattle.numbers.proofs.Bytes.{bytes_nine}

-- ---- written, then read

joined_value : (b v n : ℕ) → (v ≡ 0 → ⊥) → joined b (found v n) ≡ found (v * 128 + b % 128) n
joined_value b v n h = rw (ne_eqb v 0 h)

one_group : (g x at : ℕ) (rest : List ℕ) → x < 128 → number_in (suc g) (bytes_in (suc g) x ++ rest) at ≡ found x (at + length (bytes_in (suc g) x))
unfolding number_in bytes_in
one_group g x at rest h = rw (lt-ltb x 128 h, lt-ltb x 128 h)

more_groups : (g x at : ℕ) (rest : List ℕ) → 128 ≤ x
    → number_in g (bytes_in g (x / 128) ++ rest) (at + 1) ≡ found (x / 128) (at + 1 + length (bytes_in g (x / 128)))
    → number_in (suc g) (bytes_in (suc g) x ++ rest) at ≡ found x (at + length (bytes_in (suc g) x))
unfolding number_in bytes_in
more_groups g x at rest h ih =
    rw (le-ltb x 128 h, le-ltb (x % 128 + 128) 128 (omega arith), ih, joined_value (x % 128 + 128) (x / 128) _ (omega arith))
    (ap₂ found (omega arith) (omega arith))

read_in : (g x at : ℕ) (rest : List ℕ) → x < 128 ^ suc g → number_in (suc g) (bytes_in (suc g) x ++ rest) at ≡ found x (at + length (bytes_in (suc g) x))
read_in zero x at rest h = one_group 0 x at rest h
read_in (suc g) x at rest h = go (ltb x 128) refl (read_in g (x / 128) (at + 1) rest (omega (arith, pow-suc 128 (suc g))))
  where
    go : (t : Bool) → ltb x 128 ≡ t
        → number_in (suc g) (bytes_in (suc g) (x / 128) ++ rest) (at + 1) ≡ found (x / 128) (at + 1 + length (bytes_in (suc g) (x / 128)))
        → number_in (suc (suc g)) (bytes_in (suc (suc g)) x ++ rest) at ≡ found x (at + length (bytes_in (suc (suc g)) x))
    go true e ih = one_group (suc g) x at rest (ltb-true x 128 e)
    go false e ih = more_groups (suc g) x at rest (ltb-false x 128 e) ih

pub numbers_read_back : NumbersReadBack
numbers_read_back x at rest h = rw (← bytes_nine x h) (read_in 8 x at rest h)

-- ---- read, then written

-- the bytes start with the shortest form of v, in at most g groups, and n is the offset after it
pub record Read (g v n at : ℕ) (bytes : List ℕ) : Type 0 where
  pub rest : List ℕ
  pub same : bytes ≡ bytes_in g v ++ rest
  pub next : n ≡ at + length (bytes_in g v)

last_group_lem : (g b at : ℕ) (bytes : List ℕ) {v n : ℕ} → b < 128 → found b (at + 1) ≡ found v n → Read (suc g) v n at (b ∷ bytes)
unfolding bytes_in
last_group_lem g b at bytes {v} {n} h e =
    let p : b ≡ v = same_value e in
    let q : at + 1 ≡ n = same_next e in
    record { rest = bytes; same = rw (← p, lt-ltb b 128 h); next = rw (← p, ← q, lt-ltb b 128 h) }

group_before : (g b at w m : ℕ) (bytes : List ℕ) → 128 ≤ b → b < 256 → (w ≡ 0 → ⊥) → Read g w m (at + 1) bytes → Read (suc g) (w * 128 + b % 128) m at (b ∷ bytes)
unfolding bytes_in
group_before g b at w m bytes h k f r =
    let l : ltb (w * 128 + b % 128) 128 ≡ false = le-ltb (w * 128 + b % 128) 128 (omega arith) in
    let d : (w * 128 + b % 128) % 128 + 128 ≡ b = omega arith in
    let q : (w * 128 + b % 128) / 128 ≡ w = omega arith in
    record { rest = r.rest; same = rw (l, d, q) (ap (λ (s : List ℕ). b ∷ s) r.same); next = rw (l, q) (omega (arith, r.next)) }

read_joined : (g b at : ℕ) (bytes : List ℕ) (r : Option Number) {v n : ℕ} → 128 ≤ b → b < 256 → ((w m : ℕ) → r ≡ found w m → Read g w m (at + 1) bytes)
    → joined b r ≡ found v n → Read (suc g) v n at (b ∷ bytes)
read_joined g b at bytes None h k ih e = clash (cc)
read_joined g b at bytes (Some r) {v} {n} h k ih e = go (eqb w 0) refl e
  where
    w : ℕ
    w = r.value

    m : ℕ
    m = r.next

    go : (t : Bool) → eqb w 0 ≡ t → (if t then None else found (w * 128 + b % 128) m) ≡ found v n → Read (suc g) v n at (b ∷ bytes)
    go true f e = clash (cc)
    go false f e =
        let p : w * 128 + b % 128 ≡ v = same_value e in
        let q : m ≡ n = same_next e in
        rw (← p, ← q) (group_before g b at w m bytes h k (eqb-false w 0 f) (ih w m refl))

read_of : (g : ℕ) (bytes : List ℕ) (at v n : ℕ) → ((i : ℕ) → get_or bytes i 0 < 256) → number_in g bytes at ≡ found v n → Read g v n at bytes
unfolding number_in
read_of zero bytes at v n small e = clash (cc)
read_of (suc g) [] at v n small e = clash (cc)
read_of (suc g) (b ∷ bytes) at v n small e = go (ltb b 128) refl e (λ w m. read_of g bytes (at + 1) w m (λ i. small (suc i)))
  where
    go : (t : Bool) → ltb b 128 ≡ t → (if t then found b (at + 1) else joined b (number_in g bytes (at + 1))) ≡ found v n
        → ((w m : ℕ) → number_in g bytes (at + 1) ≡ found w m → Read g w m (at + 1) bytes) → Read (suc g) v n at (b ∷ bytes)
    go true l e ih = last_group_lem g b at bytes (ltb-true b 128 l) e
    go false l e ih = read_joined g b at bytes (number_in g bytes (at + 1)) (ltb-false b 128 l) (small 0) ih e

pub numbers_written_back : NumbersWrittenBack
numbers_written_back bytes at v n small e =
    let r = read_of 9 bytes at v n small e in
    let h : v < 2 ^ 63 = rw e at (bound 9 bytes at) in
    let b = bytes_nine v h in
    record {
      rest = r.rest;
      same = r.same ∙ ap (λ (l : List ℕ). l ++ r.rest) b;
      next = r.next ∙ ap (λ (l : List ℕ). at + length l) b;
      small = h;
    }
