-- The largest of terms: the place of `largest_of` is that of no term below another and lies below every equal one, no other place does, and the
-- tallies of two lists of terms give that of both.
use Prim.Native.Nat.{ℕ, zero, suc, ◌+◌, ◌-◌, ◌≤◌, ◌<◌}
use mathlib.Core.Path.{◌≡◌, refl, sym, ap, subst, subst₂, ◌∙◌}
use mathlib.Core.Logic.{◌⊎◌, inl, inr}
use mathlib.Core.Bool.{Bool, true, false}
use native.Mathlib.Nat as N
use native.Mathlib.Omega.{arith}
use borrow.Author.Tests.{ltb-true, ltb-false}
use lib.Dec.{ltb}
use lib.IntN.{ℤ, pos, nat_abs}
use lib.Signed.{◌≤ℤ◌, ◌<ℤ◌, lt_z, le_z_yes, lt_z_yes, clash_ℤ, ≤ℤ_refl}
use Rattle.whole.proofs.Order.{≤ℤ-trans, ≤ℤ-or->, <ℤ-le}
use Rattle.std.specs.Prelude.{if◌then◌else◌}
use Rattle.tally.specs.Largest.{largest_of, Largest}
use Rattle.tally.specs.Tally.{top_of}
use Rattle.tally.proofs.Terms.{true_t}
use Rattle.tally.proofs.Totals.{not_lt_le}

pub ≤ℤ-<ℤ-trans : {a b c : ℤ} → a ≤ℤ b → b <ℤ c → a <ℤ c
≤ℤ-<ℤ-trans {a} {b} {c} h k = go (≤ℤ-or-> c a)
  where
    go : (c ≤ℤ a) ⊎ (a <ℤ c) → a <ℤ c
    go (inl l) = clash_ℤ k (≤ℤ-trans l h)
    go (inr l) = l

-- a number below suc n is n or below n
last_or : {i n : ℕ} → i < suc n → (i ≡ n) ⊎ (i < n)
last_or h = N.eq-or-lt_of_le (N.le_of_suc-le-suc h)

-- ---- the place that `largest_of` finds

first : (t : ℕ → ℤ) (o : Bool) → Largest t 1 (if o then zero else zero)
first t o = go o
  where
    one : Largest t 1 0
    one = record {
      among = omega arith;
      highest = λ i h. let e : i ≡ 0 = omega arith in subst (λ (k : ℕ). t k ≤ℤ t 0) (sym e) (≤ℤ_refl (t 0));
      lowest = λ i h. absurd (omega arith);
    }

    go : (o : Bool) → Largest t 1 (if o then zero else zero)
    go true = one
    go false = one

next : (t : ℕ → ℤ) (n p : ℕ) → Largest t n p → (o : Bool) → lt_z (t p) (t n) ≡ o → Largest t (suc n) (if o then n else p)
next t n p L true e = record {
  among = omega arith;
  highest = λ i h. go i (last_or h);
  lowest = λ i h. below i h;
}
  where
    below : (i : ℕ) → i < n → t i <ℤ t n
    below i h = ≤ℤ-<ℤ-trans (L.highest i h) (lt_z_yes (true_t e))

    go : (i : ℕ) → (i ≡ n) ⊎ (i < n) → t i ≤ℤ t n
    go i (inl q) = subst (λ (k : ℕ). t k ≤ℤ t n) (sym q) (≤ℤ_refl (t n))
    go i (inr l) = <ℤ-le (below i l)
next t n p L false e = record {
  among = omega (arith, L.among);
  highest = λ i h. go i (last_or h);
  lowest = L.lowest;
}
  where
    go : (i : ℕ) → (i ≡ n) ⊎ (i < n) → t i ≤ℤ t p
    go i (inl q) = subst (λ (k : ℕ). t k ≤ℤ t p) (sym q) (le_z_yes (true_t (not_lt_le (t n) (t p) e)))
    go i (inr l) = L.highest i l

-- the statement about it
pub largest_is : (t : ℕ → ℤ) (n : ℕ) → Largest t (suc n) (largest_of t (suc n))
unfolding largest_of
largest_is t zero = first t (lt_z (t zero) (t zero))
largest_is t (suc n) = next t (suc n) (largest_of t (suc n)) (largest_is t n) (lt_z (t (largest_of t (suc n))) (t (suc n))) refl

pub largest_some : (t : ℕ → ℤ) (n : ℕ) → 0 < n → Largest t n (largest_of t n)
largest_some t zero h = absurd (N.not-suc-le-zero h)
largest_some t (suc n) h = largest_is t n

-- and no other place has it
pub largest_one : {t : ℕ → ℤ} {n p q : ℕ} → Largest t n p → Largest t n q → p ≡ q
largest_one {t} {n} {p} {q} P Q = go (ltb p q) (ltb q p) refl refl
  where
    go : (a b : Bool) → ltb p q ≡ a → ltb q p ≡ b → p ≡ q
    go true b e f = clash_ℤ (Q.lowest p (ltb-true p q e)) (P.highest q Q.among)
    go false true e f = clash_ℤ (P.lowest q (ltb-true q p f)) (Q.highest p P.among)
    go false false e f = let h = ltb-false p q e in let k = ltb-false q p f in omega arith

-- ---- the largest so far, as a tally has it

-- x and p are the largest of n terms and its place, or n is 0
pub record Tops (t : ℕ → ℤ) (n : ℕ) (x : ℤ) (p : ℕ) : Type 0 where
  pub highest : (i : ℕ) → i < n → t i ≤ℤ x
  pub lowest : (i : ℕ) → i < p → t i <ℤ x
  pub is : pos 0 ≤ℤ x → (p < n) × (t p ≡ x)

pub tops : (t : ℕ → ℤ) (n : ℕ) → Tops t n (top_of t n) (largest_of t n)
unfolding top_of largest_of
tops t zero = record { highest = λ i h. absurd (N.not-suc-le-zero h); lowest = λ i h. absurd (N.not-suc-le-zero h); is = λ h. absurd h.le }
tops t (suc n) = let L : Largest t (suc n) (largest_of t (suc n)) = largest_is t n in record { highest = L.highest; lowest = L.lowest; is = λ h. (L.among, refl) }

pub top_small : (t : ℕ → ℤ) (n c : ℕ) → 1 ≤ c → ((i : ℕ) → i < n → nat_abs (t i) ≤ c) → nat_abs (top_of t n) ≤ c
unfolding top_of
top_small t zero c h small = h
top_small t (suc n) c h small = small (largest_of t (suc n)) (largest_is t n).among

pub largest_few : (t : ℕ → ℤ) (n : ℕ) → largest_of t n ≤ n
unfolding largest_of
largest_few t zero = omega arith
largest_few t (suc n) = N.le_of_lt (largest_is t n).among

-- ---- two lists of terms, one behind the other

module _ {t c k : ℕ → ℤ} {n m : ℕ} (some : 0 < n) (least : pos 0 ≤ℤ c 0) (front : (i : ℕ) → i < n → t i ≡ c i) (back : (l : ℕ) → t (n + l) ≡ k l)
    {x y : ℤ} {p q : ℕ} (C : Tops c n x p) (K : Tops k m y q) where
  x_least : pos 0 ≤ℤ x
  x_least = ≤ℤ-trans least (C.highest 0 some)

  p_is : (p < n) × (c p ≡ x)
  p_is = C.is x_least

  back_at_lem : (i : ℕ) → n ≤ i → t i ≡ k (i - n)
  back_at_lem i h = let e : i ≡ n + (i - n) = omega arith in ap t e ∙ back (i - n)

  -- a cell leads, also where a link's term is equal
  cell_leads : y ≤ℤ x → Largest t (n + m) p
  cell_leads h = record {
    among = omega (arith, p_is.0);
    highest = λ i l. subst (λ (z : ℤ). t i ≤ℤ z) (sym at_p) (go i l (ltb i n) refl);
    lowest = λ i l. subst₂ (λ (a b : ℤ). a <ℤ b) (sym (front i (N.lt_of_lt_of_le l (N.le_of_lt p_is.0)))) (sym at_p) (C.lowest i l);
  }
    where
      at_p : t p ≡ x
      at_p = front p p_is.0 ∙ p_is.1

      go : (i : ℕ) → i < n + m → (o : Bool) → ltb i n ≡ o → t i ≤ℤ x
      go i l true e = subst (λ (a : ℤ). a ≤ℤ x) (sym (front i (ltb-true i n e))) (C.highest i (ltb-true i n e))
      go i l false e =
          let b = ltb-false i n e in
          subst (λ (a : ℤ). a ≤ℤ x) (sym (back_at_lem i b)) (≤ℤ-trans (K.highest (i - n) (omega arith)) h)

  -- a link leads
  link_leads : x <ℤ y → Largest t (n + m) (n + q)
  link_leads h = record {
    among = omega (arith, q_is.0);
    highest = λ i l. subst (λ (z : ℤ). t i ≤ℤ z) (sym at_q) (go i l (ltb i n) refl);
    lowest = λ i l. subst (λ (z : ℤ). t i <ℤ z) (sym at_q) (lower i l (ltb i n) refl);
  }
    where
      q_is : (q < m) × (k q ≡ y)
      q_is = K.is (≤ℤ-trans x_least (<ℤ-le h))

      at_q : t (n + q) ≡ y
      at_q = back q ∙ q_is.1

      front_below : (i : ℕ) → i < n → t i <ℤ y
      front_below i l = subst (λ (a : ℤ). a <ℤ y) (sym (front i l)) (≤ℤ-<ℤ-trans (C.highest i l) h)

      go : (i : ℕ) → i < n + m → (o : Bool) → ltb i n ≡ o → t i ≤ℤ y
      go i l true e = <ℤ-le (front_below i (ltb-true i n e))
      go i l false e =
          let b = ltb-false i n e in
          subst (λ (a : ℤ). a ≤ℤ y) (sym (back_at_lem i b)) (K.highest (i - n) (omega arith))

      lower : (i : ℕ) → i < n + q → (o : Bool) → ltb i n ≡ o → t i <ℤ y
      lower i l true e = front_below i (ltb-true i n e)
      lower i l false e =
          let b = ltb-false i n e in
          subst (λ (a : ℤ). a <ℤ y) (sym (back_at_lem i b)) (K.lowest (i - n) (omega arith))

  pub leads : (o : Bool) → lt_z x y ≡ o → Largest t (n + m) (if o then n + q else p)
  leads true e = link_leads (lt_z_yes (true_t e))
  leads false e = cell_leads (le_z_yes (true_t (not_lt_le y x e)))
