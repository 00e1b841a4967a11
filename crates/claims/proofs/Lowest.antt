-- The lowest number at which a test fails, for a test that says whether a number is good: if all n are good there is none and the search ends at
-- n, else it ends at the lowest that is not.
use Prim.Native.Nat.{ℕ, zero, suc, ◌+◌, ◌≤◌, ◌<◌, zero-le}
use mathlib.Core.Path.{◌≡◌, refl, sym, ap, subst, ◌∙◌}
use mathlib.Core.Logic.{◌⊎◌, inl, inr}
use mathlib.Core.Bool.{Bool, true, false}
use native.Mathlib.Omega.{arith}
use native.Mathlib.Nat as N
use borrow.Author.Tests.{ltb-true, ltb-false}
use lib.Dec.{T, ltb}
use Rattle.std.specs.Prelude.{if◌then◌else◌}
use Rattle.measure.specs.Check.{lowest_from, lowest_failing}
use Rattle.claims.specs.Verdicts.{LowestNot}

-- a test that says whether a number is good
pub record Tells (good : ℕ → Type 0) (passes : ℕ → Bool) : Type 0 where
  pub sure : (i : ℕ) → T (passes i) → good i
  pub seen : (i : ℕ) → good i → T (passes i)

module _ {good : ℕ → Type 0} {passes : ℕ → Bool} (t : Tells good passes) where
  -- the k numbers from i on: all are good, or one is not and those before it are
  data Found (i k : ℕ) : Type 0 where
    nowhere : lowest_from passes i k ≡ i + k → ((m : ℕ) → i ≤ m → m < i + k → good m) → Found i k
    somewhere : (at : ℕ) → lowest_from passes i k ≡ at → at < i + k → (good at → ⊥) → ((m : ℕ) → i ≤ m → m < at → good m) → Found i k

  onward : {i at : ℕ} → good i → ((m : ℕ) → suc i ≤ m → m < at → good m) → (m : ℕ) → i ≤ m → m < at → good m
  onward {i} {at} g f m h l = go (N.eq-or-lt_of_le h)
    where
      go : (i ≡ m) ⊎ (i < m) → good m
      go (inl e) = subst good e g
      go (inr k) = f m k l

  found : (i k : ℕ) → Found i k
  unfolding lowest_from
  found i zero = nowhere (sym (N.add-zero i)) (λ m h l. absurd (omega arith))
  found i (suc k) = go (passes i) refl (found (suc i) k)
    where
      chosen : {b : Bool} → passes i ≡ b → lowest_from passes i (suc k) ≡ (if b then lowest_from passes (suc i) k else i)
      chosen e = ap (λ (b : Bool). if b then lowest_from passes (suc i) k else i) e

      go : (b : Bool) → passes i ≡ b → Found (suc i) k → Found i (suc k)
      go true e (nowhere q f) =
          let here : good i = t.sure i (subst T (sym e) tt) in
          nowhere (chosen e ∙ q ∙ N.suc-add i k ∙ sym (N.add-suc i k)) (λ m h l. onward {at = suc i + k} here f m h (omega arith))
      go true e (somewhere at q l n f) = somewhere at (chosen e ∙ q) (omega arith) n (onward (t.sure i (subst T (sym e) tt)) f)
      go false e o = somewhere i (chosen e) (omega arith) (λ g. subst T e (t.seen i g)) (λ m h l. absurd (omega arith))

  -- what the n numbers are, by where the search ends
  pub data Sought (n : ℕ) : Type 0 where
    all : lowest_failing passes n ≡ n → ((i : ℕ) → i < n → good i) → Sought n
    lowest : (place : ℕ) → lowest_failing passes n ≡ place → LowestNot good n place → Sought n

  pub sought : (n : ℕ) → Sought n
  sought n = go (found 0 n)
    where
      go : Found 0 n → Sought n
      go (nowhere e f) = all (e ∙ N.zero-add n) (λ i h. f i zero-le (omega arith))
      go (somewhere at e l f h) = lowest at e record { among = omega arith; itself = f; lower = λ i k. h i zero-le k }

  -- where the search ends, by what they are
  pub ends_after : (n : ℕ) → ((i : ℕ) → i < n → good i) → lowest_failing passes n ≡ n
  ends_after n h = go (sought n)
    where
      go : Sought n → lowest_failing passes n ≡ n
      go (all e f) = e
      go (lowest place e L) = absurd (L.itself (h place L.among))

  one_lowest : {n : ℕ} (a b : ℕ) → LowestNot good n a → LowestNot good n b → a ≡ b
  one_lowest a b p q = go (ltb a b) (ltb b a) refl refl
    where
      go : (s t : Bool) → ltb a b ≡ s → ltb b a ≡ t → a ≡ b
      go true t e o = absurd (p.itself (q.lower a (ltb-true a b e)))
      go false true e o = absurd (q.itself (p.lower b (ltb-true b a o)))
      go false false e o = N.le_antisymm (ltb-false b a o) (ltb-false a b e)

  pub ends_at : (n place : ℕ) → LowestNot good n place → lowest_failing passes n ≡ place
  ends_at n place L = go (sought n)
    where
      go : Sought n → lowest_failing passes n ≡ place
      go (all e f) = absurd (L.itself (f place L.among))
      go (lowest at e M) = e ∙ one_lowest at place M L
