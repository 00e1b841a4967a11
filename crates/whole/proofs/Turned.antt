-- Numbers turned about by an involution: a sum does not see it, and a row of terms has at a cell what the turned row has at the turned cell. For instance
-- `sum_turned (backwards 3) f : sum 3 (λ i. f (from_last 3 i)) ≡ sum 3 f`.
use Prim.Native.Nat.{ℕ, ◌<◌}
use mathlib.Core.Path.{◌≡◌, refl, sym, ap, ◌∙◌}
use mathlib.Core.Bool.{Bool, true, false, cond}
use native.Mathlib.Omega.{arith}
use borrow.Author.Tests.{eqb-true, eqb-false}
use lib.Dec.{eqb}
use lib.IntN.{ℤ, pos}
use Rattle.whole.specs.Sum.{sum, only}
use Rattle.whole.specs.Turned.{from_last}
use Rattle.whole.proofs.Sums.{sum_cong, sum_swap}
use Rattle.whole.proofs.Parts.{sum_one}
use Rattle.whole.proofs.Rows.{only_same, only_other}

-- a map of the first n numbers to one another that takes each back to where it came from
pub record Involution (n : ℕ) (τ : ℕ → ℕ) : Type 0 where
  pub stays : (i : ℕ) → i < n → τ i < n
  pub twice : (i : ℕ) → i < n → τ (τ i) ≡ i

-- from the last to the first
pub backwards : (n : ℕ) → Involution n (from_last n)
backwards n = record { stays = λ i h. omega arith; twice = λ i h. omega arith }

-- every number where it is
pub still : (n : ℕ) → Involution n (λ i. i)
still n = record { stays = λ i h. h; twice = λ i h. refl }

module _ {n : ℕ} {τ : ℕ → ℕ} (I : Involution n τ) where
  -- z at the turned cell, seen from the cell
  pub only_turned : (k : ℕ) (z : ℤ) (i : ℕ) → k < n → i < n → only (τ k) z i ≡ only k z (τ i)
  only_turned k z i h l = go (eqb k (τ i)) refl
    where
      there : k ≡ τ i → τ k ≡ i
      there e = ap τ e ∙ I.twice i l

      back : i ≡ τ k → τ i ≡ k
      back e = ap τ e ∙ I.twice k h

      go : (b : Bool) → eqb k (τ i) ≡ b → only (τ k) z i ≡ only k z (τ i)
      go true e =
          let q : k ≡ τ i = eqb-true k (τ i) e in
          ap (λ (x : ℕ). only x z i) (there q) ∙ only_same i z ∙ sym (ap (λ (x : ℕ). only x z (τ i)) q ∙ only_same (τ i) z)
      go false e =
          only_other (τ k) z i (λ q. eqb-false k (τ i) e (sym (back q))) ∙ sym (ap (λ (b : Bool). cond b z (pos 0)) e)

  pub sum_turned : (f : ℕ → ℤ) → sum n (λ i. f (τ i)) ≡ sum n f
  sum_turned f =
      sum_cong n (λ i h. sym (alone i h))
      ∙ sum_swap n n (λ i k. only (τ i) (f k) k)
      ∙ sum_cong n (λ k h. come k h)
    where
      alone : (i : ℕ) → i < n → sum n (λ k. only (τ i) (f k) k) ≡ f (τ i)
      alone i h =
          sum_one n (τ i) {f = λ k. only (τ i) (f k) k} (I.stays i h) (λ k l q. only_other (τ i) (f k) k q)
          ∙ only_same (τ i) (f (τ i))

      come : (k : ℕ) → k < n → sum n (λ i. only (τ i) (f k) k) ≡ f k
      come k h =
          sum_one n (τ k) {f = λ i. only (τ i) (f k) k} (I.stays k h)
          (λ i l q. only_other (τ i) (f k) k (λ e. q (sym (I.twice i l) ∙ ap τ (sym e))))
          ∙ ap (λ (x : ℕ). only x (f k) k) (I.twice k h) ∙ only_same k (f k)
