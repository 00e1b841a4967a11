-- Forms of two families, one after the other, in one problem: a sum over all of them is the sum over the first and the sum over the second.
use Prim.Native.Nat.{ℕ, ◌+◌, ◌-◌}
use mathlib.Core.Path.{◌≡◌, refl, ap₂, ◌∙◌}
use mathlib.Core.Bool.{Bool, true, false, cond}
use native.Mathlib.Omega.{arith}
use borrow.Author.Tests.{lt-ltb, le-ltb}
use lib.Dec.{ltb}
use lib.IntN.{ℤ, ◌+ℤ◌}
use Rattle.whole.specs.Sum.{sum}
use Rattle.whole.proofs.Sums.{sum_cong, sum_ext}
use Rattle.whole.proofs.Parts.{sum_split}

-- what the form f has: the first m forms are the first family's
abbrev pub either : (m : ℕ) (first second : ℕ → ℤ) → ℕ → ℤ
either m first second f = cond (ltb f m) (first f) (second (f - m))

sum_either : (m n : ℕ) (g h : ℕ → ℤ) → sum (m + n) (either m g h) ≡ sum m g +ℤ sum n h
sum_either m n g h =
    sum_split m n (either m g h)
    ∙ ap₂ ◌+ℤ◌ (sum_cong m (λ f l. rw (lt-ltb f m l)))
    (sum_ext n (λ f. let e : m + f - m ≡ f = omega arith in rw (le-ltb (m + f) m (omega arith), e)))

-- Φ of a form's constant and its row of coefficients
pub sum_forms : (m n : ℕ) (κ₁ κ₂ : ℕ → ℤ) (a₁ a₂ : ℕ → ℕ → ℤ) (Φ : ℤ → (ℕ → ℤ) → ℤ)
    → sum (m + n) (λ f. Φ (either m κ₁ κ₂ f) (λ i. either m (λ f. a₁ f i) (λ f. a₂ f i) f)) ≡ sum m (λ f. Φ (κ₁ f) (a₁ f)) +ℤ sum n (λ f. Φ (κ₂ f) (a₂ f))
sum_forms m n κ₁ κ₂ a₁ a₂ Φ =
    sum_ext (m + n) (λ f. go f (ltb f m)) ∙ sum_either m n (λ f. Φ (κ₁ f) (a₁ f)) (λ f. Φ (κ₂ f) (a₂ f))
  where
    go : (f : ℕ) (t : Bool)
        → Φ (cond t (κ₁ f) (κ₂ (f - m))) (λ i. cond t (a₁ f i) (a₂ (f - m) i)) ≡ cond t (Φ (κ₁ f) (a₁ f)) (Φ (κ₂ (f - m)) (a₂ (f - m)))
    go f true = refl
    go f false = refl
