-- How an equation and an inequality of ℤ are proved, an example each: by `ring`, by `ineq`, and between natural numbers by `omega`.
use mathlib.Core.Path.{◌≡◌}
use Prim.Native.Nat.{ℕ}
use native.Mathlib.Omega.{arith}
use lib.IntN.{ℤ, pos, ◌+ℤ◌, ◌*ℤ◌}
use lib.Signed.{◌≤ℤ◌}
use Rattle.whole.proofs.Solve.{num, ◌⊕◌, ◌⊖◌, ◌⊗◌, ◌≗◌, ring}
use Rattle.whole.proofs.Inequality.{◌⊑◌, ◌⇒◌, ◌by◌, hyp, sqr, ◌⊠◌, ineq}
use Rattle.whole.proofs.Order.{pos_le, pos_mono}

pub square_of_sum : (a b : ℤ) → (a +ℤ b) *ℤ (a +ℤ b) ≡ a *ℤ a +ℤ pos 2 *ℤ a *ℤ b +ℤ b *ℤ b
square_of_sum = ring 2 (λ a b. (a ⊕ b) ⊗ (a ⊕ b) ≗ a ⊗ a ⊕ num 2 ⊗ a ⊗ b ⊕ b ⊗ b) tt

-- with a weight w that is not negative, 2wab ≤ w(a² + b²): the witness is w times a square
pub weighted : (w a b : ℤ) → pos 0 ≤ℤ w → (pos 2 *ℤ w *ℤ a *ℤ b) ≤ℤ (w *ℤ (a *ℤ a +ℤ b *ℤ b))
weighted = ineq 3 (λ w a b. num 0 ⊑ w ⇒ num 2 ⊗ w ⊗ a ⊗ b ⊑ w ⊗ (a ⊗ a ⊕ b ⊗ b) by hyp 0 ⊠ sqr (a ⊖ b)) tt

pub by_omega : (a b c : ℕ) → (pos a +ℤ pos 3 *ℤ pos b) ≤ℤ pos c → (pos 2 *ℤ pos b) ≤ℤ pos c
by_omega a b c h = omega (arith, pos_le, pos_mono)
