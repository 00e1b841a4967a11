-- Finite sums, and rows of coefficients given by their terms. `sum n f` is f 0 + .. + f (n - 1): the loss of 3 cells is `sum 3 (λ i. ..)`.
use Rattle.std.specs.Prelude.{ℕ, zero, suc, ◌+◌, cond, eqb, ℤ, pos, ◌+ℤ◌}

-- f 0 + .. + f (n - 1)
unfoldable pub sum : ℕ → (ℕ → ℤ) → ℤ
sum zero f = pos 0
sum (suc n) f = sum n f +ℤ f n

-- the same of natural numbers
unfoldable pub sumℕ : ℕ → (ℕ → ℕ) → ℕ
sumℕ zero f = 0
sumℕ (suc n) f = sumℕ n f + f n

-- z at the cell k, 0 at every other
abbrev pub only : ℕ → ℤ → ℕ → ℤ
only k z i = cond (eqb k i) z (pos 0)

-- A row of k terms, of which term m names `cell m` with the coefficient `coef m`: what the row has at the cell i, 0 where no term names it.
abbrev pub coefficient_of : ℕ → (cell : ℕ → ℕ) (coef : ℕ → ℤ) → ℕ → ℤ
coefficient_of k cell coef i = sum k (λ m. only (cell m) (coef m) i)
