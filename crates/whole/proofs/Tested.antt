-- A rule of a table, proved by one computed test: `below n test` runs the test at each number below n, and `below_at` gives what it says of each.
-- For a table `row` of 5 entries, `below_at 5 (λ m. leb (row m) 6) tt k h : T (leb (row k) 6)`.
use Prim.Native.Nat.{ℕ, zero, suc, ◌<◌}
use mathlib.Core.Path.{◌≡◌, sym, subst}
use mathlib.Core.Logic.{◌⊎◌, inl, inr}
use mathlib.Core.Bool.{Bool, true, ◌&&◌}
use native.Mathlib.Nat as N
use lib.Dec.{T}
use mir.Facts.{and_yes}

abbrev pub below : ℕ → (ℕ → Bool) → Bool
below zero test = true
below (suc n) test = below n test && test n

pub below_at : (n : ℕ) (test : ℕ → Bool) → T (below n test) → (k : ℕ) → k < n → T (test k)
below_at zero test t k h = absurd (N.not-suc-le-zero h)
below_at (suc n) test t k h = go (below_at n test (and_yes (below n test) (test n) t).0 k) (N.eq-or-lt_of_le (N.le_of_suc-le-suc h))
  where
    go : (k < n → T (test k)) → (k ≡ n) ⊎ (k < n) → T (test k)
    go ih (inr l) = ih l
    go ih (inl e) = subst (λ (m : ℕ). T (test m)) (sym e) (and_yes (below n test) (test n) t).1
