-- The lowest number at which a test fails: a search that has passed every number below i, as its loop says, finds it at i or finds none.
use Prim.Native.Nat.{ℕ, zero, suc, ◌+◌, ◌-◌, ◌≤◌, ◌<◌, zero-le}
use mathlib.Core.Path.{◌≡◌, refl, sym, ap, ap₂, subst, ◌∙◌}
use mathlib.Core.Logic.{◌⊎◌, inl, inr}
use mathlib.Core.Bool.{Bool, true, false}
use native.Mathlib.Nat as N
use native.Mathlib.Omega.{arith}
use native.Mathlib.Numerals.{add-one}
use Rattle.std.specs.Prelude.{if◌then◌else◌}
use Rattle.measure.specs.Check.{lowest_from, lowest_failing}

-- the test passes at every number below i
abbrev pub Passed : (ℕ → Bool) → ℕ → Type 0
Passed t i = (k : ℕ) → k < i → t k ≡ true

pub passed_start : (t : ℕ → Bool) → Passed t 0
passed_start t k h = absurd (N.not-suc-le-zero h)

pub passed_next : (t : ℕ → Bool) (i : ℕ) → Passed t i → t i ≡ true → Passed t (i + 1)
passed_next t i p e k h = go (N.eq-or-lt_of_le (N.le_of_suc-le-suc (subst (λ (m : ℕ). k < m) (add-one i) h)))
  where
    go : (k ≡ i) ⊎ (k < i) → t k ≡ true
    go (inl q) = ap t q ∙ e
    go (inr l) = p k l

-- m numbers that pass are gone over
over : (t : ℕ → Bool) (i m k : ℕ) → ((q : ℕ) → i ≤ q → q < i + m → t q ≡ true) → lowest_from t i (m + k) ≡ lowest_from t (i + m) k
unfolding lowest_from
over t i zero k h = ap₂ (lowest_from t) (sym (N.add-zero i)) (N.zero-add k)
over t i (suc m) k h =
    ap (lowest_from t i) (N.suc-add m k)
    ∙ ap (λ (b : Bool). if b then lowest_from t (suc i) (m + k) else i) (h i (N.le_refl i) (omega arith))
    ∙ over t (suc i) m k (λ q a b. h q (omega arith) (omega arith))
    ∙ ap (λ (x : ℕ). lowest_from t x k) same
  where
    same : suc i + m ≡ i + suc m
    same = omega arith

pub lowest_all : (t : ℕ → Bool) (n : ℕ) → Passed t n → lowest_failing t n ≡ n
unfolding lowest_from
lowest_all t n p =
    ap (lowest_from t 0) (sym (N.add-zero n)) ∙ over t 0 n 0 (λ q a b. p q (subst (λ (x : ℕ). q < x) (N.zero-add n) b)) ∙ N.zero-add n

-- it fails at i, and nowhere before
pub lowest_at : (t : ℕ → Bool) (n i : ℕ) → i < n → Passed t i → t i ≡ false → lowest_failing t n ≡ i
unfolding lowest_from
lowest_at t n i h p e =
    ap (lowest_from t 0) whole
    ∙ over t 0 i (suc (n - suc i)) (λ q a b. p q (subst (λ (x : ℕ). q < x) (N.zero-add i) b))
    ∙ ap (λ (x : ℕ). lowest_from t x (suc (n - suc i))) (N.zero-add i)
    ∙ ap (λ (b : Bool). if b then lowest_from t (suc i) (n - suc i) else i) e
  where
    whole : n ≡ i + suc (n - suc i)
    whole = omega arith

-- where none is found, all pass
passed_from : (t : ℕ → Bool) (i k : ℕ) → i + k ≤ lowest_from t i k → (q : ℕ) → i ≤ q → q < i + k → t q ≡ true
unfolding lowest_from
passed_from t i zero h q a b = absurd (omega arith)
passed_from t i (suc k) h q a b = go (t i) refl h (passed_from t (suc i) k) (N.eq-or-lt_of_le a)
  where
    go : (o : Bool) → t i ≡ o → i + suc k ≤ (if o then lowest_from t (suc i) k else i)
        → (suc i + k ≤ lowest_from t (suc i) k → (q : ℕ) → suc i ≤ q → q < suc i + k → t q ≡ true) → (i ≡ q) ⊎ (i < q) → t q ≡ true
    go true e l ih (inl s) = ap t (sym s) ∙ e
    go true e l ih (inr s) = ih (omega arith) q s (omega arith)
    go false e l ih s = absurd (omega arith)

pub passed_all : (t : ℕ → Bool) (n : ℕ) → n ≤ lowest_failing t n → Passed t n
passed_all t n h k l = passed_from t 0 n (omega arith) k zero-le (omega arith)
