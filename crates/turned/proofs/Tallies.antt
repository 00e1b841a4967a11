-- How many numbers pass a test, which does not see that they are turned about.
use Prim.Native.Nat.{ℕ, zero, suc, ◌+◌, ◌<◌}
use mathlib.Core.Path.{◌≡◌, sym, ap, ap₂, ◌∙◌}
use mathlib.Core.Bool.{Bool}
use native.Mathlib.Nat as N
use lib.IntN.{pos, nat_abs, ◌+ℤ◌}
use Rattle.std.specs.Prelude.{if◌then◌else◌}
use Rattle.whole.specs.Sum.{sum}
use Rattle.whole.proofs.Sums.{sum_zero, sum_ext, sum_cong}
use Rattle.whole.proofs.Parts.{sum_head}
use Rattle.whole.proofs.Turned.{Involution, sum_turned}

-- f i k is how many of the k numbers from i on pass a test
pub record Tally (test : ℕ → Bool) (f : (i k : ℕ) → ℕ) : Type 0 where
  pub none : (i : ℕ) → f i 0 ≡ 0
  pub more : (i k : ℕ) → f i (suc k) ≡ (if test i then 1 else 0) + f (suc i) k

tally_sum : {test : ℕ → Bool} {f : (i k : ℕ) → ℕ} → Tally test f → (k i : ℕ) → pos (f i k) ≡ sum k (λ m. pos (if test (i + m) then 1 else 0))
tally_sum {test} {f} y zero i = ap pos (y.none i) ∙ sym (sum_zero (λ m. pos (if test (i + m) then 1 else 0)))
tally_sum {test} {f} y (suc k) i =
    ap pos (y.more i k)
    ∙ ap₂ ◌+ℤ◌ (ap (λ (x : ℕ). pos (if test x then 1 else 0)) (sym (N.add-zero i)))
    (tally_sum y k (suc i) ∙ sum_ext k (λ m. ap (λ (x : ℕ). pos (if test x then 1 else 0)) (N.suc-add i m ∙ sym (N.add-suc i m))))
    ∙ sym (sum_head k (λ m. pos (if test (i + m) then 1 else 0)))

-- it does not see that the numbers are turned about
pub tally_turned : {n : ℕ} {τ : ℕ → ℕ} → Involution n τ → {s t : ℕ → Bool} {f g : (i k : ℕ) → ℕ} → Tally s f → Tally t g
    → ((i : ℕ) → i < n → s i ≡ t (τ i)) → f 0 n ≡ g 0 n
tally_turned {n} {τ} I {s} {t} {f} {g} x y h =
    ap nat_abs
    (tally_sum x n 0
    ∙ sum_cong n (λ m l. ap (λ (b : Bool). pos (if b then 1 else 0)) (ap s (N.zero-add m) ∙ h m l))
    ∙ sum_turned I (λ m. pos (if t m then 1 else 0))
    ∙ sym (tally_sum y n 0 ∙ sum_ext n (λ m. ap (λ (x : ℕ). pos (if t x then 1 else 0)) (N.zero-add m))))
