-- The first pass that is accepted: a search among n passes finds it, or none of them is accepted.
use Prim.Native.Nat.{ℕ, zero, suc, ◌≤◌, ◌<◌}
use mathlib.Core.Path.{◌≡◌, refl, sym, ap, subst, ◌∙◌}
use mathlib.Core.Logic.{◌⊎◌, inl, inr}
use mathlib.Core.Bool.{Bool, true, false, not}
use native.Mathlib.Omega.{arith}
use native.Mathlib.Numerals.{add-one}
use Rattle.numbers.proofs.Clash.{clash}
use Rattle.jobs.specs.Job.{Job}
use Rattle.measure.proofs.Lowest.{Passed, passed_start, passed_next, passed_all}
use Rattle.linked.specs.Proposal.{accepted_at, passes_before}
use Rattle.linked.specs.Promises.{FirstAccepted}
use Rattle.linked.proofs.Searching.{rejects, found, none_found}

-- a test among n numbers fails first at one of them, or at none
record Fails (t : ℕ → Bool) (n : ℕ) : Type 0 where
  pub at : ℕ
  pub among : at < n
  pub past : Passed t at
  pub fails : t at ≡ false

sought : (t : ℕ → Bool) (n : ℕ) → Passed t n ⊎ Fails t n
sought t zero = inl (passed_start t)
sought t (suc n) = go (sought t n) (t n) refl
  where
    go : Passed t n ⊎ Fails t n → (b : Bool) → t n ≡ b → Passed t (suc n) ⊎ Fails t (suc n)
    go (inr f) b e = inr (record { at = f.at; among = omega (arith, f.among); past = f.past; fails = f.fails })
    go (inl p) true e = inl (subst (λ (k : ℕ). Passed t k) (add-one n) (passed_next t n p e))
    go (inl p) false e = inr (record { at = n; among = omega arith; past = p; fails = e })

not_true : (b : Bool) → not b ≡ true → b ≡ false
not_true true e = clash (cc)
not_true false e = refl

not_false : (b : Bool) → not b ≡ false → b ≡ true
not_false true e = refl
not_false false e = clash (cc)

module _ (j : Job) (given : ℕ) where
  -- none of them is accepted
  pub none_of : given ≤ passes_before j given → (p : ℕ) → 1 ≤ p → p ≤ given → accepted_at j p ≡ false
  unfolding passes_before
  none_of h (zero) l m = absurd (omega arith)
  none_of h (suc i) l m = not_true (accepted_at j (suc i)) (passed_all (rejects j) given h i (omega arith))

  pub all_before : ((p : ℕ) → 1 ≤ p → p ≤ given → accepted_at j p ≡ false) → given ≡ passes_before j given
  all_before h = none_found j given given (λ i l. ap not (h (suc i) (omega arith) (omega arith))) refl

  -- the first of them
  pub first_of : passes_before j given < given → FirstAccepted j given (suc (passes_before j given))
  first_of h = go (sought (rejects j) given)
    where
      at_first : (f : Fails (rejects j) given) → f.at ≡ passes_before j given
      at_first f = found j given f.at f.past f.among f.fails

      before : (f : Fails (rejects j) given) (p : ℕ) → 1 ≤ p → p < suc f.at → accepted_at j p ≡ false
      before f zero l m = absurd (omega arith)
      before f (suc i) l m = not_true (accepted_at j (suc i)) (f.past i (omega arith))

      go : Passed (rejects j) given ⊎ Fails (rejects j) given → FirstAccepted j given (suc (passes_before j given))
      go (inl p) = absurd (omega (arith, none_found j given given p refl))
      go (inr f) =
          subst (λ (k : ℕ). FirstAccepted j given (suc k)) (at_first f)
          (record { some = omega arith; within = f.among; accepted = not_false (accepted_at j (suc f.at)) f.fails; none_before = before f })

  -- more passes find the same one
  pub more_before : (more : ℕ) → given ≤ more → passes_before j given < given → passes_before j more ≡ passes_before j given
  more_before more l h = go (sought (rejects j) given)
    where
      go : Passed (rejects j) given ⊎ Fails (rejects j) given → passes_before j more ≡ passes_before j given
      go (inl p) = absurd (omega (arith, none_found j given given p refl))
      go (inr f) = sym (found j more f.at f.past (omega (arith, f.among)) f.fails) ∙ found j given f.at f.past f.among f.fails
