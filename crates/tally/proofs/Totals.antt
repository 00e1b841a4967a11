-- The running total decides the gap. No term is negative for a table that meets its boxes and links, so a total that is past the tolerance stays past
-- it, and it may be left as it is; a total that is not past it is the sum so far (`Tells`). It is below 2^63 all along.
use Prim.Native.Nat.{ℕ, zero, suc, ◌≤◌, ◌<◌}
use mathlib.Core.Path.{◌≡◌, refl, sym, ap, subst, ◌∙◌}
use mathlib.Core.Logic.{◌⊎◌, inl, inr}
use mathlib.Core.Bool.{Bool, true, false, cond}
use native.Mathlib.Nat as N
use lib.Dec as Dec
use lib.Dec.{lit<, leb→le}
use lib.IntN.{ℤ, pos, nat_abs, ◌+ℤ◌, +ℤ_assoc, +ℤ_idr}
use lib.Signed.{◌≤ℤ◌, ◌<ℤ◌, le_z, lt_z, le_z_yes, clash_ℤ, <ℤ-≤ℤ_trans}
use mir.Syntax.{w64}
use mir.Val.{SFits}
use Rattle.whole.specs.Sum.{sum}
use Rattle.whole.proofs.Order.{≤ℤ-by, ≤ℤ-or->, +ℤ-nonneg}
use Rattle.whole.proofs.Magnitude.{bound-+}
use Rattle.whole.proofs.Fits.{small_fits}
use Rattle.numbers.proofs.Clash.{clash}
use Rattle.jobs.specs.Allowed.{Upto}
use Rattle.tally.specs.Tally.{settled_of, run_of}
use Rattle.tally.proofs.Terms.{not_past, true_t}

-- n terms of which none is negative, and the start of their total
pub record Runs (T start : ℤ) (t : ℕ → ℤ) (n : ℕ) : Type 0 where
  pub tolerance_in : Upto 1000000000000000 T
  pub start_least : pos 0 ≤ℤ start
  pub start_small : nat_abs start ≤ 8000000000000000000
  pub least : (i : ℕ) → i < n → pos 0 ≤ℤ t i
  pub small : (i : ℕ) → i < n → nat_abs (t i) ≤ 7000000000000000000

-- ---- its size

module _ {T total : ℤ} (t : ℤ) (h : Upto 1000000000000000 T) (k : pos 0 ≤ℤ total) where
  settled_least : pos 0 ≤ℤ t → pos 0 ≤ℤ settled_of T total t
  settled_least l = go (le_z total T)
    where
      go : (o : Bool) → pos 0 ≤ℤ cond o (total +ℤ t) total
      go true = +ℤ-nonneg k l
      go false = k

  pub settled_small : nat_abs total ≤ 8000000000000000000 → nat_abs t ≤ 7000000000000000000 → nat_abs (settled_of T total t) ≤ 8000000000000000000
  settled_small l m = go (le_z total T) refl
    where
      go : (o : Bool) → le_z total T ≡ o → nat_abs (cond o (total +ℤ t) total) ≤ 8000000000000000000
      go true e = N.le_trans (bound-+ total t (not_past h k (le_z_yes (true_t e))) m) (leb→le 7001000000000000000 8000000000000000000 tt)
      go false e = l

module _ {T start : ℤ} {t : ℕ → ℤ} {n : ℕ} (R : Runs T start t n) where
  pub run_least : (i : ℕ) → i ≤ n → pos 0 ≤ℤ run_of T start t i
  unfolding run_of
  run_least zero h = R.start_least
  run_least (suc i) h = settled_least (t i) R.tolerance_in (run_least i (N.le_trans (N.le-suc i) h)) (R.least i h)

  pub run_small : (i : ℕ) → i ≤ n → nat_abs (run_of T start t i) ≤ 8000000000000000000
  unfolding run_of
  run_small zero h = R.start_small
  run_small (suc i) h = settled_small (t i) R.tolerance_in (run_least i (N.le_trans (N.le-suc i) h)) (run_small i (N.le_trans (N.le-suc i) h)) (R.small i h)

  pub run_fits : (i : ℕ) → i ≤ n → SFits w64 (run_of T start t i)
  run_fits i h = small_fits (run_of T start t i) (run_small i h) (lit< tt)

-- ---- what it tells

-- a total that is not past the tolerance is the sum s; where it is past, s is past it too
pub record Tells (T s total : ℤ) : Type 0 where
  pub exact : total ≤ℤ T → total ≡ s
  pub past : T <ℤ total → T <ℤ s

pub tells_start : (T s : ℤ) → Tells T s s
tells_start T s = record { exact = λ l. refl; past = λ l. l }

le_true : {a b : ℤ} → a ≤ℤ b → le_z a b ≡ true
le_true {a} {b} l = up (le_z a b) l.le
  where
    up : (o : Bool) → Dec.T o → o ≡ true
    up true t = refl
    up false t = absurd t

tells_next : {T s total t : ℤ} → Tells T s total → pos 0 ≤ℤ t → Tells T (s +ℤ t) (settled_of T total t)
tells_next {T} {s} {total} {t} I k = go (le_z total T) refl
  where
    go : (o : Bool) → le_z total T ≡ o → Tells T (s +ℤ t) (cond o (total +ℤ t) total)
    go true e =
        let q : total ≡ s = I.exact (le_z_yes (true_t e)) in
        record { exact = λ l. ap (λ (x : ℤ). x +ℤ t) q; past = λ l. subst (λ (x : ℤ). T <ℤ x) (ap (λ (x : ℤ). x +ℤ t) q) l }
    go false e = record {
      exact = λ l. absurd (subst (λ (b : Bool). Dec.T b) (sym (le_true l) ∙ e) tt);
      past = λ l. <ℤ-≤ℤ_trans (I.past l) (≤ℤ-by t k refl);
    }

pub run_tells : {T start s : ℤ} {t : ℕ → ℤ} {n : ℕ} → Runs T start t n → Tells T s start → (i : ℕ) → i ≤ n → Tells T (s +ℤ sum i t) (run_of T start t i)
unfolding run_of sum
run_tells {T} {start} {s} R I zero h = subst (λ (x : ℤ). Tells T x start) (sym (+ℤ_idr s)) I
run_tells {T} {start} {s} {t} {n} R I (suc i) h =
    subst (λ (x : ℤ). Tells T x (settled_of T (run_of T start t i) (t i))) (+ℤ_assoc s (sum i t) (t i))
    (tells_next (run_tells R I i (N.le_trans (N.le-suc i) h)) (R.least i h))

-- ---- tests of signed numbers

pub not_le_lt : (a b : ℤ) → le_z a b ≡ false → b <ℤ a
not_le_lt a b e = go (≤ℤ-or-> a b)
  where
    go : (a ≤ℤ b) ⊎ (b <ℤ a) → b <ℤ a
    go (inl h) = clash (cc (le_true h))
    go (inr h) = h

pub lt_not_le : (a b : ℤ) → b <ℤ a → le_z a b ≡ false
lt_not_le a b h = go (le_z a b) refl
  where
    go : (o : Bool) → le_z a b ≡ o → o ≡ false
    go true e = absurd (clash_ℤ {X = ⊥} h (le_z_yes (true_t e)))
    go false e = refl

pub not_lt_le : (a b : ℤ) → lt_z b a ≡ false → le_z a b ≡ true
not_lt_le a b e = go (≤ℤ-or-> a b)
  where
    go : (a ≤ℤ b) ⊎ (b <ℤ a) → le_z a b ≡ true
    go (inl h) = le_true h
    go (inr h) = absurd (subst (λ (o : Bool). Dec.T o) e h.lt)
