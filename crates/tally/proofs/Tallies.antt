-- A tally in code: one term more is one call of `tallied`, and what it holds is the running total, the largest term so far and its place.
use Prim.Native.Nat.{ℕ, zero, suc, ◌+◌, ◌<◌}
use mathlib.Core.Path.{◌≡◌, refl, sym, ap, ap₂, subst, subst₂, ◌∙◌}
use mathlib.Core.Bool.{Bool, true, false}
use native.Mathlib.Nat as N
use native.Mathlib.Numerals.{add-one}
use lib.Dec.{lit<, leb→le}
use lib.IntN.{ℤ, pos, negsuc}
use lib.Signed.{◌≤ℤ◌, lt_z}
use Rattle.whole.proofs.Fits.{small_fits, gives}
use Rattle.std.specs.Prelude.{if◌then◌else◌}
use Rattle.tally.specs.declared.Tally.{Tally}
use Rattle.tally.specs.Largest.{largest_of}
use Rattle.tally.specs.Given.{Tallies}
use Rattle.tally.specs.Tally.{settled_of, run_of, top_of, tally_of, tallied_of}
use Rattle.tally.proofs.Locals.{read}
use Rattle.tally.proofs.Totals.{Runs, run_least, run_small}
use Rattle.tally.proofs.Largest.{top_small}

abbrev tally : ℤ → ℤ → ℕ → Tally
tally total largest place = record { total = total; largest = largest; place = place }

-- ---- one term more

above_none : (x : ℤ) → pos 0 ≤ℤ x → lt_z (negsuc 0) x ≡ true
above_none (pos n) h = refl
above_none (negsuc n) h = absurd h.le

first_place : (o : Bool) → zero ≡ (if o then zero else zero)
first_place true = refl
first_place false = refl

chosen : (t : ℕ → ℤ) (o : Bool) (a b : ℕ) → (if o then t a else t b) ≡ t (if o then a else b)
chosen t true a b = refl
chosen t false a b = refl

pub tally_next : (T start : ℤ) (t : ℕ → ℤ) (i : ℕ) → pos 0 ≤ℤ t i → tally_of T (tallied_of T start t i) (t i) i ≡ tallied_of T start t (suc i)
unfolding run_of top_of largest_of
tally_next T start t zero h =
    ap (λ (o : Bool). tally (settled_of T start (t zero)) (if o then t zero else negsuc 0) (if o then zero else zero)) (above_none (t zero) h)
    ∙ ap₂ (tally (settled_of T start (t zero))) (ap t (first_place (lt_z (t zero) (t zero)))) (first_place (lt_z (t zero) (t zero)))
tally_next T start t (suc i) h =
    ap (λ (x : ℤ). tally (settled_of T (run_of T start t (suc i)) (t (suc i))) x (if lt_z (t (largest_of t (suc i))) (t (suc i)) then suc i else largest_of t (suc i)))
    (chosen t (lt_z (t (largest_of t (suc i))) (t (suc i))) (suc i) (largest_of t (suc i)))

-- before the first term
pub tally_starts : (T start : ℤ) (t : ℕ → ℤ) → tally start (negsuc 0) 0 ≡ tallied_of T start t 0
unfolding run_of top_of largest_of
tally_starts T start t = refl

-- ---- the call of `tallied` with the tolerance U and the term x, and the tally after it

module _ {T start : ℤ} {t : ℕ → ℤ} {n : ℕ} (R : Runs T start t n) {i : ℕ} {y : Tally} {U x : ℤ} (h : i < n) (H : y ≡ tallied_of T start t i) (eU : U ≡ T) (e : x ≡ t i) where
  x_read : read x ≡ t i
  x_read = gives e (small_fits (t i) (R.small i h) (lit< tt))

  plain : Tallies T (tallied_of T start t i) (t i)
  plain = record {
    settles = record {
      tolerance_in = R.tolerance_in;
      total_least = run_least R i (N.le_of_lt h);
      total_small = run_small R i (N.le_of_lt h);
      t_small = R.small i h;
    };
    largest_small = top_small t i 7000000000000000000 (leb→le 1 7000000000000000000 tt) (λ k l. R.small k (N.lt_of_lt_of_le l (N.le_of_lt h)));
  }

  pub tallies_call : Tallies U y (read x)
  tallies_call = subst (λ (z : Tally). Tallies U z (read x)) (sym H) (subst₂ (λ (u z : ℤ). Tallies u (tallied_of T start t i) z) (sym eU) (sym x_read) plain)

  pub tallies_next : {r : Tally} → r ≡ tally_of U y (read x) i → r ≡ tallied_of T start t (i + 1)
  tallies_next q =
      q ∙ ap₂ (λ (u z : ℤ). tally_of u y z i) eU x_read ∙ ap (λ (z : Tally). tally_of T z (t i) i) H ∙ tally_next T start t i (R.least i h)
      ∙ ap (tallied_of T start t) (sym (add-one i))
