-- The promises of the counts, each a law whose type is its statement in specs/CountsPromises.antt.
use Prim.Native.Nat.{ℕ, zero, suc, ◌+◌, ◌*◌, ◌≤◌}
use mathlib.Core.Path.{◌≡◌, refl, sym, ap, ◌∙◌}
use mathlib.Core.Bool.{Bool, true, false}
use mathlib.Core.List.{List}
use native.Mathlib.Omega.{arith}
use lib.Dec.{ltb}
use borrow.Author.Tests.{ltb-true, ltb-false}
use Rattle.slots.specs.Slots.{lowest}
use Rattle.std.specs.Prelude.{Ok, Err}
use Rattle.refusals.specs.declared.Refusal.{Refusal}
use Rattle.refusals.specs.declared.Refusal.TheVariants.{CountsNotAllowed}
use Rattle.counts.proofs.Tests.{wrong_is}
use Rattle.counts.specs.Counts.{Tested, passed, count_in, slots_below, is_wrong, test_row, start_in}
use Rattle.claims.proofs.Counted.{allowed_of, wrong_of, not_both}
use Rattle.claims.specs.Verdicts.{LowestNot}
use Rattle.claims.specs.CountsPromises.{CountsAllowed, CountsWrong, a_count, the_total, RightExactly, WrongExactly, fours, FourEach, TenTenTwo}

-- ---- counts are wrong at one place alone
one_lowest : {good : ℕ → Type 0} {n p q : ℕ} → LowestNot good n p → LowestNot good n q → p ≡ q
one_lowest {good} {n} {p} {q} v w = go (ltb p q) refl (ltb q p) refl
  where
    go : (a : Bool) → ltb p q ≡ a → (b : Bool) → ltb q p ≡ b → p ≡ q
    go true e b f = absurd (v.itself (w.lower p (ltb-true p q e)))
    go false e true f = absurd (w.itself (v.lower q (ltb-true q p f)))
    go false e false f = omega (arith, ltb-false p q e, ltb-false q p f)

one_place : (row : List ℕ) (p q : ℕ) → CountsWrong row p → CountsWrong row q → p ≡ q
one_place row p q (a_count v) (a_count w) = one_lowest v w
one_place row p q (a_count v) (the_total each many e) = absurd (v.itself (each p v.among))
one_place row p q (the_total each many e) (a_count w) = absurd (w.itself (each q w.among))
one_place row p q (the_total each many e) (the_total each' many' f) = e ∙ sym f

pub right_exactly : RightExactly
right_exactly row = (allowed_of row, λ a. go a (test_row row) refl)
  where
    go : CountsAllowed row → (o : Tested) → test_row row ≡ o → test_row row ≡ passed
    go a (Ok u) e = e
    go a (Err r) e = let w = wrong_is row r e in absurd (not_both row w.0 a (wrong_of row w.0 (e ∙ ap {B = Tested} (λ (x : Refusal). Err x) w.1)))

pub wrong_exactly : WrongExactly
wrong_exactly row place = (wrong_of row place, λ w. go w (test_row row) refl)
  where
    go : CountsWrong row place → (o : Tested) → test_row row ≡ o → test_row row ≡ Err (CountsNotAllowed place)
    go w (Ok u) e = absurd (not_both row place (allowed_of row e) w)
    go w (Err r) e =
        let at = wrong_is row r e in
        let f = e ∙ ap {B = Tested} (λ (x : Refusal). Err x) at.1 in
        f ∙ ap {B = Tested} (λ (n : ℕ). Err (CountsNotAllowed n)) (one_place row at.0 place (wrong_of row at.0 f) w)

-- ---- counts worked by hand
pub four_each : FourEach
unfolding test_row lowest is_wrong slots_below
four_each = (refl, each)
  where
    each : (society : ℕ) → society ≤ 7 → (count_in fours society ≡ 4) × (start_in fours society ≡ 8 + 1148 * society)
    each zero h = (refl, refl)
    each (suc zero) h = (refl, refl)
    each (suc (suc zero)) h = (refl, refl)
    each (suc (suc (suc zero))) h = (refl, refl)
    each (suc (suc (suc (suc zero)))) h = (refl, refl)
    each (suc (suc (suc (suc (suc zero))))) h = (refl, refl)
    each (suc (suc (suc (suc (suc (suc zero)))))) h = (refl, refl)
    each (suc (suc (suc (suc (suc (suc (suc zero))))))) h = (refl, refl)
    each (suc (suc (suc (suc (suc (suc (suc (suc s)))))))) h = absurd (omega arith)

pub ten_ten_two : TenTenTwo
unfolding test_row lowest is_wrong slots_below
ten_ten_two = (refl, refl)
