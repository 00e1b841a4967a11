-- A walk along a proposal pack: a value for each cell, then a multiplier for each link, each in its range, and nothing after.
use Prim.Native.Nat.{ℕ, zero, suc, ◌+◌, ◌-◌, ◌≤◌, ◌<◌}
use mathlib.Core.Path.{◌≡◌, refl}
use mathlib.Core.List.{List}
use native.Mathlib.Omega.{arith}
use borrow.Author.Tests.{ne_eqb}
use lib.IntN.{ℤ}
use Rattle.fields.specs.declared.Field.{Field}
use Rattle.fields.specs.declared.Field.TheVariants.{Value, Multiplier}
use Rattle.fields.specs.Table.{multipliers_from, values_from, step_of}
use Rattle.jobs.specs.Words.{word_at}
use Rattle.jobs.specs.Allowed.{Upto, Proposed}
use Rattle.jobs.proofs.Steps.{Steps}
use Rattle.jobs.proofs.Taken.{At, at_first, at_place, at_end, Plain, plain, here_on}

-- so many numbers of one range, from the place p on; `onward` is the field where so many are left
record Run (ws : List ℤ) (most : ℕ) (onward : ℕ → Field) (left p : ℕ) : Type 0 where
  pub each : (i : ℕ) → p ≤ i → i < p + left → Upto most (word_at ws i)
  pub rest : At ws (onward 0) (p + left)

module _ (ws : List ℤ) (most : ℕ) (onward : ℕ → Field) (one : (left p : ℕ) → At ws (onward (suc left)) p → Plain ws p 0 most (λ x. onward left)) where
  run : (left p : ℕ) → At ws (onward left) p → Run ws most onward left p
  run zero p t = record { each = λ i a b. absurd (omega arith); rest = at_place (p + 0) (omega arith) t }
  run (suc left) p t =
      let k = one left p t in
      let r = run left (p + 1) k.rest in
      record { each = here_on k.range (λ i a b. r.each i a (omega arith)); rest = at_place (p + suc left) (omega arith) r.rest }

one_value : {ws : List ℤ} (links left p : ℕ) → At ws (values_from (suc left) links) p → Plain ws p 0 1000000 (λ x. values_from left links)
unfolding step_of
one_value {ws} links left p t =
    let u : At ws (Value (suc left) links) p = rw (ne_eqb (suc left) 0 (omega arith)) at t in
    let less : suc left - 1 ≡ left = omega arith in
    plain 0 1000000 (λ x. values_from left links) refl refl (λ x. rw less) u

one_multiplier : {ws : List ℤ} (left p : ℕ) → At ws (multipliers_from (suc left)) p → Plain ws p 0 1000000000 (λ x. multipliers_from left)
unfolding step_of
one_multiplier {ws} left p t =
    let u : At ws (Multiplier (suc left)) p = rw (ne_eqb (suc left) 0 (omega arith)) at t in
    let less : suc left - 1 ≡ left = omega arith in
    plain 0 1000000000 (λ x. multipliers_from left) refl refl (λ x. rw less) u

pub proposal_read : {ws : List ℤ} (cells links : ℕ) → Steps (values_from cells links) ws → Proposed cells links ws
proposal_read {ws} cells links t =
    let v = run ws 1000000 (λ left. values_from left links) (one_value links) cells 0 (at_first t) in
    let m = run ws 1000000000 multipliers_from one_multiplier links (0 + cells) v.rest in
    record {
      count = omega (arith, at_end m.rest);
      value = λ i h. v.each i (omega arith) (omega arith);
      multiplier = λ j h. m.each (cells + j) (omega arith) (omega arith);
    }
