-- The crude rate is rounded, halves up, and the weight down.
use Prim.Native.Nat.{ℕ, zero, suc, ◌+◌, ◌*◌, ◌/◌, ◌≤◌, ◌<◌}
use mathlib.Core.Path.{◌≡◌, refl, ap, ◌∙◌}
use mathlib.Core.Bool.{Bool, true, false}
use native.Mathlib.Nat.{mul_comm, mul_assoc, mul-add, mul-one, div-mul-le_self, lt-div-mul-add, mul-le-mul, le_refl}
use native.Mathlib.Omega.{arith}
use borrow.Author.Tests.{ne_eqb, ltb-true, ltb-false}
use lib.Dec.{ltb}
use Rattle.std.specs.Prelude.{if◌then◌else◌}
use Rattle.imports.specs.Imports.{crude_of}
use Rattle.imports.specs.Promises.{RateHalvesUp, RatesAllowed, RoundedDown, WeightRoundedDown}

quotient : (exposure deaths : ℕ) → 0 < exposure → crude_of exposure deaths ≡ (2 * (deaths * 1000000) + exposure) / (2 * exposure)
quotient exposure deaths h = rw (ne_eqb exposure 0 (λ e. omega arith))

twice : (e q : ℕ) → q * (2 * e) ≡ 2 * (e * q)
twice e q = mul_comm q (2 * e) ∙ mul_assoc 2 e q

pub rate_halves_up : RateHalvesUp
rate_halves_up exposure deaths h =
    let n = 2 * (deaths * 1000000) + exposure in
    let q = n / (2 * exposure) in
    let low = div-mul-le_self n (2 * exposure) in
    let high : n < q * (2 * exposure) + 2 * exposure = lt-div-mul-add (omega arith) in
    let more : exposure * (q + 1) ≡ exposure * q + exposure = mul-add exposure q 1 ∙ ap (λ (x : ℕ). exposure * q + x) (mul-one exposure) in
    rw (quotient exposure deaths h) (record { low = omega (arith, low, twice exposure q); high = omega (arith, high, twice exposure q, more) })

allowed : (exposure deaths : ℕ) → 0 < exposure → deaths ≤ exposure → crude_of exposure deaths ≤ 1000000
allowed exposure deaths h d =
    let halves = rate_halves_up exposure deaths h in
    let r = crude_of exposure deaths in
    go r halves.low (ltb 1000000 r) refl
  where
    go : (r : ℕ) → 2 * (exposure * r) ≤ 2 * (deaths * 1000000) + exposure → (t : Bool) → ltb 1000000 r ≡ t → r ≤ 1000000
    go r low true e =
        let big : 1000001 ≤ r = omega (arith, ltb-true 1000000 r e) in
        let product : exposure * 1000001 ≤ exposure * r = mul-le-mul (le_refl exposure) big in
        absurd (omega arith)
    go r low false e = ltb-false 1000000 r e

pub rates_allowed : RatesAllowed
rates_allowed zero deaths d = omega arith
rates_allowed (suc e) deaths d = allowed (suc e) deaths (omega arith) d

pub weight_rounded_down : WeightRoundedDown
weight_rounded_down divisor exposure h = go (ltb 1000 (exposure / divisor)) refl
  where
    low : exposure / divisor * divisor ≤ exposure
    low = div-mul-le_self exposure divisor

    go : (t : Bool) → ltb 1000 (exposure / divisor) ≡ t → RoundedDown divisor exposure (if t then 1000 else exposure / divisor)
    go true e =
        let big : 1000 ≤ exposure / divisor = omega (arith, ltb-true 1000 (exposure / divisor) e) in
        let product : 1000 * divisor ≤ exposure / divisor * divisor = mul-le-mul big (le_refl divisor) in
        record { most = omega arith; low = omega (arith, low, product); high = λ l. absurd (omega arith) }
    go false e = record { most = ltb-false 1000 (exposure / divisor) e; low = low; high = λ l. lt-div-mul-add h }
