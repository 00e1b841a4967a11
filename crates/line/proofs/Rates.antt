-- The rates of a proposal as fields, one more a turn.
use Prim.Native.Nat.{ℕ, ◌+◌, ◌≤◌, ◌<◌}
use mathlib.Core.Path.{◌≡◌, sym, ap, ◌∙◌}
use mathlib.Core.List.{List}
use native.Mathlib.Omega.{arith}
use lib.IntN.{ℤ}
use lib.ListN.{length, get_or, take}
use lib.Seq.{take_all}
use Rattle.jobs.specs.Words.{count_at}
use Rattle.checked.specs.Checked.{taken_from}
use Rattle.checked.specs.Given.{Rates}
use Rattle.line.specs.Line.{field, later}
use Rattle.decimals.specs.Puts.{Puts, Room}
use Rattle.decimals.proofs.Stores.{puts_same}
use Rattle.line.proofs.Parts.{room_next, put_next}
use Rattle.line.proofs.Widths.{values_length, value_at}

module _ {n : ℕ} {rates : List ℤ} (R : Rates n rates) (i : ℕ) where
  -- a rate is a count that fits
  pub rate_count : i < n → (i < length rates) × (count_at rates i ≤ 4294967295)
  rate_count h = (omega (arith, R.inside), omega (arith, R.small i h))

  module _ (h : i < n) (x : ℕ) (e : x ≡ count_at rates i) {out after : List ℕ} {at r : ℕ} (p : Puts (later (take i (taken_from 0 n rates))) out at r after) where
    inside : i < length (taken_from 0 n rates)
    inside = omega (arith, values_length n rates R.inside)

    same : x ≡ get_or (taken_from 0 n rates) i 0
    same = e ∙ sym (value_at n rates i h)

    pub room_rate : Room (later (taken_from 0 n rates)) at out → Room (field x) r after
    room_rate = room_next (taken_from 0 n rates) i inside x same p

    pub put_rate : {last : List ℕ} {s : ℕ} → Puts (field x) after r s last → Puts (later (take (i + 1) (taken_from 0 n rates))) out at s last
    put_rate = put_next (taken_from 0 n rates) i inside x same p

  -- after n of them they are all there
  pub put_rates_all : n ≤ i → {out after : List ℕ} {at r : ℕ} → Puts (later (take i (taken_from 0 n rates))) out at r after → Puts (later (taken_from 0 n rates)) out at r after
  put_rates_all h p = puts_same (ap later (take_all i (taken_from 0 n rates) (omega (arith, values_length n rates R.inside)))) p
