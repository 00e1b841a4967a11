-- The slots of the societies below one: they rise from society to society, and few counts make few slots.
use mathlib.Core.Path.{◌≡◌, refl, sym, ap, subst}
use Prim.Native.Nat.{ℕ, zero, suc, ◌+◌, ◌-◌, ◌*◌, ◌<◌, ◌≤◌}
use mathlib.Core.List.{List}
use native.Mathlib.Numerals.{add-one}
use lib.ListN.{length, take}
use lib.Seq.{take-suc}
use Rattle.std.specs.List.{sum_by}
use Rattle.std.proofs.lemmas.Grind.{common_steps}
use native.Mathlib.Omega.{arith}
use Rattle.counts.specs.Counts.{most_slots, count_in, slots_below}

pub below_none : (count : ℕ → ℕ) → slots_below count 0 ≡ 0
unfolding slots_below
below_none count = refl

pub below_suc : (count : ℕ → ℕ) (s : ℕ) → slots_below count (suc s) ≡ slots_below count s + count s
unfolding slots_below
below_suc count s = refl

pub below_next : (count : ℕ → ℕ) (s : ℕ) → slots_below count (s + 1) ≡ slots_below count s + count s
unfolding slots_below
below_next count s = ap (slots_below count) (add-one s)

rising : (count : ℕ → ℕ) (s d : ℕ) → slots_below count s ≤ slots_below count (s + d)
rising count s zero = let e : s + 0 ≡ s = omega arith in subst (λ (n : ℕ). slots_below count s ≤ slots_below count n) (sym e) (omega arith)
rising count s (suc d) =
    let k = rising count s d in
    let e : suc (s + d) ≡ s + suc d = omega arith in
    subst (λ (n : ℕ). slots_below count s ≤ slots_below count n) e (omega (arith, below_suc count (s + d)))

pub below_over : (count : ℕ → ℕ) (s t : ℕ) → s ≤ t → slots_below count s ≤ slots_below count t
below_over count s t h = let e : s + (t - s) ≡ t = omega arith in subst (λ (n : ℕ). slots_below count s ≤ slots_below count n) e (rising count s (t - s))

-- a society's own slots lie below those of every later one
pub below_apart : (count : ℕ → ℕ) (s t : ℕ) → s < t → slots_below count s + count s ≤ slots_below count t
below_apart count s t h = omega (arith, below_suc count s, below_over count (suc s) t (omega arith))

pub below_few : (count : ℕ → ℕ) (s : ℕ) → ((i : ℕ) → i < s → count i ≤ most_slots) → slots_below count s ≤ most_slots * s
below_few count zero h = omega (arith, below_none count)
below_few count (suc s) h = omega (arith, below_suc count s, h s (omega arith), below_few count s (λ i k. h i (omega arith)))

-- they are the sum of those counts
pub below_sum : (row : List ℕ) (s : ℕ) → s ≤ length row → sum_by (λ (x : ℕ). x) (take s row) ≡ slots_below (count_in row) s
below_sum row zero h = sym (below_none (count_in row))
below_sum row (suc s) h = let e = below_sum row s (omega arith) in let n = below_suc (count_in row) s in let l : s < length row = omega arith in rw (take-suc row s 0) (grind (arith, common_steps))
