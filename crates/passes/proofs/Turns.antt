-- One turn of each loop of the method, and its end: the loops run as their definitions do.
use Prim.Native.Nat.{ℕ, suc, ◌+◌, ◌-◌, ◌≤◌, ◌<◌}
use mathlib.Core.Path.{◌≡◌, ap}
use mathlib.Core.Bool.{true, false}
use mathlib.Core.List.{List}
use native.Mathlib.Omega.{arith}
use lib.ListN.{get_or, set}
use lib.Ieee.{Float, nan, binary64, add, sub, mul, lt, of_int, of_bits}
use Rattle.house.specs.Band.{zero64}
use Rattle.passes.specs.Hildreth.{Link, placed_from, plus_by, larger_of, fallen_from, State, with_link, improved_of, pass_from}

-- from i to n, a turn is left for i and one for each number after it
turn : (i n : ℕ) → i < n → n - i ≡ suc (n - (i + 1))
turn i n h = omega arith

none : (i n : ℕ) → n ≤ i → n - i ≡ 0
none i n h = omega arith

module _ (k : Link) (m n : ℕ) (b : List Float) where
  pub placed_more : m < n → placed_from k (n - m) m b ≡ placed_from k (n - (m + 1)) (m + 1) (set b (k.cell m) (of_int binary64 (k.coefficient m)))
  unfolding placed_from
  placed_more h = ap (λ (i : ℕ). placed_from k i m b) (turn m n h)

  pub placed_done : n ≤ m → placed_from k (n - m) m b ≡ b
  unfolding placed_from
  placed_done h = ap (λ (i : ℕ). placed_from k i m b) (none m n h)

module _ (t : ℕ → Float) (m n : ℕ) (x : Float) where
  pub plus_more : m < n → plus_by t m (n - m) x ≡ plus_by t (m + 1) (n - (m + 1)) (add binary64 x (t m))
  unfolding plus_by
  plus_more h = ap (λ (k : ℕ). plus_by t m k x) (turn m n h)

  pub plus_done : n ≤ m → plus_by t m (n - m) x ≡ x
  unfolding plus_by
  plus_done h = ap (λ (k : ℕ). plus_by t m k x) (none m n h)

module _ (x : List Float) (h : Float) (i n : ℕ) (v : List Float) where
  pub fallen_more : i < n → fallen_from x h (n - i) i v ≡ fallen_from x h (n - (i + 1)) (i + 1) (set v i (sub binary64 (get_or v i nan) (mul binary64 h (get_or x i nan))))
  unfolding fallen_from
  fallen_more l = ap (λ (k : ℕ). fallen_from x h k i v) (turn i n l)

  pub fallen_done : n ≤ i → fallen_from x h (n - i) i v ≡ v
  unfolding fallen_from
  fallen_done l = ap (λ (k : ℕ). fallen_from x h k i v) (none i n l)

module _ (d l : List Float) (z cells : ℕ) (link : ℕ → Link) (i n : ℕ) (s : State) where
  pub pass_more : i < n
      → pass_from d l z cells link (n - i) i s
      ≡ pass_from d l z cells link (n - (i + 1)) (i + 1) (with_link i s (improved_of d l z cells (link i) (get_or s.multipliers i nan) s.values))
  unfolding pass_from
  pass_more h = ap {B = State} (λ (k : ℕ). pass_from d l z cells link k i s) (turn i n h)

  pub pass_done : n ≤ i → pass_from d l z cells link (n - i) i s ≡ s
  unfolding pass_from
  pass_done h = ap {B = State} (λ (k : ℕ). pass_from d l z cells link k i s) (none i n h)

-- the larger of 0 and a number, by the comparison
pub above_zero : {t : Float} → lt (of_bits binary64 0) t ≡ true → t ≡ larger_of t
unfolding of_bits
above_zero e = rw e

pub not_above_zero : (t : Float) → lt (of_bits binary64 0) t ≡ false → zero64 ≡ larger_of t
unfolding of_bits
not_above_zero t e = rw e
