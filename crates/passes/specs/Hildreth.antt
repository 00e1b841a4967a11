-- Document 02, W-207: "Hildreth's method of improving one multiplier at a time, links in rising order, in f64, on the factor that exists", each operation
-- rounded once and in this order.
use Rattle.std.specs.Prelude.{ℕ, zero, suc, ◌+◌, false, List, ℤ, pos, negsuc, get_or, set, replicate, Float}
use Rattle.std.specs.Float.{fin, nan, binary64}
use Rattle.std.specs.Float.Ieee.{add, sub, mul, div, lt, of_int}
use Rattle.std.specs.Prelude.{if◌then◌else◌}
use Rattle.jobs.specs.Job.{Job}
use Rattle.house.specs.Band.{zero64}
use Rattle.factor.specs.Solve.{solution_of}
use Rattle.house.specs.Grid.{reach}
use Rattle.house.specs.Proposal.{solved_of}

-- A link, as the method speaks of it: its terms, the cell and the coefficient of each, and its bound b.
pub record Link : Type 0 where
  pub terms : ℕ
  pub cell : ℕ → ℕ
  pub coefficient : ℕ → ℤ
  pub bound : ℤ

abbrev pub link_of : Job → (l : ℕ) → Link
link_of j l = record { terms = j.terms l; cell = j.cell l; coefficient = j.coefficient l; bound = j.bound l }

-- "those coefficients on the right instead of Wu": each cast and in its cell, 0 elsewhere; n of them from the term m on.
unfoldable pub placed_from : Link → (n m : ℕ) → List Float → List Float
placed_from k zero m b = b
placed_from k (suc n) m b = placed_from k n (m + 1) (set b (k.cell m) (of_int binary64 (k.coefficient m)))

abbrev pub right_for : Link → List Float
right_for k = placed_from k k.terms 0 (replicate 120 zero64)

-- x plus t(m), one after the other, for n numbers m rising from the given one.
unfoldable pub plus_by : (ℕ → Float) → (m n : ℕ) → Float → Float
plus_by t m zero x = x
plus_by t m (suc n) x = plus_by t (m + 1) n (add binary64 x (t m))

-- "s is the link's sum over the values, c its coefficients times the solution": from 0 on, coefficient times number for terms rising.
abbrev pub term_over : Link → List Float → ℕ → Float
term_over k xs m = mul binary64 (of_int binary64 (k.coefficient m)) (get_or xs (k.cell m) nan)

unfoldable pub sum_over : Link → List Float → Float
unfolding plus_by
sum_over k xs = plus_by (term_over k xs) 0 k.terms zero64

-- "the larger of 0 and": no number gives 0.
abbrev pub larger_of : Float → Float
larger_of t = if lt zero64 t then t else zero64

abbrev pub two : Float
two = fin false 1 (pos 1)

abbrev pub half : Float
half = fin false 1 (negsuc 0)

-- "each link's multiplier becomes the larger of 0 and itself plus 2(s-b)/c"
unfoldable pub raised_of : (y s b c : Float) → Float
raised_of y s b c = larger_of (add binary64 y (div binary64 (mul binary64 two (sub binary64 s b)) c))

-- "the values then fall by half the multiplier's change times that solution": n of them from i on.
abbrev pub half_change : (new y : Float) → Float
half_change new y = mul binary64 half (sub binary64 new y)

unfoldable pub fallen_from : (x : List Float) (h : Float) (n i : ℕ) (v : List Float) → List Float
fallen_from x h zero i v = v
fallen_from x h (suc n) i v = fallen_from x h n (i + 1) (set v i (sub binary64 (get_or v i nan) (mul binary64 h (get_or x i nan))))

-- A link's multiplier improved, and the values that have fallen.
pub record Improved : Type 0 where
  pub multiplier : Float
  pub values : List Float

unfoldable pub improved_of : (d l : List Float) (z n : ℕ) → Link → (y : Float) (v : List Float) → Improved
unfolding sum_over raised_of fallen_from
improved_of d l z n k y v =
    let x = solution_of d l z n (right_for k) in
    let new = raised_of y (sum_over k v) (of_int binary64 k.bound) (sum_over k x) in
    record { multiplier = new; values = fallen_from x (half_change new y) n 0 v }

-- The values and the multipliers between two links, and between two passes.
pub record State : Type 0 where
  pub values : List Float
  pub multipliers : List Float

abbrev pub with_link : (l : ℕ) → State → Improved → State
with_link l s i = record { values = i.values; multipliers = set s.multipliers l i.multiplier }

-- "links in rising order": n of them from the link l on.
unfoldable pub pass_from : (d l : List Float) (z cells : ℕ) (link : ℕ → Link) (n i : ℕ) → State → State
unfolding improved_of
pass_from d l z cells link zero i s = s
pass_from d l z cells link (suc n) i s =
    pass_from d l z cells link n (i + 1) (with_link i s (improved_of d l z cells (link i) (get_or s.multipliers i nan) s.values))

abbrev pub pass_of : Job → State → State
pass_of j s = pass_from (solved_of j).pivots (solved_of j).multipliers (reach j) j.cells (link_of j) j.links 0 s

-- "Multipliers start at 0 and values at the house's before rounding"; then pass after pass.
unfoldable pub after_pass : Job → (passes : ℕ) → State
unfolding pass_from
after_pass j zero = record { values = (solved_of j).values; multipliers = replicate 160 zero64 }
after_pass j (suc p) = pass_of j (after_pass j p)
