-- The factor of a band (document 01, "The house proposal"), each operation rounded once and in this order. A line's band is its order wide, a grid's
-- its order down times its columns (document 02, W-205: "by 01's steps with z there the order down times the columns").
use Rattle.std.specs.Prelude.{ℕ, zero, suc, ◌+◌, ◌-◌, Bool, true, false, List, Result, Ok, Err, pos, negsuc, get_or, set, take, drop, replicate, Float}
use Rattle.std.proofs.lemmas.List.Edits.{sets}
use Rattle.std.specs.Float.{fin, nan, binary64}
use Rattle.std.specs.Float.Ieee.{sub, mul, div, lt}
use Rattle.factor.specs.declared.Thin.{Thin}

-- A band gives for row j its entries: at the offset o stands A(j, j - o).
abbrev pub Band : Type 0
Band = ℕ → List Float

-- The pivots d, and the multipliers of a row: at the offset o of row j stands L(j, j - 1 - o).
abbrev pub pivot_at : List Float → ℕ → Float
pivot_at d m = get_or d m nan

abbrev pub multiplier_at : List Float → (j m : ℕ) → Float
multiplier_at lj j m = get_or lj (j - m - 1) nan

-- "max(0, j-z)"
abbrev pub lowest : (j z : ℕ) → ℕ
lowest j z = j - z

-- The multipliers of all rows stand one row after another, and row j has those from max(0, j-z) to j-1: where it starts.
unfoldable pub start_of : (z j : ℕ) → ℕ
start_of z zero = 0
start_of z (suc j) = start_of z j + (j - lowest j z)

-- Those of row j.
abbrev pub row_at : (z : ℕ) (l : List Float) (j : ℕ) → List Float
row_at z l j = take (j - lowest j z) (drop (start_of z j) l)

-- x less t(m), one after the other, for n numbers m rising from the given one.
unfoldable pub less_by : (ℕ → Float) → (m n : ℕ) → Float → Float
less_by t m zero x = x
less_by t m (suc n) x = less_by t (m + 1) n (sub binary64 x (t m))

-- "(L(j,m)·d(m))·L(i,m)", of the multipliers of the rows j and i.
abbrev pub product_of : (lj : List Float) (j : ℕ) (li : List Float) (i : ℕ) (d : List Float) → ℕ → Float
product_of lj j li i d m = mul binary64 (mul binary64 (multiplier_at lj j m) (pivot_at d m)) (multiplier_at li i m)

-- "L(j,i) is A(j,i) less (L(j,m)·d(m))·L(i,m) for m rising from max(0, j-z) to i-1, the rest divided by d(i)"; `made` has L(j,m).
unfoldable pub multiplier_of : (z : ℕ) (entries d l : List Float) (j lo i : ℕ) (made : List Float) → Float
unfolding less_by
multiplier_of z entries d l j lo i made =
    div binary64 (less_by (product_of made j (row_at z l i) i d) lo (i - lo) (get_or entries (j - i) nan)) (pivot_at d i)

-- "For j rising, for i from max(0, j-z) to j-1": n multipliers of row j, from the given i on.
unfoldable pub row_from : (z : ℕ) (entries d l : List Float) (j lo n i : ℕ) (made : List Float) → List Float
unfolding multiplier_of
row_from z entries d l j lo zero i made = made
row_from z entries d l j lo (suc n) i made =
    row_from z entries d l j lo n (i + 1) (set made (j - i - 1) (multiplier_of z entries d l j lo i made))

abbrev pub no_multipliers : (n : ℕ) → List Float
no_multipliers n = replicate n (fin false 0 (pos 0))

-- "d(j) is A(j,j) less (L(j,m)·d(m))·L(j,m), m rising."
unfoldable pub pivot_of : (entries d : List Float) (j lo : ℕ) (lj : List Float) → Float
unfolding less_by
pivot_of entries d j lo lj = less_by (product_of lj j lj j d) lo (j - lo) (get_or entries 0 nan)

-- 1/1,024
abbrev pub least : Float
least = fin false 1 (negsuc 9)

-- What a step answers of its pivot: accepted, or the one that failed.
abbrev pub Pivot : Type 0
Pivot = Result Float Float

abbrev pub judged_by : Bool → Float → Pivot
judged_by true x = Ok x
judged_by false x = Err x

-- "thin if d(j) is not greater than 1/1,024": a NaN is greater than nothing.
abbrev pub judged : Float → Pivot
judged x = judged_by (lt least x) x

-- The pivot that an answer carries.
abbrev pub value_of : Pivot → Float
value_of (Ok x) = x
value_of (Err x) = x

-- "Each step answers either the factor row with its pivot, or thin with the pivot that failed": the row made, and d(j).
pub record Made : Type 0 where
  pub pivot : Float
  pub multipliers : List Float

unfoldable pub factor_step : (entries d l : List Float) (z j : ℕ) → Made
unfolding row_from pivot_of
factor_step entries d l z j =
    let lj = row_from z entries d l j (lowest j z) (j - lowest j z) (lowest j z) (no_multipliers (j - lowest j z)) in
    record { pivot = pivot_of entries d j (lowest j z) lj; multipliers = lj }

-- How the factoring ends: with every row, or thin at a cell, with the pivot that failed.
abbrev pub Ending : Type 0
Ending = Result (Unit {0}) Thin

-- The same, and the rows made: pivots and multipliers, cell by cell.
pub record Factor : Type 0 where
  pub ending : Ending
  pub pivots : List Float
  pub multipliers : List Float

abbrev pub on_pivot : Pivot → (j : ℕ) (d l : List Float) → Factor → Factor
on_pivot (Ok x) j d l rest = rest
on_pivot (Err x) j d l rest = record { ending = Err (record { cell = j; pivot = x }); pivots = d; multipliers = l }

-- n rows from row j on, or up to the first thin one.
unfoldable pub factor_from : Band → (z n j : ℕ) (d l : List Float) → Factor
unfolding factor_step start_of
factor_from band z zero j d l = record { ending = Ok tt; pivots = d; multipliers = l }
factor_from band z (suc n) j d l =
    let step = factor_step (band j) d l z j in
    let d1 = set d j step.pivot in
    let l1 = sets l (start_of z j) step.multipliers in
    on_pivot (judged step.pivot) j d1 l1 (factor_from band z n (j + 1) d1 l1)

-- A factor of n rows, made in lists of zeros for the pivots and for as many multipliers as there is room for.
abbrev pub factor_of : (room : ℕ) → Band → (z n : ℕ) → Factor
factor_of room band z n = factor_from band z n 0 (replicate 120 (fin false 0 (pos 0))) (replicate room (fin false 0 (pos 0)))
