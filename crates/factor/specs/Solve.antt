-- The solve with the factor (document 01, "The house proposal"), each operation rounded once and in this order.
use Rattle.std.specs.Prelude.{ℕ, zero, suc, ◌+◌, ◌-◌, min, List, get_or, set, Ok, Err, Float}
use Rattle.std.specs.Float.{nan, binary64}
use Rattle.std.specs.Float.Ieee.{mul, div}
use Rattle.factor.specs.Factor.{Ending, pivot_at, multiplier_at, row_at, less_by, lowest}

-- "min(n-1, j+z)"
abbrev pub highest : (j z n : ℕ) → ℕ
highest j z n = min (j + z) (n - 1)

-- "L(j,m)·y(m)"
abbrev pub lower_term : (lj : List Float) (j : ℕ) (y : List Float) → ℕ → Float
lower_term lj j y m = mul binary64 (multiplier_at lj j m) (get_or y m nan)

-- "L(m,j)·v(m)"
abbrev pub upper_term : (z : ℕ) (l : List Float) (j : ℕ) (v : List Float) → ℕ → Float
upper_term z l j v m = mul binary64 (multiplier_at (row_at z l m) m j) (get_or v m nan)

-- "Forward: y(j) is w·u less L(j,m)·y(m), m rising": n of them from j on, each in the place of its w·u.
unfoldable pub forward_from : (l : List Float) (z n j : ℕ) (y : List Float) → List Float
unfolding less_by
forward_from l z zero j y = y
forward_from l z (suc n) j y =
    forward_from l z n (j + 1) (set y j (less_by (lower_term (row_at z l j) j y) (lowest j z) (j - lowest j z) (get_or y j nan)))

-- "Then t = y/d": n of them from j on.
unfoldable pub divided_from : (d : List Float) (n j : ℕ) (y : List Float) → List Float
divided_from d zero j y = y
divided_from d (suc n) j y = divided_from d n (j + 1) (set y j (div binary64 (get_or y j nan) (pivot_at d j)))

-- "Backward, j falling: v(j) is t(j) less L(m,j)·v(m), m rising from j+1 to min(n-1, j+z)": the `left` first of n cells.
unfoldable pub backward_from : (l : List Float) (z n left : ℕ) (v : List Float) → List Float
unfolding less_by
backward_from l z n zero v = v
backward_from l z n (suc j) v =
    backward_from l z n j (set v j (less_by (upper_term z l j v) (j + 1) (highest j z n - j) (get_or v j nan)))

-- The values before rounding, of a right side.
abbrev pub solution_of : (d l : List Float) (z n : ℕ) (right : List Float) → List Float
solution_of d l z n right = backward_from l z n n (divided_from d n 0 (forward_from l z n 0 right))

-- What a factor makes of a right side by how its making ended: the values before rounding, or, where it is thin, the right side as it was.
abbrev pub solved_by : (z n : ℕ) (right d l : List Float) → Ending → List Float
solved_by z n right d l (Ok whole) = solution_of d l z n right
solved_by z n right d l (Err thin) = right
