-- The system (document 01, "The house proposal"): "It solves (W + kK'K)v = Wu in f64 … A is symmetric with band z, its entries whole and cast."
use Rattle.std.specs.Prelude.{ℕ, suc, ◌+◌, ◌-◌, Bool, false, ◌&&◌, List, [], ◌∷◌, replicate, ℤ, pos, ◌+ℤ◌, ◌*ℤ◌, ◌==◌, nat_le, nat_lt, Float}
use Rattle.std.specs.Float.{fin, binary64}
use Rattle.std.specs.Float.Ieee.{of_int}
use Rattle.std.specs.Prelude.{if◌then◌else◌}
use Rattle.whole.specs.Sum.{sum}
use Rattle.rows.specs.Rows.{row_of}
use Rattle.jobs.specs.Job.{Job}
use Rattle.house.specs.Filled.{filled}

-- "D at i, for i from 0 to n-z-1, is the sum over m = 0..z of s(m) times v(i+m)": whether there is a difference at i - m, and it uses the cell
-- i - o too, as its term m - o.
abbrev pub uses_both : (n z i o m : ℕ) → Bool
uses_both n z i o m = nat_le o m && (nat_le m i && nat_lt (i - m + z) n)

abbrev pub product_term : (n z i o m : ℕ) → ℤ
product_term n z i o m = if uses_both n z i o m then row_of z m *ℤ row_of z (m - o) else pos 0

-- K'K at (i, i - o): over every difference that uses both cells, the product of its two coefficients.
abbrev pub squares_at : (n z i o : ℕ) → ℤ
squares_at n z i o = sum (suc z) (product_term n z i o)

-- W + kK'K at (i, i - o), by the weight of the cell i and K'K there; W is 0 off the diagonal.
abbrev pub whole_entry : (w k squares : ℤ) (o : ℕ) → ℤ
whole_entry w k squares o = if o == 0 then w +ℤ k *ℤ squares else k *ℤ squares

abbrev pub entry_of : (w k : ℤ) (n z i o : ℕ) → Float
entry_of w k n z i o = of_int binary64 (whole_entry w k (squares_at n z i o) o)

-- Row i, by offset.
abbrev pub entries_of : (w k : ℤ) (n z i : ℕ) → List Float
entries_of w k n z i = entry_of w k n z i 0 ∷ entry_of w k n z i 1 ∷ entry_of w k n z i 2 ∷ entry_of w k n z i 3 ∷ entry_of w k n z i 4 ∷ []

abbrev pub zero64 : Float
zero64 = fin false 0 (pos 0)

-- The band of a job: a row for each cell, and zeros after the last.
abbrev pub band_of : Job → List (List Float)
band_of j = filled (λ i. entries_of (j.weight i) j.constant j.cells j.order i) j.cells 0 (replicate 120 (replicate 5 zero64))

-- "Wu", by cell, and zeros after the last.
abbrev pub right_of : Job → List Float
right_of j = filled (λ i. of_int binary64 (j.weight i *ℤ j.crude i)) j.cells 0 (replicate 120 zero64)
