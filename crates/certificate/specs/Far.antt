-- How far off a table can be (W-208): what a table is off from another by, what that comes to, and when a number is as far as one rate can be off.
use Rattle.std.specs.Prelude.{ℕ, ℤ, pos, ◌+ℤ◌, ◌-ℤ◌, ◌*ℤ◌, ◌≤ℤ◌, ◌<ℤ◌}
use Rattle.whole.specs.Sum.{sum}
use Rattle.certificate.specs.Problem.{Problem, squared, rough}

-- what the table X / d is off from v by, times d
abbrev pub off_by : (d : ℤ) (X v : ℕ → ℤ) → ℕ → ℤ
off_by d X v i = X i -ℤ d *ℤ v i

-- the farness, what differences δ come to together: their weighted squares, plus the constants times the squared forms of them
abbrev pub farness : Problem → (δ : ℕ → ℤ) → ℤ
farness P δ = sum P.n (λ i. P.w i *ℤ squared (δ i)) +ℤ rough P δ

-- Where the farness is at most `most`, the rate v of a cell can be off by r at most: by its weight, if that is positive and w·r² is at least `most`, or by
-- its box, if neither end of that is farther from v than r.
pub data Reaches (w lo hi v most : ℤ) (r : ℕ) : Type 0 where
  by_weight : pos 0 <ℤ w → most ≤ℤ (w *ℤ squared (pos r)) → Reaches w lo hi v most r
  by_box : (v -ℤ lo) ≤ℤ pos r → (hi -ℤ v) ≤ℤ pos r → Reaches w lo hi v most r
