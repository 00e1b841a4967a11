-- Cell terms (document 01, "Loss and gap"), and what makes any terms a certificate. A cell with w 1, r 5 and v three above its floor has the box term
-- 15 and the square term 7 (25/4 rounded up), and so the cell term 7.
use Rattle.std.specs.Prelude.{ℕ, zero, suc, ◌+◌, ◌-◌, ◌*◌, ◌/◌, ◌<◌, ◌≡◌, Bool, ◌&&◌, cond, leb, ℤ, pos, negsuc, neg_ℤ, nat_abs, ◌-ℤ◌, ◌*ℤ◌, ◌≤ℤ◌, ◌<ℤ◌}
use Rattle.std.specs.Int.Signed.{lt_z, le_z}
use Rattle.certificate.specs.Problem.{Problem, squared, residual}

-- r(v - lo) if r > 0; -r(hi - v) if r < 0; 0 if r = 0
abbrev pub box_term : (r lo hi v : ℤ) → ℤ
box_term (pos zero) lo hi v = pos 0
box_term (pos (suc r)) lo hi v = pos (suc r) *ℤ (v -ℤ lo)
box_term (negsuc r) lo hi v = neg_ℤ (negsuc r) *ℤ (hi -ℤ v)

-- x / m rounded up
abbrev pub quotient_up : (x m : ℕ) → ℕ
quotient_up x m = (x + (m - 1)) / m

-- r² / (4w) rounded up, for w > 0
abbrev pub square_term : (w r : ℤ) → ℤ
square_term w r = pos (quotient_up (nat_abs r * nat_abs r) (4 * nat_abs w))

abbrev pub smaller : ℤ → ℤ → ℤ
smaller s t = cond (le_z s t) s t

-- whether the square counts: w is not 0, and r does not lie outside -limit..limit
abbrev pub square_counts : (limit : ℕ) (w r : ℤ) → Bool
square_counts limit w r = lt_z (pos 0) w && leb (nat_abs r) limit

-- the cell term: the box term, or the smaller of it and the square term where that counts
abbrev pub cell_term : (limit : ℕ) (w r lo hi v : ℤ) → ℤ
cell_term limit w r lo hi v = cond (square_counts limit w r) (smaller (box_term r lo hi v) (square_term w r)) (box_term r lo hi v)

-- the cell terms of a table v with multipliers y
abbrev pub terms : (limit : ℕ) → Problem → (v y : ℕ → ℤ) → ℕ → ℤ
terms limit P v y i = cell_term limit (P.w i) (residual P v y i) (P.lo i) (P.hi i) (v i)

-- t is at least what a cell asks for: by its floor, by its ceiling, by neither where r = 0, or by the square
pub data Covers (w r lo hi v t : ℤ) : Type 0 where
  by_floor : pos 0 <ℤ r → (r *ℤ (v -ℤ lo)) ≤ℤ t → Covers w r lo hi v t
  by_ceiling : r <ℤ pos 0 → (neg_ℤ r *ℤ (hi -ℤ v)) ≤ℤ t → Covers w r lo hi v t
  flat : r ≡ pos 0 → pos 0 ≤ℤ t → Covers w r lo hi v t
  by_square : pos 0 <ℤ w → squared r ≤ℤ (pos 4 *ℤ w *ℤ t) → Covers w r lo hi v t

-- no weight, constant or multiplier is negative
pub record NotNegative (P : Problem) (y : ℕ → ℤ) : Type 0 where
  pub weights : (i : ℕ) → i < P.n → pos 0 ≤ℤ P.w i
  pub constants : (f : ℕ) → f < P.m → pos 0 ≤ℤ P.κ f
  pub multipliers : (j : ℕ) → j < P.p → pos 0 ≤ℤ y j

-- the terms t cover every cell
pub record Certified (P : Problem) (v y t : ℕ → ℤ) : Type 0 where
  pub signs : NotNegative P y
  pub cells : (i : ℕ) → i < P.n → Covers (P.w i) (residual P v y i) (P.lo i) (P.hi i) (v i) (t i)
