-- How the theorem is used: the job of document 01's checking program, three cells with crude rates 0 7 0, weight 1, box 0..100, order 2 and constant 1, at
-- the values 2 3 2. Its loss is 28 and its gap 0, so no table that meets the job has a loss below 28.
use Prim.Native.Nat.{ℕ}
use mathlib.Core.Path.{◌≡◌, refl}
use mathlib.Core.Bool.{cond}
use lib.Dec.{eqb}
use lib.IntN.{ℤ, pos, negsuc, ◌*ℤ◌}
use lib.Signed.{◌≤ℤ◌}
use Rattle.whole.specs.Sum.{sum}
use Rattle.whole.proofs.Order.{pos_nonneg}
use Rattle.certificate.specs.Problem.{Problem, loss, scaled_loss, gap, Meets}
use Rattle.certificate.specs.Terms.{square_term, cell_term, terms}
use Rattle.certificate.specs.Differences.{Family, coefficient}
use Rattle.certificate.proofs.Certificate.{lower_bound}
use Rattle.certificate.proofs.Terms.{rule_certifies}

abbrev differences : Family
differences = record { row = λ m. cond (eqb m 1) (negsuc 1) (pos 1); order = 2; stride = 1; count = 1; start = λ f. f }

abbrev job : Problem
job = record {
  n = 3;
  u = λ i. cond (eqb i 1) (pos 7) (pos 0);
  w = λ i. pos 1;
  lo = λ i. pos 0;
  hi = λ i. pos 100;
  m = differences.count;
  κ = λ f. pos 1;
  a = coefficient differences;
  p = 0;
  c = λ j i. pos 0;
  b = λ j. pos 0;
}

abbrev values : ℕ → ℤ
values i = cond (eqb i 1) (pos 3) (pos 2)

abbrev none : ℕ → ℤ
none j = pos 0

abbrev limit : ℕ
limit = 2000000000

pub loss_is_28 : loss job values ≡ pos 28
unfolding sum
loss_is_28 = refl

pub gap_is_0 : gap job values none (terms limit job values none) ≡ pos 0
unfolding sum
gap_is_0 = refl

-- the cell term of specs/Terms.antt
pub term_is_7 : cell_term limit (pos 1) (pos 5) (pos 0) (pos 10) (pos 3) ≡ pos 7
term_is_7 = refl

-- "with r = 1, w = 1 that side of the choice must be 1"
pub square_is_1 : square_term (pos 1) (pos 1) ≡ pos 1
square_is_1 = refl

pub best : (d : ℤ) (X : ℕ → ℤ) → pos 1 ≤ℤ d → Meets job d X → (d *ℤ d *ℤ pos 28) ≤ℤ scaled_loss job d X
unfolding sum
best =
    lower_bound job values none (terms limit job values none)
    (rule_certifies limit job values none record {
      weights = λ i h. pos_nonneg 1;
      constants = λ f h. pos_nonneg 1;
      multipliers = λ j h. pos_nonneg 0;
    })
