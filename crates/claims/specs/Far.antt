-- How far off a rate can be (document 02, W-208): what a table's differences from ours come to, which tables it is said of, and what is said of them.
use Rattle.std.specs.Prelude.{ℕ, ◌<◌, ℤ, pos, nat_abs, ◌+ℤ◌, ◌*ℤ◌, ◌≤ℤ◌}
use Rattle.whole.specs.Sum.{sum}
use Rattle.certificate.specs.Problem.{squared}
use Rattle.certificate.specs.Far.{off_by, Reaches}
use Rattle.jobs.specs.Job.{Job}
use Rattle.measure.specs.Loss.{rough_of}
use Rattle.claims.specs.Meets.{Meets, scaled_loss_of}

-- "the weighted squares of its differences from ours, plus k times the squared order-z differences of those", where δ has its differences from ours.
-- "For grids both smoothing sums count", as in the loss.
unfoldable pub farness_of : Job → (δ : ℕ → ℤ) → ℤ
farness_of j δ = sum j.cells (λ i. j.weight i *ℤ squared (δ i)) +ℤ rough_of j δ

-- "any table meeting the job, fractions included, whose loss isn't above F": X / d, with a scaled loss of at most d²F
pub record AsGood (j : Job) (F d : ℤ) (X : ℕ → ℤ) : Type 0 where
  pub at_least_one : pos 1 ≤ℤ d
  pub meets : Meets j d X
  pub no_worse : scaled_loss_of j d X ≤ℤ (d *ℤ d *ℤ F)

-- X / d "differs from ours by little": its differences "come to at most" `most`, which is most·d² for X and d·v; and each rate is off by r at most, for every
-- whole number r with w·r² at least `most` where the cell's weight w is positive, and for every r that is not less than what either end of its box leaves.
pub record Close (j : Job) (v : ℕ → ℤ) (most d : ℤ) (X : ℕ → ℤ) : Type 0 where
  pub together : farness_of j (off_by d X v) ≤ℤ (most *ℤ (d *ℤ d))
  pub each : (i : ℕ) → i < j.cells → (r : ℕ) → Reaches (j.weight i) (j.floor i) (j.ceiling i) (v i) most r → pos (nat_abs (off_by d X v i)) ≤ℤ (d *ℤ pos r)

-- Every table that is as good is close to ours: "at most 4G".
abbrev pub NoneFar : Job → (v : ℕ → ℤ) (F G : ℤ) → Type 0
NoneFar j v F G = (d : ℤ) (X : ℕ → ℤ) → AsGood j F d X → Close j v (pos 4 *ℤ G) d X
