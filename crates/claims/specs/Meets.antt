-- What it is for a table to meet a job (document 01, "Loss and gap"): for one of whole rates, and for one of fractional rates, X / d, which has a
-- scaled loss.
use Rattle.std.specs.Prelude.{ℕ, ◌≤◌, ◌<◌, ℤ, pos, ◌+ℤ◌, ◌-ℤ◌, ◌*ℤ◌, ◌≤ℤ◌}
use Rattle.whole.specs.Sum.{sum}
use Rattle.certificate.specs.Problem.{squared}
use Rattle.jobs.specs.Job.{Job}
use Rattle.measure.specs.Loss.{rough_of}
use Rattle.measure.specs.Gap.{link_sum, cell_term_of, link_term_of, gap_of}

-- The value of the cell i is in its box; "A link j says: the sum of coefficient times rate over its terms is at most b."
abbrev pub InBox : Job → (v : ℕ → ℤ) → (i : ℕ) → Type 0
InBox j v i = (j.floor i ≤ℤ v i) × (v i ≤ℤ j.ceiling i)

abbrev pub LinkHolds : Job → (v : ℕ → ℤ) → (l : ℕ) → Type 0
LinkHolds j v l = link_sum j l v ≤ℤ j.bound l

abbrev pub EveryInBox : Job → (v : ℕ → ℤ) → Type 0
EveryInBox j v = (i : ℕ) → i < j.cells → InBox j v i

abbrev pub EveryLinkHolds : Job → (v : ℕ → ℤ) → Type 0
EveryLinkHolds j v = (l : ℕ) → l < j.links → LinkHolds j v l

-- "A table with fractional rates is a whole number d of at least 1 and whole numbers X, standing for X/d. It meets the job if lo·d <= X <= hi·d in
-- each cell and each link's sum over X is at most b·d."
pub record Meets (j : Job) (d : ℤ) (X : ℕ → ℤ) : Type 0 where
  pub floors : (i : ℕ) → i < j.cells → (j.floor i *ℤ d) ≤ℤ X i
  pub ceilings : (i : ℕ) → i < j.cells → X i ≤ℤ (j.ceiling i *ℤ d)
  pub sums : (l : ℕ) → l < j.links → link_sum j l X ≤ℤ (j.bound l *ℤ d)

-- "sum of w(X-d·u)^2 + k times the sum of X's squared differences"; for a grid of both directions, as in the loss.
unfoldable pub scaled_loss_of : Job → (d : ℤ) → (X : ℕ → ℤ) → ℤ
scaled_loss_of j d X = sum j.cells (λ i. j.weight i *ℤ squared (X i -ℤ d *ℤ j.crude i)) +ℤ rough_of j X

-- "every table that meets the job, fractional ones included, has a loss of at least F - G": d²(F - G) is at most its scaled loss.
abbrev pub NoneBelow : Job → (F G : ℤ) → Type 0
NoneBelow j F G = (d : ℤ) (X : ℕ → ℤ) → pos 1 ≤ℤ d → Meets j d X → (d *ℤ d *ℤ (F -ℤ G)) ≤ℤ scaled_loss_of j d X

-- "no term is negative": no cell term, no link term, and so not the gap; and no running total, of the first m cells and the first q links, is above it.
pub record NoneNegative (j : Job) (v y : ℕ → ℤ) : Type 0 where
  pub cell_terms : (i : ℕ) → i < j.cells → pos 0 ≤ℤ cell_term_of j v y i
  pub link_terms : (l : ℕ) → l < j.links → pos 0 ≤ℤ link_term_of j v y l
  pub gap : pos 0 ≤ℤ gap_of j v y
  pub running : (m q : ℕ) → m ≤ j.cells → q ≤ j.links → (sum m (cell_term_of j v y) +ℤ sum q (link_term_of j v y)) ≤ℤ gap_of j v y
