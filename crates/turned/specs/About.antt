-- What a job is whose cells are turned about, field by field.
use Rattle.std.specs.Prelude.{ℕ, ◌<◌, ◌≡◌}
use Rattle.jobs.specs.Job.{Job, link_coefficient}

-- The job r is j with its cells turned about by τ: each cell has what the cell τ i had, each link at it the coefficient that it had at τ i, and all else stays.
pub record TurnedAbout (τ : ℕ → ℕ) (j r : Job) : Type 0 where
  pub society : r.society ≡ j.society
  pub number : r.number ≡ j.number
  pub cells : r.cells ≡ j.cells
  pub grid : r.grid ≡ j.grid
  pub rows : r.rows ≡ j.rows
  pub columns : r.columns ≡ j.columns
  pub order : r.order ≡ j.order
  pub across : r.across ≡ j.across
  pub second : r.second ≡ j.second
  pub constant : r.constant ≡ j.constant
  pub tolerance : r.tolerance ≡ j.tolerance
  pub crude : (i : ℕ) → i < j.cells → r.crude i ≡ j.crude (τ i)
  pub weight : (i : ℕ) → i < j.cells → r.weight i ≡ j.weight (τ i)
  pub floor : (i : ℕ) → i < j.cells → r.floor i ≡ j.floor (τ i)
  pub ceiling : (i : ℕ) → i < j.cells → r.ceiling i ≡ j.ceiling (τ i)
  pub links : r.links ≡ j.links
  pub terms : (l : ℕ) → l < j.links → r.terms l ≡ j.terms l
  pub coefficient : (l : ℕ) → l < j.links → (i : ℕ) → i < j.cells → link_coefficient r l i ≡ link_coefficient j l (τ i)
  pub bound : (l : ℕ) → l < j.links → r.bound l ≡ j.bound l
