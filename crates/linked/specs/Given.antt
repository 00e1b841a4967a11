-- What the functions of this crate count on: a job that was read, with its factor and the values before rounding. Nothing promised rests on this file.
use Rattle.std.specs.Prelude.{ℕ, ◌≤◌, ◌≡◌, List, ℤ, Float}
use Rattle.jobs.specs.Words.{cells_of, job_of}
use Rattle.factor.specs.declared.Factor.{Factor}
use Rattle.house.specs.Grid.{reach}
use Rattle.house.specs.Proposal.{solved_of}
use Rattle.passes.specs.Hildreth.{after_pass}
use Rattle.passes.specs.OnWords.{state}
use Rattle.linked.specs.Proposal.{most_passes}

-- A job, and its factor.
pub record Factored (ws : List ℤ) (f : Factor) : Type 0 where
  pub n_is : f.cells ≡ cells_of ws
  pub z_is : f.reach ≡ reach (job_of ws)
  pub d_is : f.pivots.now ≡ (solved_of (job_of ws)).pivots
  pub l_is : f.multipliers.now ≡ (solved_of (job_of ws)).multipliers

-- A search that starts where the sequence does.
pub record Starting (ws : List ℤ) (f : Factor) (given : ℕ) (v y : List Float) : Type 0 where
  pub factored : Factored ws f
  pub few : given ≤ most_passes
  pub starts_there : state v y ≡ after_pass (job_of ws) 0
