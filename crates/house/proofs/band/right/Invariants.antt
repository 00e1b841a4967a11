-- After i turns the places below i hold their products.
use Rattle.std.proofs.Common.{◌≡◌, ℕ, ◌-◌, List, ℤ, ◌*ℤ◌}
use lib.Ieee.{Float, binary64, of_int}
use Rattle.jobs.specs.Words.{job_of}
use Rattle.house.specs.Filled.{filled}
use Rattle.house.proofs.band.right.Given as goal

-- the product of each place
abbrev pub products : List ℤ → ℕ → Float
products ws i = of_int binary64 ((job_of ws).weight i *ℤ (job_of ws).crude i)

abbrev pub invariant-loop-i : goal.invariant-loop-i
invariant-loop-i l = filled (products l.job.words.now) (l.n - l.i) l.i l.made ≡ filled (products l.job.words.now) l.n 0 l.initial.made
