-- After i turns the places below i hold their rows.
use Rattle.std.proofs.Common.{◌≡◌, ℕ, ◌-◌, List, ℤ}
use lib.Ieee.{Float}
use Rattle.jobs.specs.Words.{job_of}
use Rattle.house.specs.Filled.{filled}
use Rattle.house.specs.Band.{entries_of}
use Rattle.house.proofs.band.band.Given as goal

-- the row of each place
abbrev pub lines : List ℤ → (n z : ℕ) → ℕ → List Float
lines ws n z i = entries_of ((job_of ws).weight i) (job_of ws).constant n z i

abbrev pub invariant-loop-i : goal.invariant-loop-i
invariant-loop-i l = filled (lines l.job.words.now l.n l.z) (l.n - l.i) l.i l.made ≡ filled (lines l.job.words.now l.n l.z) l.n 0 l.initial.made
