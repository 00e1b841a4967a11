-- After i turns the places below i hold their values.
use Rattle.std.proofs.Common.{◌≡◌, ℕ, ◌-◌, List, get_or, length, ℤ}
use lib.Ieee.{Float, nan}
use Rattle.jobs.specs.Words.{job_of}
use Rattle.house.specs.Filled.{filled}
use Rattle.house.specs.Proposal.{value_of}
use Rattle.house.proofs.proposal.values_into.Given as goal

-- the value of each place
abbrev pub values : List ℤ → List Float → ℕ → ℤ
values ws v i = value_of (job_of ws) i (get_or v i nan)

abbrev pub invariant-loop-i : goal.invariant-loop-i
invariant-loop-i l = (length l.made ≡ length l.initial.made) × (filled (values l.job.words.now l.v) (l.n - l.i) l.i l.made ≡ filled (values l.job.words.now l.v) l.n 0 l.initial.made)
