-- What is promised of the house proposal: that it fits stands in `house` (`ProposalsFit`); here, that it has no privilege at the check, and that the
-- differences behind its A (`GridEntries` of `house`) are those of the loss.
use Rattle.std.specs.Prelude.{ℕ, ◌≤◌, ◌≡◌, List, ℤ}
use Rattle.certificate.specs.Differences.{difference}
use Rattle.jobs.specs.Job.{Job}
use Rattle.jobs.specs.Allowed.{Allowed}
use Rattle.measure.specs.Check.{check_of}
use Rattle.measure.specs.Loss.{family_of, family_across, across_at, roughness}
use Rattle.house.specs.Squares.{down_family, across_family}
use Rattle.house.specs.Proposal.{propose_of}
use Rattle.std.specs.Prelude.{Ok, Err}
use Rattle.refusals.specs.declared.Refusal.{Refusal}
use Rattle.refusals.specs.Refusals.{number_of}

-- The check is the same function for all. What it refuses a house proposal for is a broken link (8) or a gap above the tolerance (9), nothing else.
abbrev pub HouseUnprivileged : Type 0
HouseUnprivileged =
    (room : ℕ) (job : List ℕ) (n : ℕ) → (propose_of room job).outcome ≡ Ok n
    → (r : Refusal) → check_of job (propose_of room job).bytes ≡ Err r → 8 ≤ number_of r

-- W-205, "differences down the columns": those of A are those of the loss.
abbrev pub HouseDown : Type 0
HouseDown = (j : Job) → Allowed j → down_family j ≡ family_of j

-- "those along the rows": A's family numbers those that lie in a row, and the loss has 0 for the others; at every table v their squares come to the same.
abbrev pub HouseAcross : Type 0
HouseAcross =
    (j : Job) → Allowed j → (v : ℕ → ℤ)
    → roughness (across_family j) (difference (across_family j) v) ≡ roughness (family_across j) (across_at j v)
