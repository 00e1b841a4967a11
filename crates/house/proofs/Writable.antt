-- The house's words are always written: every value is an allowed rate, and every multiplier is 0. So the house refuses a job for nothing but its pack,
-- a thin pivot, or room.
use Rattle.std.proofs.Common.{◌≡◌, ℕ, List, length, Ok}
use lib.Ieee.{Float}
use Rattle.packs.specs.Writing.{in_room}
use Rattle.packs.specs.Walking.{packed}
use Rattle.jobs.specs.Job.{Job}
use Rattle.jobs.specs.Allowed.{Allowed}
use Rattle.jobs.specs.Packs.{write_proposal}
use Rattle.house.specs.Proposal.{words_of, written_of}
use Rattle.house.proofs.Fitting.{words_proposed}
use Rattle.house.proofs.Packable.{proposed_writes, proposed_packs}

module _ (j : Job) (a : Allowed j) (v : List Float) where
  pub house_writes : (n : ℕ) × ((write_proposal j.cells j.links (words_of j v)).outcome ≡ Ok n)
  house_writes = proposed_writes (words_of j v) (words_proposed j v a)

  -- and they are their own numbers
  pub house_packs : (room : ℕ) → in_room room (packed (words_of j v)) (Ok (length (packed (words_of j v)))) ≡ written_of room j v
  house_packs room = proposed_packs (words_of j v) (words_proposed j v a) room
