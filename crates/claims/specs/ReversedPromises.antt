-- What is promised of packs written in reverse (W-213), in each of the three ways. The proof of each stands in proofs/ReversedPromises.antt.
use Rattle.std.specs.Prelude.{ℕ, ◌%◌, ◌<◌, ◌≡◌, false, List, [], ◌∷◌, ℤ, drop}
use Rattle.whole.specs.Turned.{from_last}
use Rattle.packs.specs.Promises.{AllBytes}
use Rattle.jobs.specs.Job.{Job}
use Rattle.jobs.specs.Allowed.{Allowed}
use Rattle.jobs.specs.Packs.{job_in, read_job}
use Rattle.turned.specs.About.{TurnedAbout}
use Rattle.measure.specs.Check.{check_of}
use Rattle.bench.specs.Calls.{CheckSays, ReadSays}
use Rattle.claims.specs.Read.{values_in, multipliers_in, Reads, BothRead}
use Rattle.claims.specs.Worked.{plain, linked, select_job}
use Rattle.claims.specs.Reversed.{Way, rows_alone, columns_alone, both_together, cell_from, reversed_job, reversed_proposal, unplaced}
use Rattle.std.specs.Prelude.{Ok, Err}
use Rattle.refusals.specs.declared.Refusal.TheVariants.{GapAbove}

-- What can be read can be read in reverse, a job pack into as many words and with it a proposal pack; and the job is allowed, its positive weights (4) too.
pub record ReversedReads : Type 0 where
  pub jobs : (way : Way) (job : List ℕ) (k : ℕ) → (read_job job).outcome ≡ Ok k → (read_job (reversed_job way job)).outcome ≡ Ok k
  pub allowed : (way : Way) (job : List ℕ) → Reads (read_job job).outcome → Allowed (job_in (reversed_job way job))
  pub proposals : (way : Way) (job proposal : List ℕ) → BothRead job proposal → BothRead (reversed_job way job) (reversed_proposal way job proposal)

-- The proposal of the second pair of packs is that of the first with its cells turned about by τ; multipliers stay.
pub record TableTurned (τ : ℕ → ℕ) (job proposal job' proposal' : List ℕ) : Type 0 where
  pub value : (i : ℕ) → i < (job_in job).cells → values_in job' proposal' i ≡ values_in job proposal (τ i)
  pub multiplier : (l : ℕ) → l < (job_in job).links → multipliers_in job' proposal' l ≡ multipliers_in job proposal l

-- "written in reverse with boxes, weights and link cells": what is read in reverse is the job and the proposal turned about.
pub record ReversedIs : Type 0 where
  pub jobs : (way : Way) (job : List ℕ) → Reads (read_job job).outcome → TurnedAbout (cell_from way (job_in job)) (job_in job) (job_in (reversed_job way job))
  pub tables : (way : Way) (job proposal : List ℕ) → BothRead job proposal
      → TableTurned (cell_from way (job_in job)) job proposal (reversed_job way job) (reversed_proposal way job proposal)

-- Which cell that is: of both together the cells from the last to the first. Of a job that is no grid the rows alone do the same, and the columns alone nothing.
pub record CellsFromLast : Type 0 where
  pub both : (j : Job) → Allowed j → (i : ℕ) → i < j.cells → cell_from both_together j i ≡ from_last j.cells i
  pub line : (j : Job) → Allowed j → j.grid ≡ false → (i : ℕ) → i < j.cells → cell_from rows_alone j i ≡ from_last j.cells i
  pub stays : (j : Job) → Allowed j → j.grid ≡ false → (i : ℕ) → i < j.cells → cell_from columns_alone j i ≡ i

-- "Show that a job and proposal that can be read, written in reverse with boxes, weights and link cells, get the same number at the check, with the same F
-- and G; places may differ."
abbrev pub CheckedInReverse : Type 0
CheckedInReverse =
    (way : Way) (job proposal : List ℕ) → BothRead job proposal
    → unplaced (check_of (reversed_job way job) (reversed_proposal way job proposal)) ≡ unplaced (check_of job proposal)

-- The same of any two pairs of packs of which one is the other in reverse, whoever wrote them.
abbrev pub CheckedAlike : Type 0
CheckedAlike =
    (way : Way) (job proposal job' proposal' : List ℕ) → BothRead job proposal → BothRead job' proposal'
    → TurnedAbout (cell_from way (job_in job)) (job_in job) (job_in job') → TableTurned (cell_from way (job_in job)) job proposal job' proposal'
    → unplaced (check_of job' proposal') ≡ unplaced (check_of job proposal)

-- Places do differ: document 01's v 2 3 3 with T 8 is refused with 9 at cell 1, and in reverse at cell 0.
pub record PlacesDiffer : Type 0 where
  pub as_it_is : check_of (plain (8 ∷ []) 0 7 0) (2 ∷ 3 ∷ 3 ∷ []) ≡ Err (GapAbove 1)
  pub in_reverse :
      check_of (reversed_job both_together (plain (8 ∷ []) 0 7 0)) (reversed_proposal both_together (plain (8 ∷ []) 0 7 0) (2 ∷ 3 ∷ 3 ∷ [])) ≡ Err (GapAbove 0)

-- So a C caller that lends the same slices gets from a check the same number and, after number and place, the same words, F and G; and from reading a job's words
-- the same answer, place and all.
pub record ToldInReverse : Type 0 where
  pub checked : (way : Way) (job proposal : List ℕ) → BothRead job proposal → (answer : List ℕ) (r s : ℕ) (a b : List ℕ)
      → CheckSays job proposal answer r a → CheckSays (reversed_job way job) (reversed_proposal way job proposal) answer s b
      → (s % 32 ≡ r % 32) × (drop 2 b ≡ drop 2 a)
  pub read : (way : Way) (job : List ℕ) → Reads (read_job job).outcome → (words : List ℤ) (answer : List ℕ) (r s : ℕ) (a b : List ℕ) (x y : List ℤ)
      → ReadSays job words answer r a x → ReadSays (reversed_job way job) words answer s b y → (s ≡ r) × (b ≡ a)

-- "Reversing twice is the identity on packs."
pub record ReversedTwice : Type 0 where
  pub jobs : (way : Way) (job : List ℕ) → AllBytes job → Reads (read_job job).outcome → reversed_job way (reversed_job way job) ≡ job
  pub proposals : (way : Way) (job proposal : List ℕ) → AllBytes proposal → BothRead job proposal
      → reversed_proposal way (reversed_job way job) (reversed_proposal way job proposal) ≡ proposal

-- Both together is the rows, and then the columns.
pub record BothIsEach : Type 0 where
  pub jobs : (job : List ℕ) → Reads (read_job job).outcome → reversed_job columns_alone (reversed_job rows_alone job) ≡ reversed_job both_together job
  pub proposals : (job proposal : List ℕ) → BothRead job proposal
      → reversed_proposal columns_alone (reversed_job rows_alone job) (reversed_proposal rows_alone job proposal) ≡ reversed_proposal both_together job proposal

-- For instance: u 0 5 9 with the link -v0 + v1 <= 0 becomes u 9 5 0 with v1 - v2 <= 0, and v 2 2 1 with the multiplier 2 becomes 1 2 2 with 2. The select table's
-- values 10 12, 15 17, 21 24 become 21 24, 15 17, 10 12 by their rows, 12 10, 17 15, 24 21 by their columns, and 24 21, 17 15, 12 10 by both.
pub record ReversedExamples : Type 0 where
  pub job : reversed_job both_together (linked (2 ∷ []) 0 5 9) ≡
      3 ∷ 7 ∷ 3 ∷ 2 ∷ 1 ∷ 2 ∷ 9 ∷ 1 ∷ 0 ∷ 100 ∷ 5 ∷ 1 ∷ 0 ∷ 100 ∷ 0 ∷ 1 ∷ 0 ∷ 100 ∷ 1 ∷ 2 ∷ 1 ∷ 2 ∷ 2 ∷ 1 ∷ 0 ∷ []
  pub proposal : reversed_proposal both_together (linked (2 ∷ []) 0 5 9) (2 ∷ 2 ∷ 1 ∷ 2 ∷ []) ≡ 1 ∷ 2 ∷ 2 ∷ 2 ∷ []
  pub rows : reversed_proposal rows_alone (select_job 40) (10 ∷ 12 ∷ 15 ∷ 17 ∷ 21 ∷ 24 ∷ []) ≡ 21 ∷ 24 ∷ 15 ∷ 17 ∷ 10 ∷ 12 ∷ []
  pub columns : reversed_proposal columns_alone (select_job 40) (10 ∷ 12 ∷ 15 ∷ 17 ∷ 21 ∷ 24 ∷ []) ≡ 12 ∷ 10 ∷ 17 ∷ 15 ∷ 24 ∷ 21 ∷ []
  pub both : reversed_proposal both_together (select_job 40) (10 ∷ 12 ∷ 15 ∷ 17 ∷ 21 ∷ 24 ∷ []) ≡ 24 ∷ 21 ∷ 17 ∷ 15 ∷ 12 ∷ 10 ∷ []
