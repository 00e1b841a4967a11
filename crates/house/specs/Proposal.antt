-- The house proposal (document 01, "The house proposal", and "Order": "For the house proposal 10 follows the job. Output room comes last, when the
-- needed length is known."; document 02, W-205: "The house proposal covers grids of at most 12 columns").
use Rattle.std.specs.Prelude.{ℕ, ◌+◌, List, replicate, ℤ, pos, nat_lt, slice_index_or, unsigned_abs, Float, Ok, Err}
use Rattle.std.specs.Float.{nan}
use Rattle.std.specs.Prelude.{if◌then◌else◌}
use Rattle.refusals.specs.declared.Refusal.TheVariants.{TooThin, NotProposed}
use Rattle.packs.specs.Reading.{Outcome}
use Rattle.packs.specs.Writing.{Written, refused, roomed}
use Rattle.jobs.specs.Job.{Job}
use Rattle.jobs.specs.Words.{job_of}
use Rattle.jobs.specs.Packs.{read_job, write_proposal}
use Rattle.factor.specs.Factor.{Ending}
use Rattle.house.specs.Filled.{filled}
use Rattle.house.specs.Band.{band_of, right_of}
use Rattle.house.specs.Factoring.{Solved, rows_of, solved_with}
use Rattle.house.specs.Grid.{grid_solved}
use Rattle.house.specs.Rounding.{rounded_out}

-- "It solves (W + kK'K)v = Wu in f64, links ignored": the values before rounding, where no pivot is thin, of a job that is no grid.
unfoldable pub line_solved : Job → Solved
unfolding solved_with
line_solved j = solved_with 480 (rows_of (band_of j)) j.order j.cells (right_of j)

-- The same of any job: "by 01's steps with z there the order down times the columns" where it is a grid.
unfoldable pub solved_of : Job → Solved
unfolding line_solved grid_solved
solved_of j = if j.grid then grid_solved j else line_solved j

-- "grids of at most 12 columns"
abbrev pub most_columns : ℕ
most_columns = 12

-- A value rounded out into the box of its cell.
abbrev pub value_of : Job → (i : ℕ) → Float → ℤ
value_of j i v = pos (rounded_out (unsigned_abs (j.floor i)) (unsigned_abs (j.ceiling i)) v)

-- "All multipliers are 0."
unfoldable pub words_of : Job → List Float → List ℤ
words_of j v = filled (λ i. value_of j i (slice_index_or v i nan)) j.cells 0 (replicate (j.cells + j.links) (pos 0))

-- "It is written as a proposal pack", where the output has room for it.
abbrev pub written_of : (room : ℕ) → Job → List Float → Written
written_of room j v = roomed room (write_proposal j.cells j.links (words_of j v))

-- "10: house proposal: data too thin: cell"
abbrev pub on_ending : (room : ℕ) → Job → List Float → Ending → Written
on_ending room j v (Ok whole) = written_of room j v
on_ending room j v (Err thin) = refused (TooThin thin.cell)

-- "20 for a wider grid at the house proposal, before 10, place 0"
unfoldable pub proposed_of : (room : ℕ) → Job → Written
unfolding solved_of
proposed_of room j = if nat_lt most_columns j.columns then refused NotProposed else on_ending room j (solved_of j).values (solved_of j).ending

-- The proposal for a job pack: the job's own refusals come first.
abbrev pub on_job_read : (room : ℕ) → List ℤ → Outcome → Written
on_job_read room ws (Ok k) = proposed_of room (job_of ws)
on_job_read room ws (Err r) = refused r

abbrev pub propose_of : (room : ℕ) → List ℕ → Written
propose_of room s = on_job_read room (read_job s).words (read_job s).outcome
