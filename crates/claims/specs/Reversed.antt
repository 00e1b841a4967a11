-- W-213, "Oldest age first": packs written in reverse, and a verdict without its place.
use Rattle.std.specs.Prelude.{ℕ, List}
use Rattle.whole.specs.Turned.{from_last, grid_map}
use Rattle.jobs.specs.Job.{Job}
use Rattle.jobs.specs.Packs.{job_in, read_job, write_job, write_proposal}
use Rattle.turned.specs.Words.{turned_words, turned_values}
use Rattle.claims.specs.Read.{proposal_in}
use Rattle.std.specs.Prelude.{Result, Ok, Err}
use Rattle.measure.specs.Check.{Verdict}
use Rattle.refusals.specs.Refusals.{number_of}
use Rattle.measure.specs.declared.check.Figures.{Figures}

-- "Grids reverse both ways": their rows alone, their columns alone, or both together.
pub data Way : Type 0 where
  rows_alone : Way
  columns_alone : Way
  both_together : Way

-- The row, and the column, that comes to stand at a place.
abbrev pub row_from : Way → (rows : ℕ) → ℕ → ℕ
row_from rows_alone rows r = from_last rows r
row_from columns_alone rows r = r
row_from both_together rows r = from_last rows r

abbrev pub column_from : Way → (columns : ℕ) → ℕ → ℕ
column_from rows_alone columns c = c
column_from columns_alone columns c = from_last columns c
column_from both_together columns c = from_last columns c

-- The cell of a job that comes to stand at a place. A job that is no grid has one column, and its rows are its cells.
abbrev pub cell_from : Way → Job → ℕ → ℕ
cell_from way j = grid_map j.columns (row_from way j.rows) (column_from way j.columns)

-- The packs in reverse: read, turned about, and written. Each says something only where the packs read.
abbrev pub reversed_job : Way → (job : List ℕ) → List ℕ
reversed_job way job = (write_job (turned_words (cell_from way (job_in job)) (read_job job).words)).bytes

abbrev pub reversed_proposal : Way → (job proposal : List ℕ) → List ℕ
reversed_proposal way job proposal =
    (write_proposal (job_in job).cells (job_in job).links (turned_values (cell_from way (job_in job)) (job_in job).cells (proposal_in job proposal).words)).bytes

-- "the same number at the check, with the same F and G; places may differ": a verdict without its place, of a refusal the number alone.
abbrev pub unplaced : Verdict → Result Figures ℕ
unplaced (Ok f) = Ok f
unplaced (Err r) = Err (number_of r)
