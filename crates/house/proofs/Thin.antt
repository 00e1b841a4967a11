-- A thin pivot's cell is one of the cells, whatever the band.
use Rattle.std.proofs.Common.{◌≡◌, ℕ, zero, suc, ◌+◌, ◌<◌, Bool, true, false, List, set, arith, Ok, Err}
use lib.Ieee.{Float}
use lib.Seq.{sets}
use Rattle.std.specs.Prelude.{if◌then◌else◌}
use Rattle.numbers.proofs.Clash.{clash}
use Rattle.jobs.specs.Job.{Job}
use Rattle.factor.specs.declared.Thin.{Thin}
use Rattle.factor.specs.Factor.{Pivot, Band, Factor, start_of, judged, factor_step, on_pivot, factor_from}
use Rattle.house.specs.Band.{band_of, right_of}
use Rattle.house.specs.Factoring.{rows_of, solved_with}
use Rattle.house.specs.Grid.{reach, grid_rows, grid_solved}
use Rattle.house.specs.Proposal.{line_solved, solved_of}

-- the ending of n rows from row j on, where the later ones' is known
by_pivot : (p : Pivot) (j n : ℕ) (d l : List Float) (rest : Factor) {thin : Thin}
    → (rest.ending ≡ Err thin → thin.cell < j + 1 + n) → (on_pivot p j d l rest).ending ≡ Err thin → thin.cell < j + suc n
by_pivot (Ok y) j n d l rest later e = omega (arith, later e)
by_pivot (Err y) j n d l rest {thin} later e = let same : j ≡ thin.cell = cc in omega arith

from_row : (band : Band) (z n j : ℕ) (d l : List Float) {thin : Thin} → (factor_from band z n j d l).ending ≡ Err thin → thin.cell < j + n
unfolding factor_from
from_row band z zero j d l e = clash (cc)
from_row band z (suc n) j d l e =
    let step = factor_step (band j) d l z j in
    let d1 = set d j step.pivot in
    let l1 = sets l (start_of z j) step.multipliers in
    by_pivot (judged step.pivot) j n d1 l1 (factor_from band z n (j + 1) d1 l1) (from_row band z n (j + 1) d1 l1) e

pub thin_within : (room : ℕ) (band : Band) (z n : ℕ) (right : List Float) (thin : Thin) → (solved_with room band z n right).ending ≡ Err thin → thin.cell < n
unfolding solved_with
thin_within room band z n right thin e = omega (arith, from_row band z n 0 _ _ e)

pub line_thin : (j : Job) (thin : Thin) → (line_solved j).ending ≡ Err thin → thin.cell < j.cells
unfolding line_solved
line_thin j thin e = thin_within 480 (rows_of (band_of j)) j.order j.cells (right_of j) thin e

pub grid_thin : (j : Job) (thin : Thin) → (grid_solved j).ending ≡ Err thin → thin.cell < j.cells
unfolding grid_solved
grid_thin j thin e = thin_within 4584 (grid_rows j) (reach j) j.cells (right_of j) thin e

pub thin_cell : (j : Job) (thin : Thin) → (solved_of j).ending ≡ Err thin → thin.cell < j.cells
unfolding solved_of
thin_cell j thin = go j.grid
  where
    go : (b : Bool) → (if b then grid_solved j else line_solved j).ending ≡ Err thin → thin.cell < j.cells
    go true e = grid_thin j thin e
    go false e = line_thin j thin e
