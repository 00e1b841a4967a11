-- The starred tables, and those of document 02, from their bytes on, by computing.
use Prim.Native.Nat.{◌*◌}
use mathlib.Core.Path.{refl, subst}
use native.Mathlib.Nat as N
use native.Mathlib.Omega.{arith}
use lib.IntN.{ℤ, pos, ◌*ℤ◌}
use lib.Signed.{◌≤ℤ◌, le_z, le_z_yes}
use Rattle.whole.specs.Sum.{sum}
use Rattle.whole.proofs.Order.{pos_le}
use Rattle.whole.proofs.Tested.{below_at}
use Rattle.numbers.specs.Plain.{number_in}
use Rattle.fields.specs.Table.{step_of}
use Rattle.packs.specs.Reading.{run_from}
use Rattle.jobs.specs.Words.{word_at, head_words, rows_of, columns_of, order_of, across_of, second_of, start_of}
use Rattle.jobs.specs.Packs.{job_in}
use Rattle.rows.specs.Rows.{row_of}
use Rattle.tally.specs.Largest.{largest_of}
use Rattle.measure.specs.Loss.{loss_of}
use Rattle.measure.specs.Gap.{link_sum, residual_of, gap_of}
use Rattle.measure.specs.Check.{lowest_from, verdict_of}
use Rattle.claims.specs.Meets.{scaled_loss_of}
use Rattle.claims.specs.Far.{farness_of}
use Rattle.claims.specs.Worked.{far_job, far_table, far_other}
use Rattle.claims.specs.Promises.{WorkedTables, WorkedGrid, GridFarness, FarReached, FourLeast}

pub worked_tables : WorkedTables
unfolding sum number_in step_of run_from head_words rows_of columns_of order_of across_of second_of start_of row_of loss_of link_sum residual_of gap_of largest_of lowest_from verdict_of scaled_loss_of
worked_tables = (refl, refl)

pub worked_grid : WorkedGrid
unfolding sum number_in step_of run_from head_words rows_of columns_of order_of across_of second_of start_of row_of loss_of link_sum residual_of gap_of largest_of lowest_from verdict_of
worked_grid = refl

pub grid_farness : GridFarness
unfolding sum number_in step_of run_from head_words rows_of columns_of order_of across_of second_of start_of row_of farness_of
grid_farness = refl

pub far_reached : FarReached
unfolding sum number_in step_of run_from head_words rows_of columns_of order_of across_of second_of start_of row_of loss_of link_sum residual_of gap_of largest_of lowest_from verdict_of scaled_loss_of farness_of
far_reached = record {
  accepted = refl;
  as_good = record {
    at_least_one = le_z_yes tt;
    meets = record {
      floors = λ i h. le_z_yes (below_at 3 (λ i. le_z ((job_in far_job).floor i *ℤ pos 1) (word_at far_other i)) tt i h);
      ceilings = λ i h. le_z_yes (below_at 3 (λ i. le_z (word_at far_other i) ((job_in far_job).ceiling i *ℤ pos 1)) tt i h);
      sums = λ l h. absurd (N.not-suc-le-zero h);
    };
    no_worse = le_z_yes tt;
  };
  reached = refl;
}

pub four_least : FourLeast
four_least a b bound =
    let f = far_reached in
    let h = bound far_job far_table (pos 12) (pos 3) f.accepted (pos 1) (word_at far_other) f.as_good in
    let k : pos (b * 12) ≤ℤ pos (a * 3 * 1) = subst (λ (x : ℤ). (pos b *ℤ x) ≤ℤ (pos a *ℤ pos 3 *ℤ (pos 1 *ℤ pos 1))) f.reached h in
    omega (arith, pos_le k)
