-- Document 01's examples of packs and those of grids, computed by the definitions.
use mathlib.Core.Path.{refl}
use Rattle.numbers.specs.Plain.{number_in, bytes_in}
use Rattle.fields.specs.Table.{step_of}
use Rattle.packs.specs.Reading.{run_from}
use Rattle.packs.specs.Writing.{write_from}
use Rattle.jobs.specs.Examples.{Examples}

pub examples : Examples
unfolding number_in bytes_in step_of run_from write_from
examples = record {
  one_group = refl;
  two_groups = refl;
  three_hundred = refl;
  read_three_hundred = refl;
  not_shortest = refl;
  minus_one = refl;
  ten = refl;
  read_one = refl;
  read_twenty = refl;
  empty = refl;
  order_of_two = refl;
  job = refl;
  proposal = refl;
  order_kept = refl;
  order_written = refl;
  grid = refl;
  grid_written = refl;
  constants = refl;
  weights = refl;
  seven_rows = refl;
  one_row = refl;
}
