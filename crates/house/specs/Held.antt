-- How the code makes a row of a grid's band: from two lists of five entries, one down and one across. Nothing promised rests on this file.
use Rattle.std.specs.Prelude.{ℕ, ◌+◌, ◌/◌, ◌%◌, List, ℤ, pos, ◌==◌, nat_le, slice_index_or, Float}
use Rattle.std.specs.Float.{nan}
use Rattle.std.specs.Coded.{Coded-set, coded_ℤ}
use Rattle.rows.specs.Rows.{IsRow}
use Rattle.std.specs.Prelude.{if◌then◌else◌}
use Rattle.jobs.specs.Job.{Job}
use Rattle.house.specs.Filled.{filled}
use Rattle.house.specs.Band.{whole_entry, entries_of, zero64}
use Rattle.house.specs.Grid.{across_squares}

-- That a list is a row holds in one way only, so a struct may keep it.
pub IsRow-prop : (z : ℕ) (s : List ℤ) → IsProp (IsRow z s)
IsRow-prop z s a b = λ t. record { at = λ m. Coded-set coded_ℤ _ _ (a.at m) (b.at m) t }

-- A at (i, i - t·columns), at t; the diagonal stands whole at 0.
abbrev pub below_of : Job → (i : ℕ) → List Float
below_of j i = entries_of (whole_entry (j.weight i) j.second (across_squares j i 0) 0) j.constant j.rows j.order (i / j.columns)

-- A at (i, i - o), at o from 1 on
abbrev pub beside_of : Job → (i : ℕ) → List Float
beside_of j i = entries_of (pos 0) j.second j.columns j.across (i % j.columns)

-- The entry at the offset o of a row, t whole rows and `past` cells away: 0 where neither list has it.
abbrev pub entry_by : (below beside : List Float) (o t past : ℕ) → Float
entry_by below beside o t past = if past == 0 then slice_index_or below t nan else if nat_le o 4 then slice_index_or beside o nan else zero64

abbrev pub entry_at : (columns : ℕ) (below beside : List Float) (o : ℕ) → Float
entry_at columns below beside o = entry_by below beside o (o / columns) (o % columns)

unfoldable pub spread_of : (columns z : ℕ) (below beside row : List Float) → List Float
spread_of columns z below beside row = filled (entry_at columns below beside) (z + 1) 0 row
