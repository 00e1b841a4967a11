-- Where a cell of a job stands, and the sizes of what the code makes of it.
use Rattle.std.proofs.Common.{◌≡◌, ℕ, ◌*◌, ◌/◌, ◌%◌, ◌<◌, ◌≤◌, List, ℤ, ◌*ℤ◌, nat_abs, ◌∙◌, arith, lit<, w64, to_z, of_z}
use native.Mathlib.Nat as N
use Rattle.whole.proofs.Fits.{small_fits, gives}
use Rattle.whole.proofs.Magnitude.{bound-+, bound-*}
use Rattle.jobs.specs.Words.{cells_of, rows_of, columns_of, across_of, job_of}
use Rattle.house.specs.Known.{Known}
use Rattle.house.specs.Band.{squares_at, whole_entry}
use Rattle.house.specs.Grid.{reach, across_squares}
use Rattle.house.proofs.Sizes.{squares_small}
use Rattle.house.proofs.Told.{weight_small}
use Rattle.house.proofs.Shaped.{columns_some, second_small}

module _ {ws : List ℤ} (k : Known ws) where
  pub cells_are : rows_of ws * columns_of ws ≡ cells_of ws
  cells_are = k.allowed.cells_are

  pub rows_few : rows_of ws ≤ 120
  rows_few = N.le_trans (N.le-mul_of_pos_right (rows_of ws) (columns_some k)) (omega (arith, cells_are, k.allowed.cells_few))

  pub row_of_cell : (i : ℕ) → i < cells_of ws → i / columns_of ws < rows_of ws
  row_of_cell i h = (N.div-lt_iff_lt-mul (columns_some k)).1 (omega (arith, cells_are))

  pub reach_within : reach (job_of ws) < 5 * columns_of ws
  reach_within = omega (arith, N.mul-le-mul_right (columns_of ws) k.allowed.order_few, columns_some k)

  pub reach_few : columns_of ws ≤ 12 → reach (job_of ws) ≤ 48
  reach_few h = N.le_trans (N.mul-le-mul_right (columns_of ws) k.allowed.order_few) (omega arith)

  -- W + k2·Ka'Ka on the diagonal
  module _ (i : ℕ) (h : i < cells_of ws) where
    abbrev squares : ℤ
    squares = across_squares (job_of ws) i 0

    pub side_small : nat_abs squares ≤ 180
    side_small = squares_small (columns_of ws) (across_of ws) (i % columns_of ws) 0 k.allowed.across_few

    abbrev diagonal : ℤ
    diagonal = whole_entry ((job_of ws).weight i) (job_of ws).second squares 0

    pub diagonal_small : nat_abs diagonal ≤ 181000
    diagonal_small = bound-+ ((job_of ws).weight i) ((job_of ws).second *ℤ squares) (weight_small k h) (bound-* (job_of ws).second squares (second_small k) side_small)

    -- what the code's signed locals read back as
    pub squares_is : {x : ℤ} {columns across : ℕ} → columns ≡ columns_of ws → across ≡ across_of ws → x ≡ squares_at columns across (i % columns) 0 → to_z w64 (of_z w64 x) ≡ squares
    squares_is ec ea ex = gives (ex ∙ rw (ec, ea)) (small_fits squares side_small (lit< tt))

    pub diagonal_is : {a w s q : ℤ} → w ≡ (job_of ws).weight i → s ≡ (job_of ws).second → q ≡ squares → a ≡ whole_entry w s q 0 → to_z w64 (of_z w64 a) ≡ diagonal
    diagonal_is ew es eq ea = gives (ea ∙ rw (ew, es, eq)) (small_fits diagonal diagonal_small (lit< tt))
