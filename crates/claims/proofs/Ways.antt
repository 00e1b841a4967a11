-- The three ways to reverse a job: rows and columns are each turned about or left, so its cells are turned about; and its differences, down and across, are carried, as
-- every difference row read backwards is itself up to sign.
use Prim.Native.Nat.{ℕ, ◌+◌, ◌-◌, ◌*◌, ◌≤◌, ◌<◌}
use mathlib.Core.Path.{◌≡◌, sym, ap, subst, ◌∙◌}
use mathlib.Core.Bool.{Bool, true, false}
use native.Mathlib.Nat as N
use native.Mathlib.Omega.{arith}
use Rattle.whole.specs.Turned.{from_last}
use Rattle.whole.proofs.Turned.{Involution, backwards, still}
use Rattle.whole.proofs.Grids.{map_at, by_rows, grid_turned, grid_backwards}
use Rattle.certificate.specs.Differences.{along, in_row}
use Rattle.certificate.proofs.Turned.{each, Carried, Palindrome, backwards_carried, still_carried}
use Rattle.certificate.proofs.Grids.{grid_down_carried, grid_across_carried}
use Rattle.jobs.specs.Job.{Job}
use Rattle.jobs.specs.Allowed.{Allowed, LineAllowed, ShapeAllowed}
use Rattle.rows.specs.Rows.{row_of}
use Rattle.rows.proofs.Rule.{sign_of, sign_squared, row_backwards}
use Rattle.measure.specs.Loss.{family_of, family_across}
use Rattle.claims.specs.Reversed.{Way, rows_alone, columns_alone, both_together, row_from, column_from, cell_from}

pub rows_turned : (way : Way) (rows : ℕ) → Involution rows (row_from way rows)
rows_turned rows_alone rows = backwards rows
rows_turned columns_alone rows = still rows
rows_turned both_together rows = backwards rows

pub columns_turned : (way : Way) (columns : ℕ) → Involution columns (column_from way columns)
columns_turned rows_alone columns = still columns
columns_turned columns_alone columns = backwards columns
columns_turned both_together columns = backwards columns

-- ---- differences

palindrome : (z : ℕ) → z ≤ 4 → Palindrome (row_of z) z
palindrome z h = record { s = sign_of z; sign = sign_squared z h; read = λ m k. row_backwards z m h k }

-- a line of so many cells read backwards
line_carried : (z length : ℕ) → z ≤ 4 → z ≤ length → Carried (along (row_of z) z 1 (length - z)) each (from_last length)
line_carried z length h k =
    subst (λ (n : ℕ). Carried (along (row_of z) z 1 (length - z)) each (from_last n)) whole (backwards_carried (row_of z) z 1 (length - z) (palindrome z h))
  where
    whole : length - z + z * 1 ≡ length
    whole = omega arith

module _ (z length : ℕ) (h : z ≤ 4) (k : z ≤ length) where
  rows_carried : (way : Way) → Carried (along (row_of z) z 1 (length - z)) each (row_from way length)
  rows_carried rows_alone = line_carried z length h k
  rows_carried columns_alone = still_carried (along (row_of z) z 1 (length - z)) each
  rows_carried both_together = line_carried z length h k

  columns_carried : (way : Way) → Carried (along (row_of z) z 1 (length - z)) each (column_from way length)
  columns_carried rows_alone = still_carried (along (row_of z) z 1 (length - z)) each
  columns_carried columns_alone = line_carried z length h k
  columns_carried both_together = line_carried z length h k

-- ---- a job

module _ (j : Job) (A : Allowed j) where
  -- the order across reaches over no more than a row, and in a job that is no grid over its one column
  across_most : j.across ≤ j.columns
  across_most = go j.grid A.shape
    where
      go : (t : Bool) → ShapeAllowed j t → j.across ≤ j.columns
      go true G = N.le_of_lt G.across_less
      go false S = N.le_of_eq (S.across_one ∙ sym S.columns_one)

  pub cells_turned : (way : Way) → Involution j.cells (cell_from way j)
  cells_turned way =
      grid_turned j.rows j.columns A.cells_are (row_from way j.rows) (column_from way j.columns) (rows_turned way j.rows) (columns_turned way j.columns)

  pub down_carried : (way : Way) → Carried (family_of j) each (cell_from way j)
  down_carried way =
      subst (λ (n : ℕ). Carried (along (row_of j.order) j.order j.columns (n - j.order * j.columns)) each (cell_from way j)) A.cells_are
      (grid_down_carried (row_of j.order) j.order j.rows j.columns (row_from way j.rows) (column_from way j.columns)
      (rows_carried j.order j.rows A.order_few (N.le_of_lt A.order_less) way) (columns_turned way j.columns))

  pub across_carried : (way : Way) → Carried (family_across j) (in_row j.columns j.across 1) (cell_from way j)
  across_carried way =
      subst (λ (n : ℕ). Carried (along (row_of j.across) j.across 1 (n - j.across * 1)) (in_row j.columns j.across 1) (cell_from way j)) A.cells_are
      (grid_across_carried (row_of j.across) j.across j.rows j.columns (row_from way j.rows) (column_from way j.columns)
      (rows_turned way j.rows) (columns_carried j.across j.columns A.across_few across_most way))

  -- ---- which cell

  cell_among : (i : ℕ) → i < j.cells → i < j.rows * j.columns
  cell_among i h = subst (λ (n : ℕ). i < n) (sym A.cells_are) h

  pub both_from_last : (i : ℕ) → i < j.cells → cell_from both_together j i ≡ from_last j.cells i
  both_from_last i h = grid_backwards j.rows j.columns i (cell_among i h) ∙ ap (λ (n : ℕ). from_last n i) A.cells_are

  -- the one column of a job that is no grid stays where it is either way
  module _ (e : j.grid ≡ false) where
    S : LineAllowed j
    S = subst (ShapeAllowed j) e A.shape

    alone : (c : ℕ) → c < j.columns → c ≡ from_last j.columns c
    alone c q = omega (arith, S.columns_one)

    pub line_from_last : (i : ℕ) → i < j.cells → cell_from rows_alone j i ≡ from_last j.cells i
    line_from_last i h =
        by_rows j.rows j.columns (λ i. cell_from rows_alone j i ≡ cell_from both_together j i)
        (λ r c p q.
        map_at j.columns (from_last j.rows) (λ c. c) r c q
        ∙ ap (λ (x : ℕ). from_last j.rows r * j.columns + x) (alone c q)
        ∙ sym (map_at j.columns (from_last j.rows) (from_last j.columns) r c q))
        i (cell_among i h)
        ∙ both_from_last i h

    pub line_stays : (i : ℕ) → i < j.cells → cell_from columns_alone j i ≡ i
    line_stays i h =
        by_rows j.rows j.columns (λ i. cell_from columns_alone j i ≡ i)
        (λ r c p q. map_at j.columns (λ r. r) (from_last j.columns) r c q ∙ ap (λ (x : ℕ). r * j.columns + x) (sym (alone c q))) i (cell_among i h)

  -- the rows, and then the columns
  pub rows_then_columns : (i : ℕ) → i < j.cells → cell_from rows_alone j (cell_from columns_alone j i) ≡ cell_from both_together j i
  rows_then_columns i h =
      by_rows j.rows j.columns (λ i. cell_from rows_alone j (cell_from columns_alone j i) ≡ cell_from both_together j i)
      (λ r c p q.
      ap (cell_from rows_alone j) (map_at j.columns (λ r. r) (from_last j.columns) r c q)
      ∙ map_at j.columns (from_last j.rows) (λ c. c) r (from_last j.columns c) ((backwards j.columns).stays c q)
      ∙ sym (map_at j.columns (from_last j.rows) (from_last j.columns) r c q))
      i (cell_among i h)
