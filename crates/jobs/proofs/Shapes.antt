-- The shape of a job by its words, where it is a grid and where it is none.
use Prim.Native.Nat.{◌/◌}
use mathlib.Core.Path.{◌≡◌, sym}
use mathlib.Core.Bool.{true, false}
use mathlib.Core.List.{List}
use native.Mathlib.Omega.{arith}
use lib.IntN.{ℤ, pos}
use Rattle.fields.specs.declared.cells.Cells.{Cells}
use Rattle.fields.specs.Table.{order_used, shaped}
use Rattle.jobs.specs.Words.{word_at, count_at, cells_of, is_grid, rows_of, columns_of, order_of, across_of, second_of}

module _ (ws : List ℤ) where
  abbrev pub shape_at : Cells
  shape_at = shaped (cells_of ws) (columns_of ws) (order_of ws) (across_of ws)

  module _ (e : is_grid ws ≡ false) where
    pub rows_line : rows_of ws ≡ cells_of ws
    unfolding rows_of
    rows_line = rw e

    pub columns_line : columns_of ws ≡ 1
    unfolding columns_of
    columns_line = rw e

    pub order_line : order_of ws ≡ order_used (count_at ws 3)
    unfolding order_of
    order_line = rw e

    pub across_line : across_of ws ≡ 1
    unfolding across_of
    across_line = rw e

    pub second_line : second_of ws ≡ pos 0
    unfolding second_of
    second_line = rw e

    pub shape_line : shaped (cells_of ws) 1 (order_used (count_at ws 3)) 1 ≡ shape_at
    shape_line = λ i. shaped (cells_of ws) (sym columns_line i) (sym order_line i) (sym across_line i)

  module _ (e : is_grid ws ≡ true) where
    pub rows_grid : rows_of ws ≡ count_at ws 4
    unfolding rows_of
    rows_grid = rw e

    pub columns_grid : columns_of ws ≡ count_at ws 5
    unfolding columns_of
    columns_grid = rw e

    pub order_grid : order_of ws ≡ count_at ws 6
    unfolding order_of
    order_grid = rw e

    pub across_grid : across_of ws ≡ count_at ws 7
    unfolding across_of
    across_grid = rw e

    pub second_grid : second_of ws ≡ word_at ws 8
    unfolding second_of
    second_grid = rw e

    -- as the walk makes it, number by number
    abbrev pub with_columns : Cells
    with_columns = shaped (cells_of ws) (count_at ws 5) 0 0

    abbrev pub with_down : Cells
    with_down = shaped (cells_of ws) (with_columns.row / 8) (count_at ws 6) 0

    abbrev pub with_across : Cells
    with_across = shaped (cells_of ws) (with_down.row / 8) (with_down.want / 8) (count_at ws 7)

    columns_carried : with_down.row / 8 ≡ columns_of ws
    columns_carried = omega (arith, columns_grid)

    down_carried : with_down.want / 8 ≡ order_of ws
    down_carried = omega (arith, order_grid)

    pub shape_grid : with_across ≡ shape_at
    shape_grid = λ i. shaped (cells_of ws) (columns_carried i) (down_carried i) (sym across_grid i)
