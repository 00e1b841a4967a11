-- The numbers are those of the job, and the entries those of its row.
use Rattle.std.proofs.Common.{◌≡◌, ◌/◌, ◌∙◌, ap₂, arith}
use native.Mathlib.Nat as N
use Rattle.jobs.specs.Words.{rows_of}
use Rattle.house.specs.Band.{entries_of}
use Rattle.house.proofs.Told.{known, weight_is, weight_small, constant_is, constant_small}
use Rattle.house.proofs.Shaped.{rows_are, second_is, second_small}
use Rattle.house.proofs.Places.{rows_few, row_of_cell, side_small, squares_is, diagonal_small, diagonal_is}
use Rattle.house.proofs.grid.Rows.below_of.Goals as goal

pub whole_entry-whole-requires : goal.whole_entry-whole-requires
whole_entry-whole-requires c = let k = known c.args.self.grid.job in
    let i = c.args.i in
    rw (weight_is k c.requires c.weight-w.ensures, second_is k c.second-second.ensures, squares_is k i c.requires c.columns-columns.ensures c.across-across.ensures c.squares_at-squares.ensures)
    (N.le_trans (weight_small k c.requires) (omega arith), second_small k, side_small k i c.requires)

pub entries_of-requires : goal.entries_of-requires
entries_of-requires c = let k = known c.args.self.grid.job in
    let i = c.args.i in
    let h = c.requires in
    let ec = c.columns-columns.ensures in
    let squares = squares_is k i h ec c.across-across.ensures c.squares_at-squares.ensures in
    let whole = diagonal_is k i h (weight_is k h c.weight-w.ensures) (second_is k c.second-second.ensures) squares c.whole_entry-whole.ensures in
    let rows : c.cells-n.result / c.columns-columns.result ≡ rows_of c.args.self.grid.job.words.now = ap₂ ◌/◌ c.cells-n.ensures ec ∙ rows_are k in
    rw (whole, constant_is k c.constant-constant.ensures, rows, c.order-down.ensures, ec)
    (diagonal_small k i h, constant_small k, rows_few k, k.allowed.order_few, row_of_cell k i h, c.args.self.down)

pub returns : goal.returns
returns c = let k = known c.args.self.grid.job in
    let i = c.args.i in
    let h = c.requires in
    let ec = c.columns-columns.ensures in
    let squares = squares_is k i h ec c.across-across.ensures c.squares_at-squares.ensures in
    let whole = diagonal_is k i h (weight_is k h c.weight-w.ensures) (second_is k c.second-second.ensures) squares c.whole_entry-whole.ensures in
    let constant = constant_is k c.constant-constant.ensures in
    let down = c.order-down.ensures in
    let rows : c.cells-n.result / c.columns-columns.result ≡ rows_of c.args.self.grid.job.words.now = ap₂ ◌/◌ c.cells-n.ensures ec ∙ rows_are k in
    c.entries_of.ensures ∙ (λ t. entries_of (whole t) (constant t) (rows t) (down t) (i / ec t))
