use Rattle.factor.proofs.Turns.{row_ends, row_inside, row_part, row_length}
use borrow.Author.Rules.{rules}
use Rattle.factor.proofs.Factor.row.Goals as goal

pub slice_bounds-result-count : goal.slice_bounds-result-count
slice_bounds-result-count c = let e = row_ends c.args.self.placed c.args.i c.requires c.start_at-at.ensures.0 c.start_at-end.ensures.0 in
    search rules

pub slice_bounds-result-start : goal.slice_bounds-result-start
slice_bounds-result-start c = let e = row_ends c.args.self.placed c.args.i c.requires c.start_at-at.ensures.0 c.start_at-end.ensures.0 in
    search rules

pub slice_bounds-result-end : goal.slice_bounds-result-end
slice_bounds-result-end c = let e = row_inside c.args.self.placed c.args.i c.requires c.start_at-at.ensures.0 c.start_at-end.ensures.0 in
    search rules

pub returns : goal.returns
returns c = let p = c.args.self.placed in
    let at = c.start_at-at.ensures.0 in
    let end = c.start_at-end.ensures.0 in
    (row_part p c.args.i c.requires at end, row_length p c.args.i c.requires at end)
