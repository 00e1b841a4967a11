-- A grid's order down, or the order field with 0 read as the house order.
use mathlib.Core.Path.{sym, ap, ◌∙◌}
use Rattle.fields.specs.Table.{order_used}
use Rattle.jobs.proofs.Counts.{order_counts, down_counts}
use Rattle.jobs.proofs.Shapes.{order_grid, order_line}
use Rattle.jobs.proofs.words.ReadJob.order.Goals as goal

pub is_grid-requires : goal.is_grid-requires
is_grid-requires c = order_counts c.args.self.allowed c.args.self.laid

pub count_at-requires : goal.count_at-requires
count_at-requires c = down_counts c.args.self.allowed c.args.self.laid (sym c.is_grid.ensures ∙ c.if-is_grid.true)

pub returns-then-is_grid : goal.returns-then-is_grid
returns-then-is_grid c = c.count_at.ensures ∙ sym (order_grid c.args.self.words.now (sym c.is_grid.ensures ∙ c.if-is_grid.true))

pub count_at-field-requires : goal.count_at-field-requires
count_at-field-requires c = order_counts c.args.self.allowed c.args.self.laid

pub returns : goal.returns
returns c = c.order_used.ensures ∙ ap order_used c.count_at-field.ensures ∙ sym (order_line c.args.self.words.now (sym c.is_grid.ensures ∙ c.if-is_grid.false))
