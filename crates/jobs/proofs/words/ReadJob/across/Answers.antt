-- A grid's own word, or one.
use mathlib.Core.Path.{sym, ◌∙◌}
use Rattle.jobs.proofs.Counts.{order_counts, across_counts}
use Rattle.jobs.proofs.Shapes.{across_grid, across_line}
use Rattle.jobs.proofs.words.ReadJob.across.Goals as goal

pub is_grid-requires : goal.is_grid-requires
is_grid-requires c = order_counts c.args.self.allowed c.args.self.laid

pub count_at-requires : goal.count_at-requires
count_at-requires c = across_counts c.args.self.allowed c.args.self.laid (sym c.is_grid.ensures ∙ c.if-is_grid.true)

pub returns-then-is_grid : goal.returns-then-is_grid
returns-then-is_grid c = c.count_at.ensures ∙ sym (across_grid c.args.self.words.now (sym c.is_grid.ensures ∙ c.if-is_grid.true))

pub returns : goal.returns
returns c = sym (across_line c.args.self.words.now (sym c.is_grid.ensures ∙ c.if-is_grid.false))
