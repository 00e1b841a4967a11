-- A grid has five words more before its cells.
use mathlib.Core.Path.{sym, ◌∙◌}
use Rattle.jobs.proofs.Places.{head_of_grid, head_of_line}
use Rattle.jobs.proofs.words.head_of.Goals as goal

pub returns-then-is_grid : goal.returns-then-is_grid
returns-then-is_grid c = sym (head_of_grid c.args.words.now (sym c.is_grid.ensures ∙ c.if-is_grid.true))

pub returns : goal.returns
returns c = sym (head_of_line c.args.words.now (sym c.is_grid.ensures ∙ c.if-is_grid.false))
