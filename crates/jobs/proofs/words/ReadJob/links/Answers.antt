-- The count of links stands after the cells.
use mathlib.Core.Path.{sym, ap, subst, ◌∙◌}
use Prim.Native.Nat.{ℕ, ◌+◌, ◌*◌}
use native.Mathlib.Omega.{arith}
use Rattle.jobs.specs.Words.{count_at, head_words}
use Rattle.jobs.specs.Allowed.{Counts}
use Rattle.jobs.proofs.Counts.{order_counts, links_counts}
use Rattle.jobs.proofs.words.ReadJob.links.Goals as goal

pub links_at-at-requires : goal.links_at-at-requires
links_at-at-requires c = (order_counts c.args.self.allowed c.args.self.laid, omega (arith, c.args.self.allowed.cells_few, c.cells.ensures))

pub count_at-requires : goal.count_at-requires
count_at-requires c = subst (Counts c.args.self.words.now) (sym c.links_at-at.ensures) (links_counts c.args.self.allowed c.args.self.laid c.cells.ensures)

pub returns : goal.returns
returns c = c.count_at.ensures ∙ ap (count_at c.args.self.words.now) (c.links_at-at.ensures ∙ ap (λ (n : ℕ). head_words c.args.self.words.now + 4 * n) c.cells.ensures)
