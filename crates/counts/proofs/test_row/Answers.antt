-- The lowest wrong count, then the total.
use Rattle.std.proofs.Common.{sym, ◌∙◌, rules}
use Rattle.counts.specs.Counts.{test_row}
use Rattle.counts.proofs.Tests.{counts_right}
use Rattle.counts.proofs.test_row.Goals as goal

pub test_total-requires : goal.test_total-requires
test_total-requires c = counts_right c.args.row.now c.requires (sym c.lowest_wrong.ensures ∙ c.in_default.is)

pub returns-in-Some : goal.returns-in-Some
unfolding test_row
returns-in-Some c = search rules

pub returns : goal.returns
unfolding test_row
returns c = search rules
