-- The length first, then the row.
use Rattle.std.proofs.Common.{rules}
use Rattle.counts.specs.Counts.{test_shelf}
use Rattle.counts.proofs.test_shelf.Goals as goal

pub returns-in_err-test_length : goal.returns-in_err-test_length
unfolding test_shelf
returns-in_err-test_length c = search rules

pub returns : goal.returns
unfolding test_shelf
returns c = search rules
