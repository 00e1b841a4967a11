-- The length first, then the counts, which are all that is handed in.
use Rattle.std.proofs.Common.{◌≡◌, length, rules, arith}
use lib.Seq.{take_all}
use Rattle.counts.specs.Counts.{societies, row_in, test_shelf}
use Rattle.counts.proofs.test_clearing.Goals as goal

pub returns-in_err-test_length : goal.returns-in_err-test_length
unfolding test_shelf
returns-in_err-test_length c = search rules

pub returns : goal.returns
unfolding test_shelf
returns c =
    let counts = c.args.counts.now in
    let eight : length counts ≡ societies = search rules in
    let all : row_in counts ≡ counts = take_all societies counts (omega arith) in
    rw all (search rules)
