-- The values, then the multipliers behind them.
use lib.ListN.{length}
use Rattle.shelf.proofs.Judged.{proposal_put}
use Rattle.shelf.proofs.kept.put_proposal.Goals as goal

pub returns : goal.returns
returns c = let a = c.args in
    let first = c.copy_signed in
    let second = c.copy_signed-2 in
    proposal_put a.values.now a.multipliers.now a.words.now first.new.words second.new.words (length first.new.words) first.auto.words c.requires first.ensures second.ensures
