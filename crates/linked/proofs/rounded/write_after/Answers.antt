-- The words that are written are the proposal's.
use lib.ListN.{length}
use Rattle.jobs.specs.Words.{job_of}
use Rattle.linked.specs.Proposal.{linked_words}
use Rattle.passes.specs.OnWords.{state}
use Rattle.house.proofs.Packable.{proposed_packs}
use Rattle.linked.proofs.Words.{part_is, linked_proposed}
use Rattle.linked.proofs.rounded.write_after.Goals as goal

pub returns : goal.returns
returns c = let j = job_of c.args.job.words.now in
    let st = state c.args.v.now c.args.y.now in
    let part = part_is c.args.job c.args.v.now c.args.y.now c.cells.ensures c.links.ensures c.words_after.ensures in
    rw (← proposed_packs (linked_words j st) (linked_proposed j st c.args.job.allowed) (length c.args.out.now), ← part) c.put.ensures
