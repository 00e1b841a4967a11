-- The proposal is the house's that honours links; the answer is given where there is room for it.
use Rattle.std.proofs.Common.{length, ap, ◌∙◌}
use lib.Seq.{sets}
use Rattle.linked.specs.Proposal.{linked_of}
use Rattle.checked.specs.declared.Answer.{Answer}
use Rattle.bench.specs.Calls.{offer_of}
use Rattle.bench.proofs.Endings.{without_room, with_room}
use Rattle.bench.proofs.Linked.{linked_small}
use Rattle.bench.proofs.proposals.bench_propose_linked.Goals as goal

pub returns-then-answer-ne-ANSWER_WORDS : goal.returns-then-answer-ne-ANSWER_WORDS
returns-then-answer-ne-ANSWER_WORDS c = let a = c.args in
    let made = linked_of (length a.out.now) a.passes a.job.now in
    without_room (offer_of made.offer) a.answer.now a.out.now (sets a.out.now 0 made.bytes) c.if-answer-ne-ANSWER_WORDS.true

pub returns : goal.returns
returns c = let a = c.args in
    let made = linked_of (length a.out.now) a.passes a.job.now in
    with_room (offer_of made.offer) a.answer.now a.out.now (sets a.out.now 0 made.bytes) (linked_small (length a.out.now) a.passes a.job.now) c.if-answer-ne-ANSWER_WORDS.false c.of_offer.result
    (c.of_offer.ensures ∙ ap {B = Answer} offer_of c.propose_linked-offer.ensures.0) c.give.ensures.0 c.give.ensures.1 c.propose_linked-offer.ensures.1
