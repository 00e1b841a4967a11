-- The words are those that the terms are handed out in; the answer is given where there is room for it.
use Rattle.std.proofs.Common.{length, ap, ◌∙◌}
use lib.Seq.{sets}
use Rattle.terms.specs.Listing.{terms_of}
use Rattle.bench.specs.Calls.{outcome_of}
use Rattle.bench.proofs.Endings.{without_room, with_room}
use Rattle.bench.proofs.Outcomes.{terms_small}
use Rattle.bench.proofs.proposals.bench_terms.Goals as goal

pub returns-then-answer-ne-ANSWER_WORDS : goal.returns-then-answer-ne-ANSWER_WORDS
returns-then-answer-ne-ANSWER_WORDS c = let a = c.args in
    let made = terms_of (length a.out.now) a.job.now a.proposal.now in
    without_room (outcome_of made.outcome) a.answer.now a.out.now (sets a.out.now 0 made.words) c.if-answer-ne-ANSWER_WORDS.true

pub returns : goal.returns
returns c = let a = c.args in
    let made = terms_of (length a.out.now) a.job.now a.proposal.now in
    with_room (outcome_of made.outcome) a.answer.now a.out.now (sets a.out.now 0 made.words) (terms_small (length a.out.now) a.job.now a.proposal.now) c.if-answer-ne-ANSWER_WORDS.false c.of_outcome.result
    (c.of_outcome.ensures ∙ ap outcome_of c.list_terms-outcome.ensures.0) c.give.ensures.0 c.give.ensures.1 c.list_terms-outcome.ensures.1
