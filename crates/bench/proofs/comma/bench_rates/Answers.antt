-- The values are those of the list; the answer is given where there is room for it.
use Rattle.std.proofs.Common.{length, ap, ◌∙◌}
use lib.Seq.{sets}
use Rattle.exports.specs.Exports.{rates_of}
use Rattle.bench.specs.Calls.{outcome_of}
use Rattle.bench.proofs.Endings.{without_room, with_room}
use Rattle.bench.proofs.Listed.{rates_small}
use Rattle.bench.proofs.comma.bench_rates.Goals as goal

pub returns-then-answer-ne-ANSWER_WORDS : goal.returns-then-answer-ne-ANSWER_WORDS
returns-then-answer-ne-ANSWER_WORDS c = let a = c.args in
    let made = rates_of (length a.out.now) a.text.now in
    without_room (outcome_of made.outcome) a.answer.now a.out.now (sets a.out.now 0 made.values) c.if-answer-ne-ANSWER_WORDS.true

pub returns : goal.returns
returns c = let a = c.args in
    let made = rates_of (length a.out.now) a.text.now in
    with_room (outcome_of made.outcome) a.answer.now a.out.now (sets a.out.now 0 made.values) (rates_small (length a.out.now) a.text.now) c.if-answer-ne-ANSWER_WORDS.false c.of_outcome.result
    (c.of_outcome.ensures ∙ ap outcome_of c.rates-outcome.ensures.0) c.give.ensures.0 c.give.ensures.1 c.rates-outcome.ensures.1
