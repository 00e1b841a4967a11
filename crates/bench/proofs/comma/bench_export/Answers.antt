-- The text is the export's; the answer is given where there is room for it.
use Rattle.std.proofs.Common.{length, ap, ◌∙◌}
use lib.Seq.{sets}
use Rattle.exports.specs.Exports.{export_of}
use Rattle.bench.specs.Calls.{outcome_of}
use Rattle.bench.proofs.Endings.{without_room, with_room}
use Rattle.bench.proofs.Listed.{export_small}
use Rattle.bench.proofs.comma.bench_export.Goals as goal

pub returns-then-answer-ne-ANSWER_WORDS : goal.returns-then-answer-ne-ANSWER_WORDS
returns-then-answer-ne-ANSWER_WORDS c = let a = c.args in
    let made = export_of (length a.out.now) a.first a.rates.now in
    without_room (outcome_of made.outcome) a.answer.now a.out.now (sets a.out.now 0 made.bytes) c.if-answer-ne-ANSWER_WORDS.true

pub returns : goal.returns
returns c = let a = c.args in
    let made = export_of (length a.out.now) a.first a.rates.now in
    with_room (outcome_of made.outcome) a.answer.now a.out.now (sets a.out.now 0 made.bytes) (export_small (length a.out.now) a.first a.rates.now) c.if-answer-ne-ANSWER_WORDS.false c.of_outcome.result
    (c.of_outcome.ensures ∙ ap outcome_of c.export-outcome.ensures.0) c.give.ensures.0 c.give.ensures.1 c.export-outcome.ensures.1
