-- The bytes are the job writer's; the answer is given where there is room for it.
use Rattle.std.proofs.Common.{length, ap, ◌∙◌}
use lib.Seq.{sets}
use Rattle.packs.specs.Writing.{roomed}
use Rattle.jobs.specs.Packs.{write_job}
use Rattle.bench.specs.Calls.{outcome_of}
use Rattle.bench.proofs.Endings.{without_room, with_room}
use Rattle.bench.proofs.Outcomes.{write_small}
use Rattle.bench.proofs.words.bench_write.Goals as goal

pub returns-then-answer-ne-ANSWER_WORDS : goal.returns-then-answer-ne-ANSWER_WORDS
returns-then-answer-ne-ANSWER_WORDS c = let a = c.args in
    let made = roomed (length a.out.now) (write_job a.words.now) in
    without_room (outcome_of made.outcome) a.answer.now a.out.now (sets a.out.now 0 made.bytes) c.if-answer-ne-ANSWER_WORDS.true

pub returns : goal.returns
returns c = let a = c.args in
    let made = roomed (length a.out.now) (write_job a.words.now) in
    with_room (outcome_of made.outcome) a.answer.now a.out.now (sets a.out.now 0 made.bytes) (write_small (length a.out.now) a.words.now) c.if-answer-ne-ANSWER_WORDS.false c.of_outcome.result
    (c.of_outcome.ensures ∙ ap outcome_of c.write_job-outcome.ensures.0) c.give.ensures.0 c.give.ensures.1 c.write_job-outcome.ensures.1
