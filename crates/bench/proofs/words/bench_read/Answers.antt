-- The words are the job reader's; the answer is given where there is room for it.
use Rattle.std.proofs.Common.{length, ap, ◌∙◌}
use lib.Seq.{sets}
use Rattle.jobs.specs.Packs.{read_job_into}
use Rattle.bench.specs.Calls.{outcome_of}
use Rattle.bench.proofs.Endings.{without_room, with_room}
use Rattle.bench.proofs.Outcomes.{read_small}
use Rattle.bench.proofs.words.bench_read.Goals as goal

pub returns-then-answer-ne-ANSWER_WORDS : goal.returns-then-answer-ne-ANSWER_WORDS
returns-then-answer-ne-ANSWER_WORDS c = let a = c.args in
    let made = read_job_into (length a.words.now) a.job.now in
    without_room (outcome_of made.outcome) a.answer.now a.words.now (sets a.words.now 0 made.words) c.if-answer-ne-ANSWER_WORDS.true

pub returns : goal.returns
returns c = let a = c.args in
    let made = read_job_into (length a.words.now) a.job.now in
    with_room (outcome_of made.outcome) a.answer.now a.words.now (sets a.words.now 0 made.words) (read_small (length a.words.now) a.job.now) c.if-answer-ne-ANSWER_WORDS.false c.of_outcome.result
    (c.of_outcome.ensures ∙ ap outcome_of c.read_job-outcome.ensures.0) c.give.ensures.0 c.give.ensures.1 c.read_job-outcome.ensures.1
