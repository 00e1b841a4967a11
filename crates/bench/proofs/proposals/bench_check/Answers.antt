-- The verdict is the check's own; the answer is given where there is room for it.
use Rattle.std.proofs.Common.{ℕ, [], refl, ap, ◌∙◌}
use Rattle.measure.specs.Check.{check_of}
use Rattle.checked.specs.Answers.{answer_of}
use Rattle.bench.proofs.Endings.{without_room, with_room}
use Rattle.bench.proofs.Small.{check_small}
use Rattle.bench.proofs.proposals.bench_check.Goals as goal

pub returns-then-answer-ne-ANSWER_WORDS : goal.returns-then-answer-ne-ANSWER_WORDS
returns-then-answer-ne-ANSWER_WORDS c = let a = c.args in
    without_room {A = ℕ} (answer_of (check_of a.job.now a.proposal.now)) a.answer.now [] [] c.if-answer-ne-ANSWER_WORDS.true

pub returns : goal.returns
returns c = let a = c.args in
    with_room {A = ℕ} (answer_of (check_of a.job.now a.proposal.now)) a.answer.now [] [] (check_small a.job.now a.proposal.now) c.if-answer-ne-ANSWER_WORDS.false c.of_verdict.result
    (c.of_verdict.ensures ∙ ap answer_of c.check-verdict.ensures) c.give.ensures.0 c.give.ensures.1 refl
