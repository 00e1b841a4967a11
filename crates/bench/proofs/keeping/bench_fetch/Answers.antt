-- Fetching is the shelf's own; the answer is given where there is room for it.
use Rattle.std.proofs.Common.{length}
use Rattle.checked.specs.Answers.{overwritten}
use Rattle.shelf.specs.Calls.{own, fetch, said}
use Rattle.bench.proofs.Endings.{without_room, with_room}
use Rattle.bench.proofs.Shelves.{said_small}
use Rattle.bench.proofs.keeping.bench_fetch.Goals as goal

pub returns-then-answer-ne-ANSWER_WORDS : goal.returns-then-answer-ne-ANSWER_WORDS
returns-then-answer-ne-ANSWER_WORDS c = let a = c.args in
    let call = own (fetch a.job.now (length a.out.now)) in
    without_room (said a.shelf.now call).answer a.answer.now a.out.now (overwritten a.out.now (said a.shelf.now call).values) c.if-answer-ne-ANSWER_WORDS.true

pub returns : goal.returns
returns c = let a = c.args in
    let call = own (fetch a.job.now (length a.out.now)) in
    with_room (said a.shelf.now call).answer a.answer.now a.out.now (overwritten a.out.now (said a.shelf.now call).values) (said_small a.shelf.now call) c.if-answer-ne-ANSWER_WORDS.false c.fetch-a.result
    c.fetch-a.ensures.answer c.give.ensures.0 c.give.ensures.1 c.fetch-a.ensures.output
