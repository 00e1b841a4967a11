-- Forgetting is the shelf's own; the answer is given where there is room for it.
use Rattle.shelf.specs.Calls.{own, forget, after, said}
use Rattle.bench.proofs.Endings.{without_room, with_room}
use Rattle.bench.proofs.Shelves.{said_small}
use Rattle.bench.proofs.keeping.bench_forget.Goals as goal

pub returns-then-answer-ne-ANSWER_WORDS : goal.returns-then-answer-ne-ANSWER_WORDS
returns-then-answer-ne-ANSWER_WORDS c = let a = c.args in
    let call = own (forget a.society a.job) in
    without_room (said a.shelf.now call).answer a.answer.now a.shelf.now (after a.shelf.now call) c.if-answer-ne-ANSWER_WORDS.true

pub returns : goal.returns
returns c = let a = c.args in
    let call = own (forget a.society a.job) in
    with_room (said a.shelf.now call).answer a.answer.now a.shelf.now (after a.shelf.now call) (said_small a.shelf.now call) c.if-answer-ne-ANSWER_WORDS.false c.forget-a.result
    c.forget-a.ensures.answer c.give.ensures.0 c.give.ensures.1 c.forget-a.ensures.shelf
