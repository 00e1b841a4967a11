-- Four stores make the four words; a shift by five and a sum are the number returned, both taken as far as 64 bits go.
use Rattle.std.proofs.Common.{◌≡◌, ℕ, ◌+◌, ◌*◌, ◌%◌, ◌^◌, ◌∙◌, arith}
use Rattle.bench.proofs.Four.{four}
use Rattle.bench.proofs.answers.give.Goals as goal

code-wraps : (place number : ℕ) → ((place * 2 ^ 5) % 2 ^ 64 + number) % 2 ^ 64 ≡ (32 * place + number) % 2 ^ 64
code-wraps place number = omega arith

pub returns : goal.returns
returns c = let a = c.args.a in
    (c.wrapping_add_u64.ensures.value ∙ code-wraps a.place a.number, four c.args.answer.now a.number a.place a.loss a.gap c.requires)
