use native.Mathlib.Omega.{arith}
use Rattle.exports.proofs.Texts.{lines_none_put, line_room, line_more}
use Rattle.exports.proofs.text.put_lines.Goals as goal

pub loop-rate-init : goal.loop-rate-init
loop-rate-init c = let a = c.args in (omega arith, lines_none_put a.first a.rates.now a.out.now a.at)

pub put_line-next-requires : goal.put_line-next-requires
put_line-next-requires c = let a = c.args in let l = c.loop-rate in rw c.from.ensures (line_room a.first a.rates.now l.rate-index c.loop-rate-test.true l.invariant.0 l.invariant.1 c.requires.1.1)

pub loop-rate-preserved : goal.loop-rate-preserved
loop-rate-preserved c = let a = c.args in let l = c.loop-rate in (omega arith, line_more a.first a.rates.now l.rate-index c.loop-rate-test.true l.invariant.0 l.invariant.1 (rw c.from.ensures at c.put_line-next.ensures))
