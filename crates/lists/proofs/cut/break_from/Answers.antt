use mathlib.Core.Path.{sym, ◌∙◌}
use native.Mathlib.Omega.{arith}
use Rattle.lists.proofs.Cuts.{seeking_here, seeking_on, seeking_end}
use Rattle.lists.proofs.cut.break_from.Goals as goal

pub returns-then-is_break : goal.returns-then-is_break
returns-then-is_break c = seeking_here c.loop-i.invariant c.loop-i-test.true (sym c.is_break.ensures ∙ c.if-is_break.true)

pub loop-i-preserved : goal.loop-i-preserved
loop-i-preserved c = seeking_on c.loop-i.invariant c.loop-i-test.true (sym c.is_break.ensures ∙ c.if-is_break.false)

pub returns : goal.returns
returns c = let s = seeking_end c.loop-i.invariant c.loop-i-test.false in (omega (arith, s.0, c.loop-i.invariant.within), omega arith)
