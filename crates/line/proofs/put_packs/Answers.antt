-- The job pack is the part of that size, and the proposal pack what is left.
use Rattle.decimals.proofs.Stores.{puts_same}
use Rattle.line.proofs.Lines.{beyond_line, packs_line_lem}
use Rattle.line.proofs.put_packs.Goals as goal

pub returns-then-left-size : goal.returns-then-left-size
returns-then-left-size c = let a = c.args in puts_same (beyond_line a.input.now a.size c.if-left-size.true) c.put_refusal.ensures

pub returns : goal.returns
returns c = let a = c.args in puts_same (packs_line_lem a.input.now a.size c.if-left-size.false) c.put_check.ensures
