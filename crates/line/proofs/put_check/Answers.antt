-- The verdict decides which line it is.
use mathlib.Core.Path.{sym, ◌∙◌}
use Rattle.checked.proofs.Packs.{given_packs}
use Rattle.decimals.proofs.Stores.{puts_same}
use Rattle.line.proofs.Tables.{accepted_line, refused_lines}
use Rattle.line.proofs.put_check.Goals as goal

pub put_table-requires : goal.put_table-requires
put_table-requires c = let a = c.args in let k = c.check_into in
    (given_packs a.job.now a.proposal.now c.in-Ok.figures.loss c.in-Ok.figures.gap (sym k.ensures.0 ∙ c.in-Ok.is) k.new.words k.ensures.1 k.new.values k.ensures.2, c.requires)

pub returns-in-Ok : goal.returns-in-Ok
returns-in-Ok c = let a = c.args in let k = c.check_into in
    puts_same (accepted_line a.job.now a.proposal.now c.in-Ok.figures.loss c.in-Ok.figures.gap (sym k.ensures.0 ∙ c.in-Ok.is) k.new.words k.ensures.1 k.new.values k.ensures.2) c.put_table.ensures

pub returns-in-Err : goal.returns-in-Err
returns-in-Err c = let a = c.args in puts_same (sym (refused_lines a.job.now a.proposal.now c.in-Err.r (sym c.check_into.ensures.0 ∙ c.in-Err.is))) c.put_refusal.ensures
