-- The refusal of a table that does not meet its job, or its list.
use mathlib.Core.Path.{◌≡◌, sym, ◌∙◌}
use Rattle.std.specs.Prelude.{Err}
use Rattle.measure.proofs.Proposals.{given}
use Rattle.measure.proofs.Verdicts.{meet_judging, walking}
use borrow.Author.Rules.{rules}
use Rattle.terms.proofs.Endings.{table_met, table_unmet}
use Rattle.terms.proofs.listing.list_table.Goals as goal

pub meet-requires : goal.meet-requires
meet-requires c = walking (given c.args.p) c.cells-n.ensures

pub list_all-requires : goal.list_all-requires
list_all-requires c = (meet_judging (walking (given c.args.p) c.cells-n.ensures) (sym c.meet.ensures.0 ∙ c.in_ok-meet.was) c.meet.ensures.1).parted

pub returns-in_err-meet : goal.returns-in_err-meet
returns-in_err-meet c = let e : c.from_residual.result ≡ Err c.in_err-meet.field-0.0 = search rules in
    let H = table_unmet c.args.p.job.words.now c.args.p.words.now c.args.out.now c.meet.ensures.0 c.in_err-meet.was in (e ∙ H.0, H.1)

pub returns : goal.returns
returns c = table_met c.args.p.job.words.now c.args.p.words.now c.args.out.now c.meet.ensures.0 c.in_ok-meet.was c.list_all.ensures.0
