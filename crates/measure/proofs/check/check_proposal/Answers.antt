use mathlib.Core.Path.{◌≡◌, sym, ◌∙◌}
use Rattle.measure.proofs.Proposals.{given}
use Rattle.measure.proofs.Verdicts.{meet_judging, met_judged, met_refused, walking}
use borrow.Author.Rules.{rules}
use Rattle.std.specs.Prelude.{Err}
use Rattle.measure.proofs.check.check_proposal.Goals as goal

pub meet-requires : goal.meet-requires
meet-requires c = walking (given c.args.p) c.cells-n.ensures

pub judged-requires : goal.judged-requires
judged-requires c = meet_judging (walking (given c.args.p) c.cells-n.ensures) (sym c.meet.ensures.0 ∙ c.in_ok-tally.was) c.meet.ensures.1

pub returns-in_err-tally : goal.returns-in_err-tally
returns-in_err-tally c = let e : c.from_residual.result ≡ Err c.in_err-tally.field-0.0 = search rules in
    e ∙ met_refused c.args.p.job.words.now c.args.p.words.now c.meet.ensures.0 c.in_err-tally.was

pub returns : goal.returns
returns c = c.judged.ensures.0 ∙ met_judged c.args.p.job.words.now c.args.p.words.now c.meet.ensures.0 c.in_ok-tally.was
