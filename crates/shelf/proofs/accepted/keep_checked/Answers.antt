-- What the test of the shelf refuses is refused. Then the table is kept where the verdict accepts it, and a refusal is the check's own.
use Rattle.std.proofs.Common.{◌≡◌, Err, sym, ap, ◌∙◌, rules}
use Rattle.jobs.specs.Packs.{read_job}
use Rattle.measure.specs.Opening.{proposal_words}
use Rattle.measure.proofs.Packed.{lent_length}
use Rattle.checked.specs.declared.Answer.{Answer}
use Rattle.checked.proofs.Packs.{given_packs}
use Rattle.counts.proofs.Tests.{passed_ready}
use Rattle.shelf.specs.Given.{told}
use Rattle.shelf.specs.Calls.{keep}
use Rattle.shelf.specs.Shelf.{layout_in}
use Rattle.shelf.proofs.Answered.{passed}
use Rattle.shelf.proofs.Packs.{kept_packs, refused_packs}
use Rattle.shelf.proofs.accepted.keep_checked.Goals as goal

pub returns-in_err-figures : goal.returns-in_err-figures
returns-in_err-figures c = let a = c.args in
    let shelf = a.shelf.now in
    let e : c.from_residual-in_err-figures.result ≡ Err c.in_err-figures.field-0.0 = search rules in
    let both = refused_packs (layout_in shelf) a.job.now a.proposal.now c.in_err-figures.field-0.0 (sym c.check_into.ensures.0 ∙ c.in_err-figures.was) (told c.from_residual-in_err-figures.result) (ap {B = Answer} told e) shelf in
    let all = passed shelf (keep a.job.now a.proposal.now) (told c.from_residual-in_err-figures.result) (sym c.test_shelf.ensures ∙ c.in_ok-test_shelf.was) shelf both.0 both.1 in
    record { answer = all.0; shelf = all.1 }

pub slice_bounds-keep_table-end : goal.slice_bounds-keep_table-end
slice_bounds-keep_table-end c = let a = c.args in lent_length 2092 (read_job a.job.now).words _ c.check_into.ensures.1

pub slice_bounds-keep_table-end-2 : goal.slice_bounds-keep_table-end-2
slice_bounds-keep_table-end-2 c = let a = c.args in lent_length 280 (proposal_words a.job.now a.proposal.now) _ c.check_into.ensures.2

pub keep_table-requires : goal.keep_table-requires
keep_table-requires c = let a = c.args in
    let f = c.in_ok-figures.figures in
    (passed_ready _ (sym c.test_shelf.ensures ∙ c.in_ok-test_shelf.was), given_packs a.job.now a.proposal.now f.loss f.gap (sym c.check_into.ensures.0 ∙ c.in_ok-figures.was) c.check_into.new.words c.check_into.ensures.1 c.check_into.new.values c.check_into.ensures.2)

pub returns : goal.returns
returns c = let a = c.args in
    let shelf = a.shelf.now in
    let f = c.in_ok-figures.figures in
    let kept = c.keep_table in
    let both = kept_packs a.job.now a.proposal.now f.loss f.gap (sym c.check_into.ensures.0 ∙ c.in_ok-figures.was) c.check_into.new.words c.check_into.ensures.1 c.check_into.new.values c.check_into.ensures.2
    (layout_in shelf) kept.result kept.ensures.answer shelf kept.new.shelf kept.ensures.shelf in
    let all = passed shelf (keep a.job.now a.proposal.now) kept.result (sym c.test_shelf.ensures ∙ c.in_ok-test_shelf.was) kept.new.shelf both.0 both.1 in
    record { answer = all.0; shelf = all.1 }
