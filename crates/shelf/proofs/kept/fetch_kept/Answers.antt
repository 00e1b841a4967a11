-- The values are handed out where the verdict accepts them, and a refusal is the verdict's own.
use mathlib.Core.Path.{refl, sym, ap, ◌∙◌}
use Rattle.std.proofs.Common.{◌≡◌, Ok, Err, rules}
use Rattle.checked.specs.declared.Answer.{Answer}
use lib.ListN.{length}
use Rattle.jobs.specs.Words.{job_of}
use Rattle.measure.specs.Check.{Verdict}
use Rattle.checked.specs.Answers.{Reply, refused}
use Rattle.shelf.specs.Given.{told}
use Rattle.shelf.specs.Fetched.{kept_verdict, handed}
use Rattle.shelf.proofs.Picked.{replied}
use Rattle.shelf.proofs.kept.fetch_kept.Goals as goal

pub returns-in_err-figures : goal.returns-in_err-figures
returns-in_err-figures c = let a = c.args in
    let o = a.out.now in
    let v = a.kept.values.now in
    let e : c.from_residual.result ≡ Err c.in_err-figures.field-0.0 = search rules in
    let both = replied (refused c.in_err-figures.field-0.0) (handed (length o) v (kept_verdict (job_of a.kept.job.words.now) v a.kept.multipliers.now)) (told c.from_residual.result) o o
    (ap {B = Reply} (λ (w : Verdict). handed (length o) v w) (sym c.in_err-figures.was ∙ c.verdict.ensures)) (ap {B = Answer} told e) refl in record { answer = both.0; output = both.1 }

pub returns : goal.returns
returns c = let a = c.args in
    let o = a.out.now in
    let v = a.kept.values.now in
    let both = replied (handed (length o) v (Ok c.in_ok-figures.figures)) (handed (length o) v (kept_verdict (job_of a.kept.job.words.now) v a.kept.multipliers.now)) (told c.hand_out.result) o c.hand_out.new.out
    (ap {B = Reply} (λ (w : Verdict). handed (length o) v w) (sym c.in_ok-figures.was ∙ c.verdict.ensures)) c.hand_out.ensures.answer c.hand_out.ensures.output in record { answer = both.0; output = both.1 }
