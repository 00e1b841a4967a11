-- The words that the check is asked about are the proposal's.
use mathlib.Core.Path.{◌≡◌, refl, ap, ◌∙◌}
use native.Mathlib.Omega.{arith}
use Rattle.std.specs.Prelude.{Ok, Err}
use Rattle.std.specs.Result.{is_ok}
use Rattle.jobs.specs.Words.{job_of}
use Rattle.linked.specs.Proposal.{verdict_after}
use Rattle.checked.specs.Answers.{accepted}
use Rattle.passes.specs.OnWords.{state}
use Rattle.measure.specs.Check.{Verdict, verdict_for}
use Rattle.linked.proofs.Words.{part_is, words_most, linked_proposed}
use Rattle.linked.proofs.rounded.accepts.Goals as goal

told_ok : (v : Verdict) → is_ok v ≡ accepted v
told_ok (Ok figures) = refl
told_ok (Err r) = refl

pub slice_bounds-p-end : goal.slice_bounds-p-end
slice_bounds-p-end c = omega (arith, words_most c.args.job c.cells.ensures c.links.ensures)

pub invariant_of-p : goal.invariant_of-p
invariant_of-p c = let part = part_is c.args.job c.args.v.now c.args.y.now c.cells.ensures c.links.ensures c.words_after.ensures in
    record { proposed = rw part (linked_proposed (job_of c.args.job.words.now) (state c.args.v.now c.args.y.now) c.args.job.allowed) }

pub returns : goal.returns
unfolding verdict_after
returns c = let part = part_is c.args.job c.args.v.now c.args.y.now c.cells.ensures c.links.ensures c.words_after.ensures in
    c.is_ok.ensures.value ∙ told_ok _ ∙ ap accepted (c.check_proposal.ensures ∙ ap {B = Verdict} (verdict_for (job_of c.args.job.words.now)) part)
