-- The words are a proposal for the job, and the check's verdict is on them.
use mathlib.Core.Path.{refl, sym, ap, ◌∙◌, subst}
use mathlib.Core.List.{List}
use Prim.Native.Nat.{◌+◌}
use lib.IntN.{ℤ}
use lib.ListN.{length}
use Rattle.jobs.specs.Words.{cells_of, links_of, job_of}
use Rattle.jobs.specs.Allowed.{Proposed}
use Rattle.measure.specs.Check.{verdict_for}
use Rattle.shelf.proofs.Judged.{proposal_front, proposal_inside, proposed_for}
use Rattle.shelf.proofs.kept.Kept.judge.Goals as goal

pub slice_bounds-proposal-end : goal.slice_bounds-proposal-end
slice_bounds-proposal-end c =
    let K = c.args.self in
    let put = c.put_proposal in
    proposal_inside K.values.now K.multipliers.now put.new.words _ put.ensures (length K.values.now + length K.multipliers.now) refl

pub invariant_of-check_proposal : goal.invariant_of-check_proposal
invariant_of-check_proposal c =
    let K = c.args.self in
    let v = K.values.now in
    let y = K.multipliers.now in
    let ws = K.job.words.now in
    let put = c.put_proposal in
    record {
      proposed = subst (λ (ps : List ℤ). Proposed (cells_of ws) (links_of ws) ps) (sym (proposal_front v y put.new.words _ put.ensures (length v + length y) refl)) (proposed_for v y c.requires (cells_of ws) (links_of ws) K.cells K.links);
    }

pub returns : goal.returns
returns c =
    let K = c.args.self in
    let v = K.values.now in
    let y = K.multipliers.now in
    let put = c.put_proposal in
    c.check_proposal.ensures ∙ ap (λ (ps : List ℤ). verdict_for (job_of K.job.words.now) ps) (proposal_front v y put.new.words _ put.ensures (length v + length y) refl)
