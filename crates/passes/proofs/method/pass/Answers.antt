use mathlib.Core.Path.{sym, ap, ◌∙◌}
use Prim.Native.Nat.{ℕ, ◌+◌, ◌-◌}
use native.Mathlib.Omega.{arith}
use Rattle.jobs.specs.Words.{job_of}
use Rattle.passes.specs.Hildreth.{State, link_of, pass_from}
use Rattle.passes.specs.OnWords.{state}
use Rattle.passes.proofs.Turns.{pass_more, pass_done}
use Rattle.passes.proofs.Passing.{next_state, at_link, next_starts}
use Rattle.passes.proofs.method.pass.Goals as goal

pub invariant_of-link : goal.invariant_of-link
invariant_of-link c = let links = c.links-links.ensures in
    record { at = at_link c.args.job c.loop-i.i c.loop-i.invariant.0 (omega (arith, links)) }

pub next_start-s-requires : goal.next_start-s-requires
next_start-s-requires c = let links = c.links-links.ensures in
    at_link c.args.job c.loop-i.i c.loop-i.invariant.0 (omega (arith, links))

pub loop-i-preserved : goal.loop-i-preserved
loop-i-preserved c = let a = c.args in
    let i = c.loop-i.i in
    let ws = a.job.words.now in (
      next_starts a.job i c.loop-i.invariant.0 c.next_start-s.ensures,
      ap {B = State} (λ (s : State). pass_from a.factor.pivots.now a.factor.multipliers.now a.factor.reach a.factor.cells (link_of (job_of ws)) (c.links-links.result - (i + 1)) (i + 1) s)
          (next_state ws a.factor.pivots.now a.factor.multipliers.now a.factor.reach a.factor.cells i c.loop-i.invariant.0 c.loop-i.v c.loop-i.y c.improve-new.ensures)
          ∙ sym (pass_more a.factor.pivots.now a.factor.multipliers.now a.factor.reach a.factor.cells (link_of (job_of ws)) i c.links-links.result (state c.loop-i.v c.loop-i.y) (omega arith)) ∙ c.loop-i.invariant.1,
    )

pub returns : goal.returns
returns c = let a = c.args in
    sym (pass_done a.factor.pivots.now a.factor.multipliers.now a.factor.reach a.factor.cells (link_of (job_of a.job.words.now)) c.loop-i.i c.links-links.result (state c.loop-i.v c.loop-i.y) (omega arith)) ∙ c.loop-i.invariant.1
    ∙ ap (λ (links : ℕ). pass_from a.factor.pivots.now a.factor.multipliers.now a.factor.reach a.factor.cells (link_of (job_of a.job.words.now)) links 0 (state a.v.now a.y.now)) c.links-links.ensures
