-- After the links below l, what is left is those from l on, and s is where the next one starts.
use mathlib.Core.Path.{◌≡◌}
use Prim.Native.Nat.{◌-◌}
use Rattle.jobs.specs.Words.{start_of, job_of}
use Rattle.passes.specs.Hildreth.{link_of, pass_from}
use Rattle.passes.specs.OnWords.{state}
use Rattle.passes.proofs.method.pass.Given as goal

abbrev pub invariant-loop-i : goal.invariant-loop-i
invariant-loop-i l = (l.s ≡ start_of l.job.words.now l.i) × (pass_from l.factor.pivots.now l.factor.multipliers.now l.factor.reach l.factor.cells (link_of (job_of l.job.words.now)) (l.links - l.i) l.i (state l.v l.y) ≡ pass_from l.factor.pivots.now l.factor.multipliers.now l.factor.reach l.factor.cells (link_of (job_of l.job.words.now)) l.links 0 (state l.initial.v l.initial.y))
