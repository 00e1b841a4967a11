-- A job that is read has at most 2,092 words, so the scratch holds them all.
use mathlib.Core.Path.{sym, ◌∙◌}
use Prim.Native.Nat.{◌≤◌}
use borrow.Author.Rules.{rules}
use lib.ListN.{length}
use Rattle.jobs.proofs.Handed.{scratch_room}
use Rattle.house.proofs.Handing.{part_known}
use Rattle.linked.proofs.Answering.{part_linked}
use Rattle.linked.proofs.propose_linked.Goals as goal

pub slice_bounds-job-end : goal.slice_bounds-job-end
slice_bounds-job-end c = scratch_room c.args.job.now (sym c.read.ensures.0 ∙ c.in_ok-k.was) c.read.ensures.1

pub invariant_of-job : goal.invariant_of-job
invariant_of-job c = let k = part_known c.args.job.now (sym c.read.ensures.0 ∙ c.in_ok-k.was) c.read.ensures.1 in record { allowed = k.allowed; laid = k.laid }

pub propose_for-requires : goal.propose_for-requires
propose_for-requires c = search rules

pub returns : goal.returns
returns c = let read = c.read.ensures in
    let some : 1 ≤ c.args.passes = search rules in
    let few : c.args.passes ≤ 200 = search rules in
    rw (← part_linked (length c.args.out.now) c.args.passes c.args.job.now some few (sym read.0 ∙ c.in_ok-k.was) read.1) c.propose_for.ensures
