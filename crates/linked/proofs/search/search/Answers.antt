use mathlib.Core.Path.{◌≡◌}
use native.Mathlib.Omega.{arith}
use Rattle.jobs.specs.Words.{job_of}
use Rattle.measure.proofs.Lowest.{passed_next}
use Rattle.linked.proofs.Searching.{rejects, passed_is, rejects_is, found, found_state, none_found, none_state, one_more}
use Rattle.linked.proofs.search.search.Goals as goal

pub returns-then-accepts : goal.returns-then-accepts
returns-then-accepts c = let j = job_of c.args.job.words.now in
    let e = passed_is c.requires.factored c.loop-p.p c.loop-p.invariant.0 c.pass.ensures in
    let q = rejects_is j c.loop-p.p e c.accepts.ensures c.if-accepts.true in
    (found j c.args.given c.loop-p.p c.loop-p.invariant.1 c.loop-p-test.true q, found_state j c.args.given c.loop-p.p c.loop-p.invariant.1 c.loop-p-test.true q e)

pub loop-p-preserved : goal.loop-p-preserved
loop-p-preserved c = let j = job_of c.args.job.words.now in
    let e = passed_is c.requires.factored c.loop-p.p c.loop-p.invariant.0 c.pass.ensures in
    let q = rejects_is j c.loop-p.p e c.accepts.ensures c.if-accepts.false in
    (one_more j c.loop-p.p e, passed_next (rejects j) c.loop-p.p c.loop-p.invariant.1 q)

pub returns : goal.returns
returns c = let j = job_of c.args.job.words.now in
    let e : c.loop-p.p ≡ c.args.given = omega arith in
    (none_found j c.args.given c.loop-p.p c.loop-p.invariant.1 e, none_state j c.args.given c.loop-p.p c.loop-p.invariant.1 e c.loop-p.invariant.0)
