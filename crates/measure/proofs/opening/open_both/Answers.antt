-- The job that was read is at the head of the words; what is answered for its proposal is answered for both.
use mathlib.Core.Path.{◌≡◌, sym, ap, ◌∙◌}
use native.Mathlib.Omega.{arith}
use lib.ListN.{length}
use Rattle.std.specs.Prelude.{Err}
use Rattle.measure.specs.Opening.{opened_for}
use Rattle.measure.proofs.Packed.{job_answer, job_asked, job_left}
use borrow.Author.Rules.{rules}
use Rattle.measure.proofs.opening.open_both.Goals as goal

pub shared_ref_as_front-read : goal.shared_ref_as_front-read
shared_ref_as_front-read c = let w : length c.args.words.now ≡ 2092 = search rules in let l : length c.read.new.words ≡ 2092 = search rules in omega (arith, l, (job_asked c.args.job.now c.args.proposal.now c.args.words.now w c.read.ensures.0 c.read.ensures.1 c.in_ok-k.was).0)

pub invariant_of-read : goal.invariant_of-read
invariant_of-read c = let w : length c.args.words.now ≡ 2092 = search rules in let H = (job_asked c.args.job.now c.args.proposal.now c.args.words.now w c.read.ensures.0 c.read.ensures.1 c.in_ok-k.was).1 in record { allowed = H.0; laid = H.1 }

pub returns-in_err-m : goal.returns-in_err-m
returns-in_err-m c = let w : length c.args.words.now ≡ 2092 = search rules in let e : c.from_residual-in_err-m.result ≡ Err c.in_err-m.field-0.0 = search rules in
    (job_answer c.args.job.now c.args.proposal.now c.args.words.now w c.read.ensures.0 c.read.ensures.1 c.in_ok-k.was (e ∙ ap (opened_for c.in_ok-k.k) (sym c.in_err-m.was ∙ c.read_for.ensures.0)), c.read.ensures.1, job_left c.args.job.now c.args.proposal.now c.args.words.now w c.read.ensures.0 c.read.ensures.1 c.in_ok-k.was c.args.values.now c.read_for.ensures.1)

pub returns : goal.returns
returns c = let w : length c.args.words.now ≡ 2092 = search rules in
    (job_answer c.args.job.now c.args.proposal.now c.args.words.now w c.read.ensures.0 c.read.ensures.1 c.in_ok-k.was (ap (opened_for c.in_ok-k.k) (sym c.in_ok-m.was ∙ c.read_for.ensures.0)), c.read.ensures.1, job_left c.args.job.now c.args.proposal.now c.args.words.now w c.read.ensures.0 c.read.ensures.1 c.in_ok-k.was c.args.values.now c.read_for.ensures.1)
