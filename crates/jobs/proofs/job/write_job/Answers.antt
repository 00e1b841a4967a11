-- The numbers that stand for the words are written once they are all there; a job has 2,092 at most, so the scratch holds them.
use Rattle.jobs.proofs.Handed.{numbers_room, job_written, job_refused}
use lib.ListN.{length}
use mathlib.Core.Path.{◌≡◌, refl, sym, ◌∙◌}
use Rattle.std.specs.Prelude.{Err}
use borrow.Author.Rules.{rules}
use Rattle.jobs.proofs.job.write_job.Goals as goal

pub slice_bounds-put-end : goal.slice_bounds-put-end
slice_bounds-put-end c = numbers_room c.args.words.now (sym c.numbers_of.ensures.0 ∙ c.in_ok-k.was) c.numbers_of.ensures.1

pub returns : goal.returns
returns c = rw (← job_written c.args.words.now (sym c.numbers_of.ensures.0 ∙ c.in_ok-k.was) c.numbers_of.ensures.1 (length c.args.out.now)) c.put.ensures

pub returns-in_err-k : goal.returns-in_err-k
returns-in_err-k c = let e : c.from_residual.result ≡ Err c.in_err-k.field-0.0 = search rules in
    rw (← job_refused (length c.args.out.now) c.args.words.now (sym c.numbers_of.ensures.0 ∙ c.in_err-k.was)) (e, refl)
