-- A job that is read has at most 2,092 words, so the scratch holds them all and the lender gets them all.
use Rattle.jobs.proofs.Handed.{scratch_room, scratch_handed}
use lib.ListN.{length}
use mathlib.Core.Path.{refl, sym, ◌∙◌}
use Rattle.jobs.proofs.job.read_job.Goals as goal

pub hand_out-requires : goal.hand_out-requires
hand_out-requires c = scratch_room c.args.pack.now (sym c.read.ensures.0 ∙ c.in_ok-k.was) c.read.ensures.1

pub returns : goal.returns
returns c = rw (← scratch_handed c.args.pack.now (sym c.read.ensures.0 ∙ c.in_ok-k.was) c.read.ensures.1 (length c.args.out.now)) c.hand_out.ensures
