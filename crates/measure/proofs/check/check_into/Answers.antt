-- What was read of both packs is what the check goes by.
use mathlib.Core.Path.{◌≡◌, sym, ◌∙◌}
use native.Mathlib.Omega.{arith}
use lib.ListN.{length}
use Rattle.measure.proofs.Packed.{job_room, parts_checked, parts_given, proposal_room}
use borrow.Author.Rules.{rules}
use Rattle.measure.proofs.check.check_into.Goals as goal

pub shared_ref_as_front-read : goal.shared_ref_as_front-read
shared_ref_as_front-read c = let w : length c.open_both.new.words ≡ 2092 = search rules in let v : length c.open_both.new.values ≡ 280 = search rules in
    omega (arith, w, job_room c.args.job.now c.args.proposal.now (sym c.open_both.ensures.0 ∙ c.in_ok-counts.was) w c.args.words.now c.open_both.ensures.1 v c.args.values.now c.open_both.ensures.2)

pub invariant_of-read : goal.invariant_of-read
invariant_of-read c = let w : length c.open_both.new.words ≡ 2092 = search rules in let v : length c.open_both.new.values ≡ 280 = search rules in
    let G = parts_given c.args.job.now c.args.proposal.now (sym c.open_both.ensures.0 ∙ c.in_ok-counts.was) w c.args.words.now c.open_both.ensures.1 v c.args.values.now c.open_both.ensures.2 in record { allowed = G.allowed; laid = G.laid }

pub shared_ref_as_front-check_proposal : goal.shared_ref_as_front-check_proposal
shared_ref_as_front-check_proposal c = let w : length c.open_both.new.words ≡ 2092 = search rules in let v : length c.open_both.new.values ≡ 280 = search rules in
    omega (arith, v, proposal_room c.args.job.now c.args.proposal.now (sym c.open_both.ensures.0 ∙ c.in_ok-counts.was) w c.args.words.now c.open_both.ensures.1 v c.args.values.now c.open_both.ensures.2)

pub invariant_of-check_proposal : goal.invariant_of-check_proposal
invariant_of-check_proposal c = let w : length c.open_both.new.words ≡ 2092 = search rules in let v : length c.open_both.new.values ≡ 280 = search rules in
    record { proposed = (parts_given c.args.job.now c.args.proposal.now (sym c.open_both.ensures.0 ∙ c.in_ok-counts.was) w c.args.words.now c.open_both.ensures.1 v c.args.values.now c.open_both.ensures.2).proposed }

pub returns : goal.returns
returns c = let w : length c.open_both.new.words ≡ 2092 = search rules in let v : length c.open_both.new.values ≡ 280 = search rules in
    (parts_checked c.args.job.now c.args.proposal.now (sym c.open_both.ensures.0 ∙ c.in_ok-counts.was) w c.args.words.now c.open_both.ensures.1 v c.args.values.now c.open_both.ensures.2 c.check_proposal.ensures, c.open_both.ensures.1, c.open_both.ensures.2)
