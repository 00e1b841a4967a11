-- What was read of both packs is what is listed.
use mathlib.Core.Path.{◌≡◌, sym, ◌∙◌}
use native.Mathlib.Omega.{arith}
use lib.IntN.{pos}
use lib.ListN.{replicate}
use Rattle.std.specs.Prelude.{Err}
use Rattle.std.proofs.lemmas.List.{length-take-le}
use Rattle.jobs.specs.Packs.{read_job}
use Rattle.measure.specs.Opening.{proposal_words}
use Rattle.measure.proofs.Packed.{job_room, lent_length, parts_given, proposal_room}
use borrow.Author.Rules.{rules}
use Rattle.terms.proofs.Endings.{packs_listed, packs_unread}
use Rattle.terms.proofs.list_terms.Goals as goal

pub slice_bounds-words-end : goal.slice_bounds-words-end
slice_bounds-words-end c = let w = lent_length 2092 (read_job c.args.job.now).words c.open_both.new.words c.open_both.ensures.1 in let v = lent_length 280 (proposal_words c.args.job.now c.args.proposal.now) c.open_both.new.values c.open_both.ensures.2 in
    omega (arith, w, job_room c.args.job.now c.args.proposal.now (sym c.open_both.ensures.0 ∙ c.in_ok-counts.was) (sym w) (replicate 2092 (pos 0)) c.open_both.ensures.1 (sym v) (replicate 280 (pos 0)) c.open_both.ensures.2)

pub slice_bounds-read-end : goal.slice_bounds-read-end
slice_bounds-read-end c = let w = lent_length 2092 (read_job c.args.job.now).words c.open_both.new.words c.open_both.ensures.1 in let v = lent_length 280 (proposal_words c.args.job.now c.args.proposal.now) c.open_both.new.values c.open_both.ensures.2 in
    let h = job_room c.args.job.now c.args.proposal.now (sym c.open_both.ensures.0 ∙ c.in_ok-counts.was) (sym w) (replicate 2092 (pos 0)) c.open_both.ensures.1 (sym v) (replicate 280 (pos 0)) c.open_both.ensures.2 in omega (arith, length-take-le c.in_ok-counts.counts.words c.open_both.new.words h)

pub slice_bounds-values-end : goal.slice_bounds-values-end
slice_bounds-values-end c = let w = lent_length 2092 (read_job c.args.job.now).words c.open_both.new.words c.open_both.ensures.1 in let v = lent_length 280 (proposal_words c.args.job.now c.args.proposal.now) c.open_both.new.values c.open_both.ensures.2 in
    omega (arith, v, proposal_room c.args.job.now c.args.proposal.now (sym c.open_both.ensures.0 ∙ c.in_ok-counts.was) (sym w) (replicate 2092 (pos 0)) c.open_both.ensures.1 (sym v) (replicate 280 (pos 0)) c.open_both.ensures.2)

pub slice_bounds-list_table-end : goal.slice_bounds-list_table-end
slice_bounds-list_table-end c = let w = lent_length 2092 (read_job c.args.job.now).words c.open_both.new.words c.open_both.ensures.1 in let v = lent_length 280 (proposal_words c.args.job.now c.args.proposal.now) c.open_both.new.values c.open_both.ensures.2 in
    let h = proposal_room c.args.job.now c.args.proposal.now (sym c.open_both.ensures.0 ∙ c.in_ok-counts.was) (sym w) (replicate 2092 (pos 0)) c.open_both.ensures.1 (sym v) (replicate 280 (pos 0)) c.open_both.ensures.2 in omega (arith, length-take-le c.in_ok-counts.counts.values c.open_both.new.values h)

pub invariant_of-read : goal.invariant_of-read
invariant_of-read c = let w = lent_length 2092 (read_job c.args.job.now).words c.open_both.new.words c.open_both.ensures.1 in let v = lent_length 280 (proposal_words c.args.job.now c.args.proposal.now) c.open_both.new.values c.open_both.ensures.2 in
    let G = parts_given c.args.job.now c.args.proposal.now (sym c.open_both.ensures.0 ∙ c.in_ok-counts.was) (sym w) (replicate 2092 (pos 0)) c.open_both.ensures.1 (sym v) (replicate 280 (pos 0)) c.open_both.ensures.2 in record { allowed = G.allowed; laid = G.laid }

pub invariant_of-list_table : goal.invariant_of-list_table
invariant_of-list_table c = let w = lent_length 2092 (read_job c.args.job.now).words c.open_both.new.words c.open_both.ensures.1 in let v = lent_length 280 (proposal_words c.args.job.now c.args.proposal.now) c.open_both.new.values c.open_both.ensures.2 in
    record { proposed = (parts_given c.args.job.now c.args.proposal.now (sym c.open_both.ensures.0 ∙ c.in_ok-counts.was) (sym w) (replicate 2092 (pos 0)) c.open_both.ensures.1 (sym v) (replicate 280 (pos 0)) c.open_both.ensures.2).proposed }

pub returns-in_err-counts : goal.returns-in_err-counts
returns-in_err-counts c = let e : c.from_residual.result ≡ Err c.in_err-counts.field-0.0 = search rules in
    let H = packs_unread c.args.job.now c.args.proposal.now (sym c.open_both.ensures.0 ∙ c.in_err-counts.was) c.args.out.now in (e ∙ H.0, H.1)

pub returns : goal.returns
returns c = let w = lent_length 2092 (read_job c.args.job.now).words c.open_both.new.words c.open_both.ensures.1 in let v = lent_length 280 (proposal_words c.args.job.now c.args.proposal.now) c.open_both.new.values c.open_both.ensures.2 in
    packs_listed c.args.job.now c.args.proposal.now (sym c.open_both.ensures.0 ∙ c.in_ok-counts.was) (sym w) (replicate 2092 (pos 0)) c.open_both.ensures.1 (sym v) (replicate 280 (pos 0)) c.open_both.ensures.2 c.args.out.now c.list_table.ensures
