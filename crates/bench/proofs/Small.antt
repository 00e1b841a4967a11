-- No answer's number and place are too large for the one number that tells both: the number is 31 at most, and the place 20,920.
use Rattle.std.proofs.Common.{◌≡◌, ℕ, ◌+◌, ◌%◌, ◌^◌, ◌≤◌, Bool, true, false, ltb, List, ℤ, refl, arith, ltb-true}
use lib.Signed.{le_z}
use Rattle.std.specs.Prelude.{if◌then◌else◌}
use Rattle.fields.specs.Table.{values_from}
use Rattle.packs.specs.Reading.{Outcome, read_from}
use Rattle.packs.proofs.Near.{Near}
use Rattle.jobs.specs.Job.{Job}
use Rattle.jobs.specs.Words.{job_of}
use Rattle.jobs.specs.Allowed.{Allowed}
use Rattle.jobs.specs.Packs.{as_six, read_job, read_proposal}
use Rattle.jobs.proofs.Readings.{read_jobs_allowed}
use Rattle.jobs.proofs.Near.{job_read_near, proposal_read_near}
use Rattle.tally.proofs.Largest.{largest_few}
use Rattle.measure.specs.Loss.{loss_of}
use Rattle.measure.specs.Gap.{gap_of}
use Rattle.measure.specs.Largest.{term_at, largest_place}
use Rattle.measure.specs.Check.{Verdict, accepting, lowest_failing, in_box, holds, judged_of, verdict_of, values_of, multipliers_of, on_read, proposal_verdict, check_of}
use Rattle.checked.specs.declared.Answer.{Answer}
use Rattle.checked.specs.Answers.{refused, answer_of}
use Rattle.bench.specs.Answers.{code_of}
use Rattle.std.specs.Prelude.{Ok, Err}
use Rattle.refusals.specs.declared.Refusal.{Refusal}
use Rattle.refusals.specs.Refusals.{number_of, place_of}
use Rattle.refusals.specs.declared.Refusal.TheVariants.{OutsideBox, BrokenLink, GapAbove}
use Rattle.refusals.proofs.Most.{number_most}

pub record Small (a : Answer) : Type 0 where
  pub number : a.number ≤ 31
  pub place : a.place ≤ 20920

-- No number of a refusal is above 22, so only its place is in question.
pub refused_small : (r : Refusal) → place_of r ≤ 20920 → Small (refused r).answer
refused_small r h = record { number = omega (arith, number_most r); place = h }

pub code_told : {a : Answer} → Small a → code_of a % 2 ^ 64 ≡ code_of a
code_told s = omega (arith, s.number, s.place)

-- ---- the check

judged_small : (j : Job) → Allowed j → (v y : ℕ → ℤ) → Small (answer_of (judged_of j v y))
judged_small j A v y = go (le_z (gap_of j v y) j.tolerance)
  where
    go : (t : Bool) → Small (answer_of (if t then accepting (loss_of j v) (gap_of j v y) else Err (GapAbove (largest_place j v y))))
    go true = record { number = omega arith; place = omega arith }
    go false = record { number = omega arith; place = omega (arith, largest_few (term_at j v y) (j.cells + j.links), A.cells_few, A.links_few) }

-- a refusal whose place is among n, or what comes after it
among_small : (r : Refusal) (n : ℕ) (later : Verdict) → n ≤ 160 → Small (answer_of later) → Small (answer_of (if ltb (place_of r) n then Err r else later))
among_small r n later m l = go (ltb (place_of r) n) refl
  where
    go : (t : Bool) → ltb (place_of r) n ≡ t → Small (answer_of (if t then Err r else later))
    go true e = refused_small r (omega (arith, ltb-true (place_of r) n e))
    go false e = l

pub verdict_small : (j : Job) → Allowed j → (v y : ℕ → ℤ) → Small (answer_of (verdict_of j v y))
unfolding verdict_of
verdict_small j A v y =
    among_small (OutsideBox (lowest_failing (in_box j v) j.cells)) j.cells
    (if ltb (lowest_failing (holds j v) j.links) j.links then Err (BrokenLink (lowest_failing (holds j v) j.links)) else judged_of j v y)
    (omega (arith, A.cells_few))
    (among_small (BrokenLink (lowest_failing (holds j v) j.links)) j.links (judged_of j v y) A.links_few (judged_small j A v y))

six_small : (o : Outcome) (later : Verdict) → Near 2800 o → Small (answer_of later) → Small (answer_of (on_read (as_six o) later))
six_small (Ok k) later h l = l
six_small (Err r) later h l = record { number = omega arith; place = omega (arith, h.2) }

proposal_small : (j : Job) → Allowed j → (proposal : List ℕ) → Small (answer_of (proposal_verdict j proposal))
proposal_small j A proposal =
    let words = (read_proposal j.cells j.links proposal).words in
    let v = values_of words in
    let y = multipliers_of j.cells words in
    six_small (read_from (values_from j.cells j.links) proposal).outcome (verdict_of j v y)
    (proposal_read_near j.cells j.links A.cells_few A.links_few proposal) (verdict_small j A v y)

pub check_small : (job proposal : List ℕ) → Small (answer_of (check_of job proposal))
check_small job proposal = go (read_job job).outcome refl (job_read_near job)
  where
    go : (o : Outcome) → (read_job job).outcome ≡ o → Near 20920 o → Small (answer_of (on_read o (proposal_verdict (job_of (read_job job).words) proposal)))
    go (Ok k) e h = proposal_small (job_of (read_job job).words) (read_jobs_allowed job k e) proposal
    go (Err r) e h = record { number = omega (arith, h.1); place = h.2 }
