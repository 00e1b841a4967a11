-- Document 02, W-202, as read: the terms of the gap handed out, "three words a place, cells first, then links".
use Rattle.std.specs.Prelude.{ℕ, zero, suc, ◌+◌, ◌*◌, List, [], ◌∷◌, ◌++◌, eqb, ltb, ℤ, pos}
use Rattle.std.specs.Prelude.{if◌then◌else◌}
use Rattle.packs.specs.Reading.{Outcome, Ran}
use Rattle.jobs.specs.Job.{Job}
use Rattle.jobs.specs.Words.{job_of}
use Rattle.jobs.specs.Packs.{handed_out, read_job, read_proposal}
use Rattle.tally.specs.declared.term.Supplied.{Supplied}
use Rattle.tally.specs.declared.term.Supplied.TheVariants.{ByBox, ByWeight}
use Rattle.measure.specs.Gap.{residual_of, supplied_of}
use Rattle.measure.specs.Largest.{term_at}
use Rattle.measure.specs.Check.{Verdict, values_of, multipliers_of, check_of}
use Rattle.std.specs.Prelude.{Ok, Err}
use Rattle.refusals.specs.Refusals.{number_of}

-- "side (0 box, 1 weight, 2 link)"
abbrev pub side_of : Supplied → ℤ
side_of (ByBox t) = pos 0
side_of (ByWeight t) = pos 1

abbrev pub side_at : Job → (v y : ℕ → ℤ) → (place : ℕ) → ℤ
side_at j v y place = if ltb place j.cells then side_of (supplied_of j v y place) else pos 2

-- "residual (0 for a link)"
abbrev pub residual_at : Job → (v y : ℕ → ℤ) → (place : ℕ) → ℤ
residual_at j v y place = if ltb place j.cells then residual_of j v y place else pos 0

-- "three words a place": term, residual, side
abbrev pub entry_at : Job → (v y : ℕ → ℤ) → (place : ℕ) → List ℤ
entry_at j v y place = term_at j v y place ∷ residual_at j v y place ∷ side_at j v y place ∷ []

-- The words of the first k places.
unfoldable pub entries : Job → (v y : ℕ → ℤ) → (k : ℕ) → List ℤ
entries j v y zero = []
entries j v y (suc k) = entries j v y k ++ entry_at j v y k

-- "It refuses with … 1 to 8 …; 9 is no refusal there": as the check does. "Done: place the words written".
abbrev pub end_of : (count : ℕ) → Verdict → Outcome
end_of count (Ok figures) = Ok count
end_of count (Err r) = if eqb (number_of r) 9 then Ok count else Err r

-- The list of a proposal's words that the check has judged, for a lender with room for so many: 13 for too little comes last, and a refusal hands out
-- nothing.
abbrev pub list_for : (room : ℕ) → Job → (ps : List ℤ) → Verdict → Ran
list_for room j ps verdict =
    handed_out room (entries j (values_of ps) (multipliers_of j.cells ps) (j.cells + j.links)) (end_of (3 * (j.cells + j.links)) verdict)

-- The terms of a proposal pack against a job pack.
abbrev pub terms_of : (room : ℕ) → (job proposal : List ℕ) → Ran
terms_of room job proposal =
    list_for room (job_of (read_job job).words) (read_proposal (job_of (read_job job).words).cells (job_of (read_job job).words).links proposal).words (check_of job proposal)
