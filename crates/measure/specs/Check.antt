-- Document 01, "Order": the check of a proposal, from two packs to its verdict: the job pack's refusals, then 6, 7 (lowest cell), 8 (lowest link), 9.
use Rattle.std.specs.Prelude.{ℕ, zero, suc, ◌+◌, Bool, ◌&&◌, List, ltb, ℤ}
use Rattle.std.specs.Int.Signed.{le_z}
use Rattle.std.specs.Prelude.{if◌then◌else◌}
use Rattle.jobs.specs.Job.{Job}
use Rattle.jobs.specs.Words.{word_at, job_of}
use Rattle.jobs.specs.Packs.{read_job, read_proposal}
use Rattle.measure.specs.Loss.{loss_of}
use Rattle.measure.specs.Gap.{link_sum, gap_of}
use Rattle.measure.specs.Largest.{largest_place}
use Rattle.std.specs.Prelude.{Result, Ok, Err}
use Rattle.refusals.specs.declared.Refusal.TheVariants.{OutsideBox, BrokenLink, GapAbove}
use Rattle.packs.specs.Reading.{Outcome}
use Rattle.refusals.specs.declared.Refusal.{Refusal}
use Rattle.measure.specs.declared.check.Figures.{Figures}

-- The lowest of the k numbers from i on at which a test fails, or the number after them.
unfoldable pub lowest_from : (passes : ℕ → Bool) → (i k : ℕ) → ℕ
lowest_from passes i zero = i
lowest_from passes i (suc k) = if passes i then lowest_from passes (suc i) k else i

abbrev pub lowest_failing : (passes : ℕ → Bool) → (n : ℕ) → ℕ
lowest_failing passes n = lowest_from passes 0 n

-- "7: value outside its box"
abbrev pub in_box : Job → (v : ℕ → ℤ) → (i : ℕ) → Bool
in_box j v i = le_z (j.floor i) (v i) && le_z (v i) (j.ceiling i)

-- "8: link broken"
abbrev pub holds : Job → (v : ℕ → ℤ) → (l : ℕ) → Bool
holds j v l = le_z (link_sum j l v) (j.bound l)

-- A table is accepted with its loss and gap, or refused.
abbrev pub Verdict : Type 0
Verdict = Result Figures Refusal

abbrev pub accepting : (loss gap : ℤ) → Verdict
accepting loss gap = Ok (record { loss = loss; gap = gap })

-- "9: G above T"; document 02, W-202: its place is that of the largest term of the gap
abbrev pub judged_of : Job → (v y : ℕ → ℤ) → Verdict
judged_of j v y = if le_z (gap_of j v y) j.tolerance then accepting (loss_of j v) (gap_of j v y) else Err (GapAbove (largest_place j v y))

-- The verdict on a table v with multipliers y.
unfoldable pub verdict_of : Job → (v y : ℕ → ℤ) → Verdict
verdict_of j v y =
    if ltb (lowest_failing (in_box j v) j.cells) j.cells then Err (OutsideBox (lowest_failing (in_box j v) j.cells)) else
    if ltb (lowest_failing (holds j v) j.links) j.links then Err (BrokenLink (lowest_failing (holds j v) j.links)) else
    judged_of j v y

-- The values and the multipliers of a proposal's words.
abbrev pub values_of : List ℤ → ℕ → ℤ
values_of ps i = word_at ps i

abbrev pub multipliers_of : (cells : ℕ) → List ℤ → ℕ → ℤ
multipliers_of cells ps l = word_at ps (cells + l)

-- A pack's refusal is the check's.
abbrev pub on_read : Outcome → Verdict → Verdict
on_read (Ok k) verdict = verdict
on_read (Err r) verdict = Err r

-- The verdict on a proposal's words, and on a proposal pack.
abbrev pub verdict_for : Job → (ps : List ℤ) → Verdict
verdict_for j ps = verdict_of j (values_of ps) (multipliers_of j.cells ps)

abbrev pub proposal_verdict : Job → (proposal : List ℕ) → Verdict
proposal_verdict j proposal = on_read (read_proposal j.cells j.links proposal).outcome (verdict_for j (read_proposal j.cells j.links proposal).words)

-- The check of a proposal pack against a job pack.
abbrev pub check_of : (job proposal : List ℕ) → Verdict
check_of job proposal = on_read (read_job job).outcome (proposal_verdict (job_of (read_job job).words) proposal)
