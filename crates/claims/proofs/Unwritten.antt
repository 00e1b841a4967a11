-- A refusal writes nothing, and its F and G are 0: for how reading, writing and proposing end, and for the check.
use Rattle.std.specs.Prelude.{Ok, Err}
use Prim.Native.Nat.{ℕ}
use mathlib.Core.Path.{◌≡◌, refl, ap}
use mathlib.Core.Bool.{Bool, true, false}
use mathlib.Core.List.{List, []}
use lib.Dec.{ltb}
use lib.IntN.{ℤ}
use lib.Ieee.{Float}
use lib.Seq.{sets}
use Rattle.std.specs.Prelude.{if◌then◌else◌}
use Rattle.packs.specs.Reading.{Outcome, Ran}
use Rattle.packs.specs.Writing.{Written, refused, in_room, roomed}
use Rattle.jobs.specs.Job.{Job}
use Rattle.jobs.specs.Words.{job_of}
use Rattle.jobs.specs.Packs.{handed_out, read_job, read_job_into, write_proposal}
use Rattle.factor.specs.Factor.{Ending}
use Rattle.house.specs.Proposal.{words_of, on_ending, solved_of, proposed_of, on_job_read, propose_of}
use Rattle.checked.specs.declared.Answer.{Answer}
use Rattle.checked.specs.Answers.{overwritten, answer_of}
use Rattle.shelf.specs.Calls.{Call, after, said}
use Rattle.bench.specs.Calls.{outcome_of}
use Rattle.claims.proofs.Refusals.{refused_of}
use Rattle.refusals.specs.declared.Refusal.TheVariants.{NoRoom}
use Rattle.measure.specs.Check.{accepting}
use Rattle.measure.specs.Check.{Verdict}
use Rattle.refusals.specs.declared.Refusal.TheVariants.{NoRoom, NotProposed}

-- an answer that is a refusal has no F and no G, and leaves a slice as it was
abbrev pub Kept : {A : Type 0} → Answer → (before after : List A) → Type 0
Kept a before after = (a.number ≡ 0 → ⊥) → (after ≡ before) × (a.loss ≡ 0) × (a.gap ≡ 0)

pub verdict_kept : {A : Type 0} (v : Verdict) (before : List A) → Kept (answer_of v) before before
verdict_kept (Ok f) before n = absurd (n refl)
verdict_kept (Err r) before n = (refl, refl, refl)

-- an outcome that is a refusal comes with nothing to write
abbrev Nothing : {A : Type 0} → Outcome → List A → Type 0
Nothing o made = ((outcome_of o).number ≡ 0 → ⊥) → made ≡ []

room_nothing : (room : ℕ) (bytes : List ℕ) (o : Outcome) → Nothing (in_room room bytes o).outcome (in_room room bytes o).bytes
room_nothing room bytes (Err r) n = refl
room_nothing room bytes (Ok k) n = go (ltb room k) n
  where
    go : (t : Bool) → Nothing (if t then refused (NoRoom k) else record { bytes = bytes; outcome = Ok k }).outcome (if t then refused (NoRoom k) else record { bytes = bytes; outcome = Ok k }).bytes
    go true m = refl
    go false m = absurd (m refl)

-- the words handed out, or 13 where there is no room for k
abbrev pub handed : (k : ℕ) (words : List ℤ) → Bool → Ran
handed k words t = if t then record { words = []; outcome = Err (NoRoom k) } else record { words = words; outcome = Ok k }

handed_nothing : (room : ℕ) (words : List ℤ) (o : Outcome) → Nothing (handed_out room words o).outcome (handed_out room words o).words
handed_nothing room words (Err r) n = refl
handed_nothing room words (Ok k) n = go (ltb room k) n
  where
    go : (t : Bool) → Nothing (handed k words t).outcome (handed k words t).words
    go true m = refl
    go false m = absurd (m refl)

ending_nothing : (room : ℕ) (j : Job) (v : List Float) (e : Ending) → Nothing (on_ending room j v e).outcome (on_ending room j v e).bytes
ending_nothing room j v (Ok whole) n =
    let w = write_proposal j.cells j.links (words_of j v) in
    room_nothing room w.bytes w.outcome n
ending_nothing room j v (Err thin) n = refl

proposed_nothing : (room : ℕ) (j : Job) → Nothing (proposed_of room j).outcome (proposed_of room j).bytes
unfolding proposed_of
proposed_nothing room j = go (ltb 12 j.columns)
  where
    go : (b : Bool) → Nothing (if b then refused NotProposed else on_ending room j (solved_of j).values (solved_of j).ending).outcome (if b then refused NotProposed else on_ending room j (solved_of j).values (solved_of j).ending).bytes
    go true n = refl
    go false n = ending_nothing room j (solved_of j).values (solved_of j).ending n

on_read_nothing : (room : ℕ) (words : List ℤ) (o : Outcome) → Nothing (on_job_read room words o).outcome (on_job_read room words o).bytes
on_read_nothing room words (Ok k) n = proposed_nothing room (job_of words) n
on_read_nothing room words (Err r) n = refl

-- and so leaves what was lent
left_kept : {A : Type 0} (o : Outcome) (made before : List A) → Nothing o made → Kept (outcome_of o) before (sets before 0 made)
left_kept o made before k n = (ap (sets before 0) (k n), (plain o).0, (plain o).1)
  where
    plain : (o : Outcome) → ((outcome_of o).loss ≡ 0) × ((outcome_of o).gap ≡ 0)
    plain (Ok n) = (refl, refl)
    plain (Err r) = (refl, refl)

pub write_kept : (room : ℕ) (w : Written) (before : List ℕ) → Kept (outcome_of (roomed room w).outcome) before (sets before 0 (roomed room w).bytes)
write_kept room w before = left_kept (roomed room w).outcome (roomed room w).bytes before (room_nothing room w.bytes w.outcome)

pub read_kept : (room : ℕ) (job : List ℕ) (before : List ℤ) → Kept (outcome_of (read_job_into room job).outcome) before (sets before 0 (read_job_into room job).words)
read_kept room job before =
    left_kept (read_job_into room job).outcome (read_job_into room job).words before (handed_nothing room (read_job job).words (read_job job).outcome)

pub propose_kept : (room : ℕ) (job : List ℕ) (before : List ℕ) → Kept (outcome_of (propose_of room job).outcome) before (sets before 0 (propose_of room job).bytes)
propose_kept room job before =
    left_kept (propose_of room job).outcome (propose_of room job).bytes before (on_read_nothing room (read_job job).words (read_job job).outcome)

-- ---- the shelf's calls

pub shelf_kept : (call : Call) (shelf : List ℕ) → Kept (said shelf call).answer shelf (after shelf call)
shelf_kept call shelf n = let k = refused_of shelf call n in (k.0, k.1.1, k.1.2)

pub fetch_kept : (call : Call) (shelf out : List ℕ) → Kept (said shelf call).answer out (overwritten out (said shelf call).values)
fetch_kept call shelf out n =
    let k = refused_of shelf call n in
    (ap (overwritten out) k.1.0, k.1.1, k.1.2)
