-- What is promised of the shelf: short statements about `after` and `said`, which the contracts of `keep`, `fetch`, `forget` and `clear` cite. A call
-- carries the packs and numbers that are sent and the room that is lent; none of them is assumed to be sound. The proof of each stands in
-- proofs/ShelfPromises.antt.
use Rattle.std.specs.Prelude.{ℕ, ◌*◌, ◌≤◌, ◌≡◌, true, false, List, [], length, replicate}
use Rattle.std.proofs.Math.Option.{some}
use Rattle.std.specs.Prelude.{if◌then◌else◌}
use Rattle.jobs.specs.Packs.{job_in, read_job}
use Rattle.measure.specs.Check.{check_of}
use Rattle.checked.specs.Answers.{Reply, refusal, accepted}
use Rattle.checked.specs.Checked.{checked_of}
use Rattle.shelf.specs.Fetched.{handed, same_counts}
use Rattle.slots.specs.Slots.{slot_words}
use Rattle.std.specs.Prelude.{Err}
use Rattle.refusals.specs.declared.Refusal.TheVariants.{CountsNotAllowed}
use Rattle.counts.specs.Counts.{passed, shelf_words, count_in, test_row, row_in, rest_of, Ready}
use Rattle.shelf.specs.Shelf.{span_in}
use Rattle.shelf.specs.Calls.{Own, Call, fetch, own, clear, after, said, shelf_run, names}
use Rattle.claims.specs.Read.{Reads}
use Rattle.claims.specs.Lists.{Table, table_from, table_for, holds, emptied, lists_run}
use Rattle.claims.specs.Heard.{heard, without, sent, only_own}
use Rattle.claims.specs.CountsPromises.{fours}
use Rattle.claims.specs.LastKept.{ClearedWith, last_kept, shelf_after, held, given}
use Rattle.claims.specs.Fetched.{IsAccepted}

-- ---- eight lists

-- From a shelf cleared with counts that are allowed, any sequence of calls, further clearings included, answers as eight separate lists would, each of
-- at most as many tables as its society's count: number, place, F, G and the values handed out.
abbrev pub EightLists : Type 0
EightLists = (counts shelf : List ℕ) → ClearedWith counts shelf → (calls : List Call) → shelf_run shelf calls ≡ lists_run (emptied counts) calls

-- ---- no neighbour

-- In any sequence of calls, from any words, taking out every call that names another society changes no answer to this society's calls.
abbrev pub NoNeighbour : Type 0
NoNeighbour = (society : ℕ) (calls : List Call) (shelf : List ℕ) → heard society shelf calls ≡ heard society shelf (without society calls)

-- On any words of a shelf that is ready: its own span, wherever it starts, and its own count decide what a society's call is told and what its span then is.
abbrev pub OwnSpanDecides : Type 0
OwnSpanDecides =
    (society : ℕ) → society ≤ 7 → (call : Own) → names society (own call) ≡ true
    → (xs ys : List ℕ) → Ready xs → Ready ys → count_in (row_in xs) society ≡ count_in (row_in ys) society → span_in society xs ≡ span_in society ys
    → (said xs (own call) ≡ said ys (own call)) × (span_in society (after xs (own call)) ≡ span_in society (after ys (own call)))

-- "its answers depend only on its own calls since the last clearing and that count": after two clearings with one count for the society, two sequences
-- with the same calls of its own are told the same.
abbrev pub OwnCallsDecide : Type 0
OwnCallsDecide =
    (society : ℕ) → society ≤ 7 → (counts others xs ys : List ℕ) → ClearedWith counts xs → ClearedWith others ys
    → count_in (row_in counts) society ≡ count_in (row_in others) society
    → (calls more : List Own) → only_own society calls ≡ only_own society more → heard society xs (sent calls) ≡ heard society ys (sent more)

-- On any words: a society's call leaves every other society's span as it was, and the leading row.
abbrev pub OtherSpansStay : Type 0
OtherSpansStay =
    (society : ℕ) (call : Own) → names society (own call) ≡ true → (shelf : List ℕ)
    → (other : ℕ) → other ≤ 7 → (other ≡ society → ⊥) → span_in other (after shelf (own call)) ≡ span_in other shelf

abbrev pub RowStays : Type 0
RowStays = (call : Own) (shelf : List ℕ) → row_in (after shelf (own call)) ≡ row_in shelf

-- A clearing with counts that are allowed sets them, and every society's span becomes zeros; from any words.
abbrev pub ClearingSets : Type 0
ClearingSets =
    (counts shelf : List ℕ) → ClearedWith counts shelf
    → (row_in shelf ≡ row_in counts) × ((society : ℕ) → society ≤ 7 → span_in society shelf ≡ replicate (slot_words * count_in (row_in counts) society) 0)

-- "the rest of it is never touched, even by clearing": the words behind the last span of a row, after a society's call and after a clearing.
abbrev pub RestStays : Type 0
RestStays = (shelf : List ℕ) → Ready shelf → (call : Own) → rest_of (row_in shelf) (after shelf (own call)) ≡ rest_of (row_in shelf) shelf

abbrev pub RestStaysCleared : Type 0
RestStaysCleared =
    (shelf counts : List ℕ) → length shelf ≡ shelf_words → test_row (row_in counts) ≡ passed → rest_of (row_in counts) (after shelf (clear counts)) ≡ rest_of (row_in counts) shelf

-- A row that is not allowed is refused with 22 at its place, and nothing is touched; so are counts that are not allowed at clearing.
abbrev pub WrongRowRefused : Type 0
WrongRowRefused =
    (shelf : List ℕ) → length shelf ≡ shelf_words → (place : ℕ)
    → (test_row (row_in shelf) ≡ Err (CountsNotAllowed place) → (call : Own) → (said shelf (own call) ≡ refusal 22 place) × (after shelf (own call) ≡ shelf))
    × ((counts : List ℕ) → test_row (row_in counts) ≡ Err (CountsNotAllowed place) → (said shelf (clear counts) ≡ refusal 22 place) × (after shelf (clear counts) ≡ shelf))

-- ---- what a fetch gives

-- A fetch with a job pack that reads gives the table last kept for that society and number, if it is among those that the rule still holds: checked
-- against the job presented.
abbrev pub LastKeptFetched : Type 0
LastKeptFetched =
    (counts shelf : List ℕ) → ClearedWith counts shelf → (calls : List Call) (job : List ℕ) (room : ℕ) → Reads (read_job job).outcome
    → (t : Table) → last_kept (job_in job).society (job_in job).number calls ≡ some t → holds (job_in job).number (held counts calls (job_in job).society) ≡ true
    → said (shelf_after shelf calls) (own (fetch job room)) ≡ table_for (job_in job) room t

-- The table last kept under the society and the number of the job presented came of these two packs, and it is among those that the rule still holds.
pub record KeptUnder (counts : List ℕ) (calls : List Call) (job old proposal : List ℕ) : Type 0 where
  pub yes : accepted (check_of old proposal) ≡ true
  pub last : last_kept (job_in job).society (job_in job).number calls ≡ some (table_from (checked_of old proposal))
  pub still : holds (job_in job).number (held counts calls (job_in job).society) ≡ true

-- "a fetch checks both against the job presented, answering as the check would": whatever job pack of that society and number is presented, corrected
-- or not, the answer is what the check says of the kept proposal and the job presented; "12 also when the kept cell or link count differs".
abbrev pub FetchedAsChecked : Type 0
FetchedAsChecked =
    (counts shelf : List ℕ) → ClearedWith counts shelf → (calls : List Call) (job old proposal : List ℕ) (room : ℕ) → Reads (read_job job).outcome
    → KeptUnder counts calls job old proposal → said (shelf_after shelf calls) (own (fetch job room))
    ≡ (if same_counts (job_in job) (job_in old).cells (job_in old).links then handed room (checked_of old proposal).values (check_of job proposal) else refusal 12 0)

-- So the very job pack under which a table was kept fetches it, with that F and G, where there is room.
abbrev pub SameJobFetched : Type 0
SameJobFetched =
    (counts shelf : List ℕ) → ClearedWith counts shelf → (calls : List Call) (job proposal : List ℕ) (room : ℕ) → KeptUnder counts calls job job proposal
    → (job_in job).cells ≤ room → said (shelf_after shelf calls) (own (fetch job room)) ≡ given (table_from (checked_of job proposal))

-- 6 is for words that no keep has written: after a clearing no fetch gives it.
abbrev pub NeverSix : Type 0
NeverSix =
    (counts shelf : List ℕ) → ClearedWith counts shelf → (calls : List Call) (job : List ℕ) (room : ℕ)
    → (said (shelf_after shelf calls) (own (fetch job room))).answer.number ≡ 6 → ⊥

-- What the rule holds no more, dropped, forgotten or cleared, is refused with 12.
abbrev pub LostRefused : Type 0
LostRefused =
    (counts shelf : List ℕ) → ClearedWith counts shelf → (calls : List Call) (job : List ℕ) (room : ℕ) → Reads (read_job job).outcome
    → holds (job_in job).number (held counts calls (job_in job).society) ≡ false → said (shelf_after shelf calls) (own (fetch job room)) ≡ refusal 12 0

-- The rule holds at most as many as the society's count.
abbrev pub FewHeld : Type 0
FewHeld =
    (counts shelf : List ℕ) → ClearedWith counts shelf → (calls : List Call) (society : ℕ) → society ≤ 7
    → length (held counts calls society) ≤ count_in (row_in (shelf_after shelf calls)) society

-- "at most four" is an instance: from a shelf that was cleared with four for each society, whatever the societies then send.
abbrev pub FourHeld : Type 0
FourHeld = (shelf : List ℕ) → ClearedWith fours shelf → (calls : List Own) (society : ℕ) → society ≤ 7 → length (held fours (sent calls) society) ≤ 4

-- A fetched table is accepted for the job presented: its F and G carry demand 3 for this job.
abbrev pub FetchedAccepted : Type 0
FetchedAccepted =
    (counts shelf : List ℕ) → ClearedWith counts shelf → (calls : List Call) (job : List ℕ) (room : ℕ)
    → (said (shelf_after shelf calls) (own (fetch job room))).answer.number ≡ 0
    → IsAccepted calls job (said (shelf_after shelf calls) (own (fetch job room)))

-- ---- refusals

-- The reply is a refusal, and it gives nothing away.
abbrev pub Refused : Reply → Type 0
Refused r = r.answer.number ≡ 0 → ⊥

abbrev pub GivesNothing : Reply → Type 0
GivesNothing r = (r.values ≡ []) × (r.answer.loss ≡ 0) × (r.answer.gap ≡ 0)

-- A call whose number is not 0 leaves every word of the shelf as it was, hands out no value, and its F and G are 0; from any words.
abbrev pub RefusedStays : Type 0
RefusedStays = (shelf : List ℕ) (call : Call) → Refused (said shelf call) → (after shelf call ≡ shelf) × GivesNothing (said shelf call)
