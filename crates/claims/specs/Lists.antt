-- "From a cleared shelf, any sequence of calls answers as eight separate lists of at most four tables would" (document 01, "The shelf"), where W-209 has
-- "that society's own count" for "four": those lists. A table goes where its job is, else to the end; where a list is full its oldest table is dropped.
use Rattle.std.specs.Prelude.{ℕ, Bool, false, cond, ◌||◌, List, [], ◌∷◌, ◌++◌, eqb, leb, ltb, length}
use Rattle.jobs.specs.Job.{Job}
use Rattle.jobs.specs.Words.{job_of}
use Rattle.jobs.specs.Packs.{read_job}
use Rattle.checked.specs.Answers.{Reply, refusal, done, accepted, answer_of}
use Rattle.shelf.specs.Fetched.{fetch_table, on_job}
use Rattle.checked.specs.Checked.{Checked, checked_of}
use Rattle.counts.specs.Counts.{count_in, test_row, on_row, row_in}
use Rattle.shelf.specs.Shelf.{keep_reply}
use Rattle.shelf.specs.Calls.{Own, Call, keep, fetch, forget, own, clear}

pub record Table : Type 0 where
  pub job : ℕ
  pub loss : ℕ
  pub gap : ℕ
  pub values : List ℕ
  pub multipliers : List ℕ

-- the table of an accepted check
abbrev pub table_from : Checked → Table
table_from o = record { job = o.job; loss = (answer_of o.verdict).loss; gap = (answer_of o.verdict).gap; values = o.values; multipliers = o.multipliers }

-- ---- a list of tables, oldest first
abbrev pub is_of : (job : ℕ) → Table → Bool
is_of job t = eqb t.job job

abbrev pub holds : (job : ℕ) → List Table → Bool
holds job [] = false
holds job (t ∷ ts) = is_of job t || holds job ts

-- u where its job is
abbrev pub replaced : Table → List Table → List Table
replaced u [] = []
replaced u (t ∷ ts) = cond (is_of u.job t) (u ∷ ts) (t ∷ replaced u ts)

-- the table of a job taken out
abbrev pub removed : (job : ℕ) → List Table → List Table
removed job [] = []
removed job (t ∷ ts) = cond (is_of job t) ts (t ∷ removed job ts)

-- all but the oldest
abbrev pub youngest : List Table → List Table
youngest [] = []
youngest (t ∷ ts) = ts

-- a table goes where its job is, else to the end; where c are kept the oldest is dropped
abbrev pub kept : (c : ℕ) → Table → List Table → List Table
kept c u ts = cond (holds u.job ts) (replaced u ts) (cond (ltb (length ts) c) ts (youngest ts) ++ (u ∷ []))

-- what a fetch of that table says to the job presented, where the output has so much room: its values and multipliers are checked against that job
abbrev pub table_for : Job → (room : ℕ) → Table → Reply
table_for j room t = fetch_table j room (length t.values) (length t.multipliers) t.values t.multipliers

-- "12: nothing kept under that number"
abbrev pub fetched : Job → (room : ℕ) → List Table → Reply
fetched j room [] = refusal 12 0
fetched j room (t ∷ ts) = cond (is_of j.number t) (table_for j room t) (fetched j room ts)

abbrev pub forgotten : (job : ℕ) → List Table → Reply
forgotten job ts = cond (holds job ts) done (refusal 12 0)

-- ---- eight lists
abbrev pub Lists : Type 0
Lists = ℕ → List Table

-- the society's list becomes f of it
abbrev pub on_list : (society : ℕ) → (f : List Table → List Table) → Lists → Lists
on_list society f lists other = cond (eqb other society) (f (lists other)) (lists other)

-- what f says of the society's list; "11: … forget: society above 7"
abbrev pub from_list : (society : ℕ) → (f : List Table → Reply) → Lists → Reply
from_list society f lists = cond (leb society 7) (f (lists society)) (refusal 11 0)

abbrev pub nothing : Lists
nothing society = []

-- count: how many tables a society's list may hold
abbrev pub kept_lists : (count : ℕ → ℕ) → Checked → Lists → Lists
kept_lists count o lists = cond (accepted o.verdict) (on_list o.society (kept (count o.society) (table_from o)) lists) lists

-- the lists after a society's call, and what they say to it
abbrev pub lists_after : (count : ℕ → ℕ) → Lists → Own → Lists
lists_after count lists (keep job proposal) = kept_lists count (checked_of job proposal) lists
lists_after count lists (fetch job room) = lists
lists_after count lists (forget society job) = on_list society (removed job) lists

abbrev pub lists_say : Lists → Own → Reply
lists_say lists (keep job proposal) = keep_reply (checked_of job proposal)
lists_say lists (fetch job room) = on_job (read_job job).outcome (fetched (job_of (read_job job).words) room (lists (job_of (read_job job).words).society))
lists_say lists (forget society job) = from_list society (forgotten job) lists

-- ---- eight lists, each of at most as many tables as its society's count in a row
pub record Kept : Type 0 where
  pub row : List ℕ
  pub lists : Lists

-- after a clearing with those counts
abbrev pub emptied : (counts : List ℕ) → Kept
emptied counts = record { row = row_in counts; lists = nothing }

-- after a call, and what is said to it; "22 counts not allowed, at clearing"
abbrev pub kept_after : Kept → Call → Kept
kept_after k (own call) = record { row = k.row; lists = lists_after (count_in k.row) k.lists call }
kept_after k (clear counts) = on_row (test_row (row_in counts)) (emptied counts) (λ place. k)

abbrev pub kept_say : Kept → Call → Reply
kept_say k (own call) = lists_say k.lists call
kept_say k (clear counts) = on_row (test_row (row_in counts)) done (λ place. refusal 22 place)

-- what they say to each call of a sequence
abbrev pub lists_run : Kept → List Call → List Reply
lists_run k [] = []
lists_run k (call ∷ calls) = kept_say k call ∷ lists_run (kept_after k call) calls
