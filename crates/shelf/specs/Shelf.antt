-- The whole shelf (document 01, "The shelf", with W-203's slots and W-209's row): eight spans, and each call on the span of its own society.
use Rattle.std.specs.Prelude.{ℕ, ◌*◌, cond, List, [], ◌++◌, leb, take, drop}
use Rattle.jobs.specs.Job.{Job}
use Rattle.jobs.specs.Words.{job_of}
use Rattle.jobs.specs.Packs.{read_job}
use Rattle.counts.specs.Counts.{shelf_words, count_in, row_in, start_in}
use Rattle.slots.specs.Slots.{slot_words, slot_of, has_job, lowest, at_slot, kept_in, forgot_in}
use Rattle.checked.specs.Answers.{Reply, refusal, done, accepted, answer_of}
use Rattle.checked.specs.Checked.{Checked}
use Rattle.shelf.specs.Fetched.{fetch_in, on_job}

-- ---- the layout of a shelf
pub record Layout : Type 0 where
  -- the words of a slot
  pub words : ℕ
  -- a society's slots, and where its span starts
  pub count : ℕ → ℕ
  pub start : ℕ → ℕ
  -- the words of the shelf
  pub total : ℕ

abbrev pub size_of : Layout → (society : ℕ) → ℕ
size_of l society = l.words * l.count society

-- a shelf with that row of counts (W-209): "places follow in society order"
abbrev pub rowed : (row : List ℕ) → Layout
rowed row = record { words = slot_words; count = count_in row; start = start_in row; total = shelf_words }

-- by its own row
abbrev pub layout_in : List ℕ → Layout
layout_in shelf = rowed (row_in shelf)

-- ---- parts
-- f done to the k words from a on, the others as they were
abbrev pub on_part : (a k : ℕ) → (f : List ℕ → List ℕ) → List ℕ → List ℕ
on_part a k f xs = take a xs ++ (f (take k (drop a xs)) ++ drop k (drop a xs))

-- a society's words, by a layout and by the shelf's own
abbrev pub span_of : Layout → (society : ℕ) → List ℕ → List ℕ
span_of l society shelf = take (size_of l society) (drop (l.start society) shelf)

abbrev pub span_in : (society : ℕ) → List ℕ → List ℕ
span_in society shelf = span_of (layout_in shelf) society shelf

-- f done to the society's words; no society is above 7
unfoldable pub on_society : Layout → (society : ℕ) → (f : List ℕ → List ℕ) → List ℕ → List ℕ
on_society l society f shelf = cond (leb society 7) (on_part (l.start society) (size_of l society) f shelf) shelf

-- what f says of the society's words; "11: … forget: society above 7"
unfoldable pub from_society : Layout → (society : ℕ) → (f : List ℕ → Reply) → List ℕ → Reply
from_society l society f shelf = cond (leb society 7) (f (span_of l society shelf)) (refusal 11 0)

-- ---- the calls, by the layout of a shelf that passes its test
-- the table of an accepted check as a slot
abbrev pub slot_from : Layout → Checked → List ℕ
slot_from l o = slot_of l.words o.job (answer_of o.verdict).loss (answer_of o.verdict).gap o.values o.multipliers

-- the slot x kept for a society under a job number
abbrev pub kept_on : Layout → (society job : ℕ) → (x : List ℕ) → List ℕ → List ℕ
kept_on l society job x shelf = on_society l society (kept_in l.words (l.count society) job x) shelf

unfoldable pub kept_shelf : Layout → Checked → List ℕ → List ℕ
kept_shelf l o shelf = cond (accepted o.verdict) (kept_on l o.society o.job (slot_from l o) shelf) shelf

unfoldable pub keep_reply : Checked → Reply
keep_reply o = record { answer = answer_of o.verdict; values = [] }

-- "Fetch now takes the whole job pack": a pack that reads names a society up to 7
abbrev pub fetch_from : Layout → Job → (room : ℕ) → List ℕ → Reply
fetch_from l j room shelf = fetch_in l.words (l.count j.society) j room (span_of l j.society shelf)

unfoldable pub fetch_reply : Layout → (job : List ℕ) (room : ℕ) → List ℕ → Reply
fetch_reply l job room shelf = on_job (read_job job).outcome (fetch_from l (job_of (read_job job).words) room shelf)

unfoldable pub forgot_shelf : Layout → (society job : ℕ) → List ℕ → List ℕ
forgot_shelf l society job shelf = on_society l society (forgot_in l.words (l.count society) job) shelf

-- what a forget says of a span
unfoldable pub forget_reply : ℕ → ℕ → ℕ → List ℕ → Reply
forget_reply w c job s = at_slot (lowest (has_job job) w c s) (λ p. done) (refusal 12 0)

unfoldable pub forgot_reply : Layout → (society job : ℕ) → List ℕ → Reply
forgot_reply l society job shelf = from_society l society (forget_reply l.words (l.count society) job) shelf
