-- The calls on a shelf, with the packs and numbers that are sent and the room that is lent; what each does to the shelf and says, on any words;
-- and sequences of them. The contracts of `keep`, `fetch`, `forget` and `clear` cite `after` and `said`.
use Rattle.std.specs.Prelude.{ℕ, Bool, false, not, List, [], ◌∷◌, eqb, ℤ, nat_abs}
use Rattle.std.proofs.Math.Option.{Option, none, some}
use Rattle.jobs.specs.Packs.{read_job}
use Rattle.checked.specs.Answers.{Reply, refusal, done}
use Rattle.checked.specs.Checked.{checked_of}
use Rattle.counts.specs.Counts.{test_shelf, on_tested, row_in, cleared}
use Rattle.shelf.specs.Shelf.{Layout, layout_in, kept_shelf, keep_reply, fetch_reply, forgot_shelf, forgot_reply}

-- a society's own call, and a call: "clearing is the house's own call and belongs to no society"
pub data Own : Type 0 where
  keep : (job proposal : List ℕ) → Own
  fetch : (job : List ℕ) (room : ℕ) → Own
  forget : (society job : ℕ) → Own

pub data Call : Type 0 where
  own : Own → Call
  clear : (counts : List ℕ) → Call

-- ---- a society's call on a shelf that passes its test, by its layout
abbrev pub laid_after : Layout → (shelf : List ℕ) → Own → List ℕ
laid_after l shelf (keep job proposal) = kept_shelf l (checked_of job proposal) shelf
laid_after l shelf (fetch job room) = shelf
laid_after l shelf (forget society job) = forgot_shelf l society job shelf

abbrev pub laid_said : Layout → (shelf : List ℕ) → Own → Reply
laid_said l shelf (keep job proposal) = keep_reply (checked_of job proposal)
laid_said l shelf (fetch job room) = fetch_reply l job room shelf
laid_said l shelf (forget society job) = forgot_reply l society job shelf

-- ---- a call on any words: the shelf after it, and what it says
-- A society's call tests the shelf's own row, a clearing the counts that it is handed; a refusal changes nothing.
abbrev pub after : (shelf : List ℕ) → Call → List ℕ
after shelf (own call) = on_tested (test_shelf (row_in shelf) shelf) (laid_after (layout_in shelf) shelf call) (λ number place. shelf)
after shelf (clear counts) = on_tested (test_shelf (row_in counts) shelf) (cleared (row_in counts) shelf) (λ number place. shelf)

abbrev pub said : (shelf : List ℕ) → Call → Reply
said shelf (own call) = on_tested (test_shelf (row_in shelf) shelf) (laid_said (layout_in shelf) shelf call) refusal
said shelf (clear counts) = on_tested (test_shelf (row_in counts) shelf) done refusal

-- what each call of a sequence says
abbrev pub shelf_run : (shelf : List ℕ) → List Call → List Reply
shelf_run shelf [] = []
shelf_run shelf (call ∷ calls) = said shelf call ∷ shelf_run (after shelf call) calls

-- ---- "A call's own society is the one that its pack or its number names"
-- A pack names the society that it starts with, where that is read; clearing "belongs to no society".
abbrev pub first_of : List ℤ → Option ℕ
first_of [] = none
first_of (word ∷ words) = some (nat_abs word)

abbrev pub named_by : Own → Option ℕ
named_by (keep job proposal) = first_of (read_job job).words
named_by (fetch job room) = first_of (read_job job).words
named_by (forget society job) = some society

abbrev pub named : Call → Option ℕ
named (own call) = named_by call
named (clear counts) = none

abbrev pub is : (society : ℕ) → Option ℕ → Bool
is society none = false
is society (some other) = eqb other society

abbrev pub is_not : (society : ℕ) → Option ℕ → Bool
is_not society none = false
is_not society (some other) = not (eqb other society)

abbrev pub names : (society : ℕ) → Call → Bool
names society call = is society (named call)

abbrev pub names_other : (society : ℕ) → Call → Bool
names_other society call = is_not society (named call)
