-- The table last kept for a society under a job number, by the calls alone; and what stands after a sequence of calls.
use Rattle.std.specs.Prelude.{ℕ, ◌≡◌, Bool, cond, ◌&&◌, List, [], ◌∷◌, eqb, length}
use Rattle.std.proofs.Math.Option.{Option, none, some}
use Rattle.checked.specs.Answers.{Reply, accepted}
use Rattle.checked.specs.Checked.{Checked, checked_of}
use Rattle.counts.specs.Counts.{passed, shelf_words, test_row, row_in}
use Rattle.shelf.specs.Calls.{Own, Call, keep, fetch, forget, own, clear, after}
use Rattle.claims.specs.Lists.{Table, table_from, Kept, emptied, kept_after}

-- the check accepted a table for that society under that job number
abbrev pub is_for : (society job : ℕ) → Checked → Bool
is_for society job o = accepted o.verdict && (eqb society o.society && eqb o.job job)

-- the last such table after a call, where it was `last` before
abbrev pub last_by : (society job : ℕ) → (last : Option Table) → Own → Option Table
last_by society job last (keep j p) = cond (is_for society job (checked_of j p)) (some (table_from (checked_of j p))) last
last_by society job last (fetch j room) = last
last_by society job last (forget s j) = last

abbrev pub last_after : (society job : ℕ) → (last : Option Table) → Call → Option Table
last_after society job last (own call) = last_by society job last call
last_after society job last (clear counts) = last

abbrev pub last_from : (society job : ℕ) → (last : Option Table) → List Call → Option Table
last_from society job last [] = last
last_from society job last (call ∷ calls) = last_from society job (last_after society job last call) calls

abbrev pub last_kept : (society job : ℕ) → List Call → Option Table
last_kept society job calls = last_from society job none calls

-- a shelf that was just cleared with counts that are allowed, whatever it held before
pub record ClearedWith (counts shelf : List ℕ) : Type 0 where
  pub before : List ℕ
  pub long : length before ≡ shelf_words
  pub allowed : test_row (row_in counts) ≡ passed
  pub is : shelf ≡ after before (clear counts)

-- the shelf, and the eight lists, after a sequence of calls
abbrev pub shelf_after : (shelf : List ℕ) → List Call → List ℕ
shelf_after shelf [] = shelf
shelf_after shelf (call ∷ calls) = shelf_after (after shelf call) calls

abbrev pub all_after : Kept → List Call → Kept
all_after k [] = k
all_after k (call ∷ calls) = all_after (kept_after k call) calls

-- the tables that the rule still holds for a society: at most as many as its count, none forgotten or cleared since
abbrev pub held : (counts : List ℕ) → List Call → (society : ℕ) → List Table
held counts calls society = (all_after (emptied counts) calls).lists society

-- done, with the table's count of values, F, G and the values
abbrev pub given : Table → Reply
given t = record { answer = record { number = 0; place = length t.values; loss = t.loss; gap = t.gap }; values = t.values }
