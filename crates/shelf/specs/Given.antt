-- What functions inside a call count on, and what they answer.
use Rattle.std.specs.Prelude.{ℕ, ◌≤◌, ◌<◌, ◌≡◌, true, Result, Ok, Err, List, ℤ, length}
use Rattle.jobs.specs.Words.{count_at, cells_of, links_of}
use Rattle.slots.specs.Slots.{slot_of}
use Rattle.refusals.specs.declared.Refusal.{Refusal}
use Rattle.checked.specs.declared.Answer.{Answer}
use Rattle.checked.specs.Answers.{refused}
use Rattle.checked.specs.Checked.{taken_from}
use Rattle.checked.specs.Given.{Wordlike}
use Rattle.shelf.specs.Fetched.{up_to, most_value, most_multiplier}
use Rattle.shelf.specs.Shelf.{Layout, kept_on}

-- What is answered to a call, done or refused.
abbrev pub told : Result Answer Refusal → Answer
told (Ok answer) = answer
told (Err r) = (refused r).answer

-- ---- a keep
-- The numbers of a proposal: n values, and then so many multipliers.
pub record Rated (n links : ℕ) (rates : List ℤ) : Type 0 where
  pub cells_few : n ≤ 120
  pub links_few : links ≤ 160
  pub values : Wordlike 0 n rates
  pub multipliers : Wordlike n links rates

-- The shelf after a table of that job was kept.
abbrev pub kept_from : Layout → (words : List ℤ) (loss gap : ℕ) (values multipliers shelf : List ℕ) → List ℕ
kept_from l words loss gap values multipliers shelf =
    kept_on l (count_at words 0) (count_at words 1) (slot_of l.words (count_at words 1) loss gap values multipliers) shelf

abbrev pub table_kept : Layout → (words : List ℤ) (loss gap : ℕ) (rates : List ℤ) (shelf : List ℕ) → List ℕ
table_kept l words loss gap rates shelf =
    kept_from l words loss gap (taken_from 0 (cells_of words) rates) (taken_from (cells_of words) (links_of words) rates) shelf

-- ---- a fetch
-- Kept numbers of which every one is allowed.
pub record Judging (values multipliers : List ℕ) : Type 0 where
  pub values_small : (i : ℕ) → i < length values → up_to most_value values i ≡ true
  pub multipliers_small : (l : ℕ) → l < length multipliers → up_to most_multiplier multipliers l ≡ true
