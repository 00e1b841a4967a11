-- What functions count on that are lent the words of an accepted check: the numbers of the two packs lie in the ranges of document 01, "Numbers allowed".
use Rattle.std.specs.Prelude.{ℕ, ◌+◌, ◌≤◌, ◌<◌, ◌≡◌, List, ℤ, nat_abs, length}
use Rattle.jobs.specs.Words.{word_at, count_at, cells_of, links_of}
use Rattle.jobs.specs.Allowed.{Counts}

-- A job's words, with zeros after them up to 2,092.
pub record JobWords (words : List ℤ) : Type 0 where
  pub room : length words ≡ 2092
  pub society : count_at words 0 ≤ 7
  pub number : count_at words 1 ≤ 4294967295
  pub cells : cells_of words ≤ 120
  pub order : Counts words 3
  pub links : links_of words ≤ 160

-- The numbers of a proposal, of which the first n are values.
pub record Rates (n : ℕ) (rates : List ℤ) : Type 0 where
  pub few : n ≤ 120
  pub inside : n ≤ length rates
  pub small : (i : ℕ) → i < n → nat_abs (word_at rates i) ≤ 1000000

-- n numbers from the number a on, each a word of 32 bits.
pub record Wordlike (a n : ℕ) (rates : List ℤ) : Type 0 where
  pub inside : a + n ≤ length rates
  pub small : (i : ℕ) → i < n → nat_abs (word_at rates (a + i)) ≤ 4294967295

-- A job's words, and the numbers of a proposal for it.
pub record Given (words rates : List ℤ) : Type 0 where
  pub job : JobWords words
  pub values : Rates (cells_of words) rates
  pub multipliers : Wordlike (cells_of words) (links_of words) rates
