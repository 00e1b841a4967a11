-- What the steps inside the check come to: parts that are added to a lent list, and what a walk over the links answers.
use Rattle.std.specs.Prelude.{ℕ, suc, ◌+◌, ◌*◌, ◌≡◌, Bool, List, ltb, ℤ, pos, ◌+ℤ◌, ◌*ℤ◌, length}
use Rattle.whole.specs.Sum.{sum, coefficient_of}
use Rattle.std.specs.Prelude.{if◌then◌else◌}
use Rattle.jobs.specs.Job.{Job, link_coefficient}
use Rattle.jobs.specs.Words.{word_at, count_at}
use Rattle.tally.specs.Tally.{tallied_of}
use Rattle.measure.specs.Gap.{link_term_of}
use Rattle.measure.specs.Check.{lowest_failing, in_box, holds}
use Rattle.std.specs.Prelude.{Result, Ok, Err}
use Rattle.refusals.specs.declared.Refusal.TheVariants.{OutsideBox, BrokenLink}
use Rattle.refusals.specs.declared.Refusal.{Refusal}
use Rattle.tally.specs.declared.Tally.{Tally}

-- What a walk over the links finds: the tally of all link terms, or the refusal of a table that does not meet its job.
abbrev pub Walked : Type 0
Walked = Result Tally Refusal

-- A number is added to each word of a list.
pub record Added (part : ℕ → ℤ) (before after : List ℤ) : Type 0 where
  pub long : length after ≡ length before
  pub at : (i : ℕ) → word_at after i ≡ word_at before i +ℤ part i

-- By the words of a link that starts at s: its sum, its bound, and what it adds to the cell i with the multiplier y.
unfoldable pub sum_at : List ℤ → (s : ℕ) → (v : ℕ → ℤ) → ℤ
sum_at ws s v = sum (count_at ws s) (λ m. word_at ws (s + 2 + 2 * m) *ℤ v (count_at ws (s + 1 + 2 * m)))

abbrev pub bound_at : List ℤ → (s : ℕ) → ℤ
bound_at ws s = word_at ws (s + 1 + 2 * count_at ws s)

unfoldable pub part_at : List ℤ → (s : ℕ) → (y : ℤ) → (i : ℕ) → ℤ
part_at ws s y i = y *ℤ coefficient_of (count_at ws s) (λ m. count_at ws (s + 1 + 2 * m)) (λ m. word_at ws (s + 2 + 2 * m)) i

-- What the difference that starts at the cell f adds to the cell i, with the multiplier y.
abbrev pub back_at : (row : ℕ → ℤ) (order stride f : ℕ) → (y : ℤ) → (i : ℕ) → ℤ
back_at row order stride f y i = y *ℤ coefficient_of (suc order) (λ m. f + m * stride) row i

-- The links below the lowest broken one ..
abbrev pub held_links : Job → (v : ℕ → ℤ) → ℕ
held_links j v = lowest_failing (holds j v) j.links

-- .. what the first k links add to the cell i ..
abbrev pub parts_of : Job → (y : ℕ → ℤ) → (k i : ℕ) → ℤ
parts_of j y k i = sum k (λ l. y l *ℤ link_coefficient j l i)

-- .. what a walk over the links answers, 8 at the lowest broken one ..
unfoldable pub walk_of : Job → (v y : ℕ → ℤ) → Walked
walk_of j v y = if ltb (held_links j v) j.links then Err (BrokenLink (held_links j v)) else Ok (tallied_of j.tolerance (pos 0) (link_term_of j v y) j.links)

-- .. and what it answers after the boxes, 7 at the lowest cell outside its own, and how many links it has gone over then.
abbrev pub outside : Job → (v : ℕ → ℤ) → Bool
outside j v = ltb (lowest_failing (in_box j v) j.cells) j.cells

unfoldable pub met_of : Job → (v y : ℕ → ℤ) → Walked
met_of j v y = if outside j v then Err (OutsideBox (lowest_failing (in_box j v) j.cells)) else walk_of j v y

unfoldable pub walked_links : Job → (v : ℕ → ℤ) → ℕ
walked_links j v = if outside j v then 0 else held_links j v
