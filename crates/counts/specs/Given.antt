-- What the functions that add up counts go by.
use Rattle.std.specs.Prelude.{ℕ, ◌≤◌, ◌<◌, List, length}
use Rattle.counts.specs.Counts.{societies, most_slots, count_in}

-- Counts, each at most 16, of the societies below s.
pub record Counts (row : List ℕ) (s : ℕ) : Type 0 where
  pub inside : s ≤ length row
  pub few : s ≤ societies
  pub small : (i : ℕ) → i < s → count_in row i ≤ most_slots
