-- Document 02, W-202: the terms of a gap by their places, and the place of the largest.
use Rattle.std.specs.Prelude.{ℕ, ◌+◌, ◌-◌, ltb, ℤ}
use Rattle.std.specs.Prelude.{if◌then◌else◌}
use Rattle.jobs.specs.Job.{Job}
use Rattle.tally.specs.Largest.{largest_of}
use Rattle.measure.specs.Gap.{cell_term_of, link_term_of}

-- The term of the gap at a place: "a cell's number, or n plus the link's number"
abbrev pub term_at : Job → (v y : ℕ → ℤ) → (place : ℕ) → ℤ
term_at j v y place = if ltb place j.cells then cell_term_of j v y place else link_term_of j v y (place - j.cells)

-- "The place of 9 becomes that of the largest term of the gap", of all of them
abbrev pub largest_place : Job → (v y : ℕ → ℤ) → ℕ
largest_place j v y = largest_of (term_at j v y) (j.cells + j.links)
