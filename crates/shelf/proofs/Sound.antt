-- What an accepted check names: a society up to 7, 2 to 120 values, and at most 160 multipliers. It accepts only packs that read, and what reads is allowed.
use mathlib.Core.Path.{◌≡◌, refl}
use mathlib.Core.Bool.{true}
use mathlib.Core.Option.{some}
use mathlib.Core.List.{List, [], ◌∷◌}
use Prim.Native.Nat.{ℕ, ◌≤◌}
use native.Mathlib.Omega.{arith}
use lib.IntN.{ℤ}
use lib.ListN.{length}
use Rattle.jobs.specs.Words.{job_of}
use Rattle.jobs.specs.Packs.{read_job}
use Rattle.checked.specs.Checked.{Checked, checked_of}
use Rattle.checked.specs.Answers.{accepted}
use Rattle.slots.specs.Slots.{most_cells, most_links}
use Rattle.checked.proofs.Sound.{accepted_read, values_count, multipliers_count}
use Rattle.shelf.specs.Calls.{first_of}

-- an accepted check names a society up to 7, 2 to 120 values, and at most 160 multipliers
pub record Sound (o : Checked) : Type 0 where
  pub society : o.society ≤ 7
  pub some : 2 ≤ length o.values
  pub few : length o.values ≤ most_cells
  pub links : length o.multipliers ≤ most_links

pub accepted_sound : (job proposal : List ℕ) → accepted (checked_of job proposal).verdict ≡ true → Sound (checked_of job proposal)
unfolding checked_of
accepted_sound job proposal e =
    let p = accepted_read job proposal e in
    let n = values_count job proposal p in
    record { society = p.allowed.society; some = omega (arith, n, p.allowed.cells_some); few = omega (arith, n, p.allowed.cells_few); links = omega (arith, multipliers_count job proposal p, p.allowed.links_few) }

-- and its pack names that society
first_named : (words : List ℤ) → 1 ≤ length words → first_of words ≡ some (job_of words).society
first_named [] h = absurd (omega arith)
first_named (w ∷ ws) h = refl

pub accepted_named : (job proposal : List ℕ) → accepted (checked_of job proposal).verdict ≡ true → first_of (read_job job).words ≡ some (checked_of job proposal).society
unfolding checked_of
accepted_named job proposal e = first_named (read_job job).words (some_words (read_job job).words (accepted_read job proposal e).allowed.cells_some)
  where
    some_words : (words : List ℤ) → 2 ≤ (job_of words).cells → 1 ≤ length words
    some_words [] h = absurd (omega arith)
    some_words (w ∷ ws) h = omega arith
