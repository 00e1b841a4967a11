-- The job that a fetch presents: what was read of its pack stands in front of lent words, and a pack that does not read is its refusal.
use mathlib.Core.Path.{◌≡◌, sym, ap, ◌∙◌, subst}
use mathlib.Core.List.{List}
use Prim.Native.Nat.{ℕ, ◌≤◌}
use native.Mathlib.Omega.{arith}
use lib.IntN.{ℤ}
use lib.ListN.{length, take}
use lib.Seq.{sets}
use Rattle.std.specs.Prelude.{Ok, Err}
use Rattle.refusals.specs.declared.Refusal.{Refusal}
use Rattle.packs.specs.Reading.{Outcome}
use Rattle.jobs.specs.Words.{job_of}
use Rattle.jobs.specs.Allowed.{Allowed, Laid}
use Rattle.jobs.specs.Packs.{read_job}
use Rattle.jobs.proofs.Handed.{held_room, held_part}
use Rattle.jobs.proofs.Readings.{read_jobs_allowed, read_jobs_laid, read_words_counted, read_words_few}
use Rattle.checked.specs.Answers.{Reply, refused}
use Rattle.shelf.specs.Fetched.{on_job}
use Rattle.shelf.specs.Shelf.{Layout, fetch_from, fetch_reply}

module _ (job : List ℕ) {o : Outcome} (l₀ : List ℤ) {l : List ℤ} (long : length l₀ ≡ 2092) (eo : o ≡ (read_job job).outcome) (q : l ≡ sets l₀ 0 (read_job job).words) (lay : Layout) (room : ℕ) (shelf : List ℕ) where
  pub fetch_unread : {r : Refusal} → o ≡ Err r → refused r ≡ fetch_reply lay job room shelf
  unfolding fetch_reply
  fetch_unread u = ap {B = Reply} (λ (x : Outcome). on_job x (fetch_from lay (job_of (read_job job).words) room shelf)) (sym (sym eo ∙ u))

  module _ {k : ℕ} (u : o ≡ Ok k) where
    read : (read_job job).outcome ≡ Ok k
    read = sym eo ∙ u

    few : k ≤ 2092
    few = omega (arith, read_words_counted job k read, read_words_few job k read)

    front : take k l ≡ (read_job job).words
    front = held_part l₀ long (read_job job).words (sym (read_words_counted job k read)) few q

    pub presented : (k ≤ length l) × (Allowed (job_of (take k l)) × Laid (take k l))
    presented = (
      held_room l₀ long (read_job job).words (sym (read_words_counted job k read)) few q,
      subst (λ (ws : List ℤ). Allowed (job_of ws) × Laid ws) (sym front) (read_jobs_allowed job k read, read_jobs_laid job k read),
    )

    pub fetch_read : fetch_from lay (job_of (take k l)) room shelf ≡ fetch_reply lay job room shelf
    unfolding fetch_reply
    fetch_read =
        ap {B = Reply} (λ (ws : List ℤ). fetch_from lay (job_of ws) room shelf) front
        ∙ ap {B = Reply} (λ (x : Outcome). on_job x (fetch_from lay (job_of (read_job job).words) room shelf)) (sym read)
