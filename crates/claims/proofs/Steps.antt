-- What a society's call does to its own span keeps the length of the span and of the shelf, and leaves the leading row.
use mathlib.Core.Path.{◌≡◌, refl}
use mathlib.Core.Bool.{Bool, true, false, cond}
use mathlib.Core.List.{List}
use Prim.Native.Nat.{ℕ, ◌≤◌}
use native.Mathlib.Omega.{arith}
use lib.ListN.{length}
use Rattle.counts.specs.Counts.{passed, test_row, row_in}
use Rattle.slots.specs.Slots.{kept_in, forgot_in}
use Rattle.checked.specs.Answers.{accepted, answer_of}
use Rattle.checked.specs.Checked.{Checked, checked_of}
use Rattle.shelf.specs.Shelf.{Layout, slot_from, span_of, size_of, rowed, on_society, kept_shelf, forgot_shelf}
use Rattle.shelf.specs.Calls.{Own, keep, fetch, forget, laid_after}
use Rattle.slots.proofs.Steps.{slot_length}
use Rattle.slots.proofs.Sizes.{kept_length, forgot_length}
use Rattle.shelf.proofs.Spans.{Lawful, span_length, society_length}
use Rattle.shelf.proofs.Rows.{rowed_lawful, row_stays}
use Rattle.shelf.proofs.Sound.{Sound, accepted_sound}

-- ---- for any lawful layout
module _ (l : Layout) (ok : Lawful l) where
  -- what a keep and a forget do to their own society's words
  abbrev pub keep_step : Checked → List ℕ → List ℕ
  keep_step o x = kept_in l.words (l.count o.society) o.job (slot_from l o) x

  abbrev pub forget_step : (society job : ℕ) → List ℕ → List ℕ
  forget_step s job x = forgot_in l.words (l.count s) job x

  abbrev pub Long : List ℕ → Type 0
  Long xs = length xs ≡ l.total

  pub kept_same : (o : Checked) (xs : List ℕ) → Long xs → Sound o → length (keep_step o (span_of l o.society xs)) ≡ size_of l o.society
  kept_same o xs len sound =
      let h = sound.society in
      kept_length l.words (l.count o.society) (span_of l o.society xs) (span_length l ok o.society xs len h) o.job (slot_from l o) (ok.some o.society h)
      (slot_length l.words o.job (answer_of o.verdict).loss (answer_of o.verdict).gap o.values o.multipliers sound.few (omega (arith, sound.links, ok.wide)))

  pub forgot_same : (s job : ℕ) (xs : List ℕ) → Long xs → s ≤ 7 → length (forget_step s job (span_of l s xs)) ≡ size_of l s
  forgot_same s job xs len h = forgot_length l.words (l.count s) (span_of l s xs) (span_length l ok s xs len h) job

  -- ---- the shelf keeps its length
  kept_long : (o : Checked) → (accepted o.verdict ≡ true → Sound o) → (xs : List ℕ) → Long xs → Long (kept_shelf l o xs)
  unfolding kept_shelf
  kept_long o sound xs len = go (accepted o.verdict) refl
    where
      go : (b : Bool) → accepted o.verdict ≡ b → length (cond b (on_society l o.society (keep_step o) xs) xs) ≡ l.total
      go true e = society_length l ok o.society (keep_step o) xs len (λ h. kept_same o xs len (sound e))
      go false e = len

  pub laid_length : (call : Own) (xs : List ℕ) → Long xs → Long (laid_after l xs call)
  unfolding forgot_shelf
  laid_length (keep job proposal) xs len = kept_long (checked_of job proposal) (accepted_sound job proposal) xs len
  laid_length (fetch job room) xs len = len
  laid_length (forget s job) xs len = society_length l ok s (forget_step s job) xs len (forgot_same s job xs len)

-- ---- the leading row stays
module _ (row : List ℕ) (right : test_row row ≡ passed) where
  kept_row : (o : Checked) → (accepted o.verdict ≡ true → Sound o) → (xs : List ℕ) → Long (rowed row) (rowed_lawful row right) xs → row_in (kept_shelf (rowed row) o xs) ≡ row_in xs
  unfolding kept_shelf
  kept_row o sound xs len = go (accepted o.verdict) refl
    where
      go : (b : Bool) → accepted o.verdict ≡ b → row_in (cond b (on_society (rowed row) o.society (keep_step (rowed row) (rowed_lawful row right) o) xs) xs) ≡ row_in xs
      go true e = row_stays row right o.society (keep_step (rowed row) (rowed_lawful row right) o) xs len (λ h. kept_same (rowed row) (rowed_lawful row right) o xs len (sound e))
      go false e = refl

  pub laid_row : (call : Own) (xs : List ℕ) → Long (rowed row) (rowed_lawful row right) xs → row_in (laid_after (rowed row) xs call) ≡ row_in xs
  unfolding forgot_shelf
  laid_row (keep job proposal) xs len = kept_row (checked_of job proposal) (accepted_sound job proposal) xs len
  laid_row (fetch job room) xs len = refl
  laid_row (forget s job) xs len = row_stays row right s (forget_step (rowed row) (rowed_lawful row right) s job) xs len (forgot_same (rowed row) (rowed_lawful row right) s job xs len)
