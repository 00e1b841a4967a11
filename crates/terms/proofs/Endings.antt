-- How a listing ends: all places or 13, the check's refusals but for 9, and from words back to the packs that they were read of.
use Prim.Native.Nat.{ℕ, ◌+◌, ◌*◌, ◌≤◌}
use mathlib.Core.Path.{◌≡◌, refl, sym, ap, subst, subst₂, ◌∙◌}
use mathlib.Core.Bool.{Bool, true, false}
use mathlib.Core.List.{List}
use native.Mathlib.Omega.{arith}
use borrow.Author.Tests.{eqb-true}
use lib.Dec.{eqb}
use lib.IntN.{ℤ}
use lib.ListN.{length, take}
use lib.Seq.{sets}
use lib.Signed.{le_z}
use Rattle.std.specs.Prelude.{if◌then◌else◌}
use Rattle.packs.specs.Reading.{Outcome, Hands}
use Rattle.jobs.specs.Packs.{handed_out, read_job, read_proposal}
use Rattle.jobs.specs.Words.{word_at, cells_of, links_of, job_of}
use Rattle.tally.specs.declared.Tally.{Tally}
use Rattle.refusals.specs.declared.Refusal.{Refusal}
use Rattle.refusals.specs.declared.Refusal.TheVariants.{GapAbove}
use Rattle.refusals.specs.Refusals.{number_of}
use Rattle.measure.specs.declared.opening.Counts.{Counts}
use Rattle.measure.specs.Largest.{largest_place}
use Rattle.measure.specs.Check.{Verdict, accepting, verdict_for}
use Rattle.measure.specs.Opening.{opened_of, proposal_words}
use Rattle.measure.specs.Running.{Walked}
use Rattle.measure.specs.OnWords.{multiplier_on, loss_on, gap_on, judged_on, met_on}
use Rattle.measure.proofs.Verdicts.{met_judged, met_refused, unmet_number}
use Rattle.measure.proofs.Packed.{both_checked, job_part, proposal_part, unread_number, unread_refused}
use Rattle.terms.specs.Listing.{end_of, list_for, terms_of}
use Rattle.terms.specs.Steps.{entries_on}
use Rattle.std.specs.Prelude.{Ok, Err}

-- ---- as the check refuses, 9 excepted

judged_done : (ws ps : List ℤ) (count : ℕ) → end_of count (judged_on ws ps) ≡ Ok count
judged_done ws ps count = go (le_z (gap_on ws ps) (job_of ws).tolerance)
  where
    go : (o : Bool) → end_of count (if o then accepting (loss_on ws ps) (gap_on ws ps) else Err (GapAbove (largest_place (job_of ws) (word_at ps) (multiplier_on ws ps)))) ≡ Ok count
    go true = refl
    go false = refl

other_number : {number : ℕ} → number ≤ 8 → eqb number 9 ≡ false
other_number {number} h = go (eqb number 9) refl
  where
    go : (b : Bool) → eqb number 9 ≡ b → b ≡ false
    go true e = absurd (omega (arith, h, eqb-true number 9 e))
    go false e = refl

-- a refusal of another number
pub refusal_listed : (room : ℕ) (ws ps out : List ℤ) {v : Verdict} {r : Refusal} → Err r ≡ v → eqb (number_of r) 9 ≡ false
    → Hands (list_for room (job_of ws) ps v) out (Err r) out
refusal_listed room ws ps out {v} {r} e q =
    subst (λ (v : Verdict). Hands (list_for room (job_of ws) ps v) out (Err r) out) e
    (subst (λ (b : Bool). Hands (handed_out room (entries_on ws ps (cells_of ws + links_of ws)) (if b then Ok (3 * (cells_of ws + links_of ws)) else Err r)) out (Err r) out) (sym q) (refl, refl))

module _ (ws ps out : List ℤ) {w : Walked} (ew : w ≡ met_on ws ps) where
  pub table_unmet : {r : Refusal} → w ≡ Err r → Hands (list_for (length out) (job_of ws) ps (verdict_for (job_of ws) ps)) out (Err r) out
  table_unmet {r} q = refusal_listed (length out) ws ps out (met_refused ws ps ew q) (other_number {number = number_of r} (omega (arith, (unmet_number ws ps (sym ew ∙ q)).1)))

  pub table_met : {t : Tally} → w ≡ Ok t → {r : Outcome} {after : List ℤ}
      → Hands (handed_out (length out) (entries_on ws ps (cells_of ws + links_of ws)) (Ok (3 * (cells_of ws + links_of ws)))) out r after
      → Hands (list_for (length out) (job_of ws) ps (verdict_for (job_of ws) ps)) out r after
  table_met q {r} {after} H =
      subst (λ (o : Outcome). Hands (handed_out (length out) (entries_on ws ps (cells_of ws + links_of ws)) o) out r after)
      (sym (judged_done ws ps (3 * (cells_of ws + links_of ws))) ∙ ap (end_of (3 * (cells_of ws + links_of ws))) (met_judged ws ps ew q)) H

-- ---- from words to packs

pub packs_unread : (job proposal : List ℕ) {r : Refusal} → opened_of job proposal ≡ Err r → (out : List ℤ) → Hands (terms_of (length out) job proposal) out (Err r) out
packs_unread job proposal {r} e out =
    refusal_listed (length out) (read_job job).words (read_proposal (cells_of (read_job job).words) (links_of (read_job job).words) proposal).words out
    (unread_refused job proposal e) (other_number {number = number_of r} (omega (arith, (unread_number job proposal e).1)))

pub packs_listed : (job proposal : List ℕ) {c : Counts} (e : opened_of job proposal ≡ Ok c)
    {l : List ℤ} (room : length l ≡ 2092) (l₀ : List ℤ) (q : l ≡ sets l₀ 0 (read_job job).words)
    {p : List ℤ} (place : length p ≡ 280) (p₀ : List ℤ) (r : p ≡ sets p₀ 0 (proposal_words job proposal))
    (out : List ℤ) {o : Outcome} {after : List ℤ} → Hands (list_for (length out) (job_of (take c.words l)) (take c.values p) (verdict_for (job_of (take c.words l)) (take c.values p))) out o after
    → Hands (terms_of (length out) job proposal) out o after
packs_listed job proposal e room l₀ q place p₀ r out {o} {after} H =
    subst (λ (v : Verdict). Hands (list_for (length out) (job_of ws) ps v) out o after) (both_checked job proposal e)
    (subst₂ (λ (x y : List ℤ). Hands (list_for (length out) (job_of x) y (verdict_for (job_of x) y)) out o after) (job_part job proposal e room l₀ q place p₀ r) (proposal_part job proposal e room l₀ q place p₀ r) H)
  where
    ws : List ℤ
    ws = (read_job job).words

    ps : List ℤ
    ps = (read_proposal (cells_of ws) (links_of ws) proposal).words
