-- Document 02, W-207: the proposal after each pass, the first that the check accepts, and the answer, with its refusals in their order: 21, the job pack's,
-- 20, 10, 14, and room last.
use Rattle.std.specs.Prelude.{ℕ, suc, ◌-◌, Result, Bool, not, ◌&&◌, ◌≡◌, List, [], leb, ltb, ℤ, pos, get_or, Float, Ok, Err}
use Rattle.std.proofs.lemmas.List.Edits.{sets}
use Rattle.std.specs.Float.{nan}
use Rattle.std.specs.Prelude.{if◌then◌else◌}
use Rattle.packs.specs.Writing.{Written, roomed}
use Rattle.refusals.specs.declared.Refusal.{Refusal}
use Rattle.refusals.specs.declared.Refusal.TheVariants.{TooThin, NotReached, NotProposed, PassesNotAllowed}
use Rattle.jobs.specs.Job.{Job}
use Rattle.jobs.specs.Words.{job_of}
use Rattle.jobs.specs.Packs.{read_job, write_proposal}
use Rattle.measure.specs.Check.{Verdict, lowest_failing, verdict_for}
use Rattle.checked.specs.Answers.{accepted}
use Rattle.factor.specs.Factor.{Ending}
use Rattle.house.specs.Filled.{filled}
use Rattle.house.specs.Rounding.{rounded_out}
use Rattle.house.specs.Proposal.{solved_of, most_columns, words_of}
use Rattle.passes.specs.Hildreth.{State, after_pass}
use Rattle.linked.specs.declared.Offer.{Offer}
use Rattle.packs.specs.Reading.{Outcome}

-- "values within their boxes and multipliers within 0..10^9 are rounded by 01's rule"
abbrev pub multiplier_word : Float → ℤ
multiplier_word y = pos (rounded_out 0 1000000000 y)

-- The words of a proposal: the house's, with each link's multiplier after the values.
unfoldable pub linked_words : Job → State → List ℤ
linked_words j s = filled (λ i. multiplier_word (get_or s.multipliers (i - j.cells) nan)) j.links j.cells (words_of j s.values)

-- "and the check is asked"
unfoldable pub verdict_after : Job → State → Verdict
unfolding linked_words
verdict_after j s = verdict_for j (linked_words j s)

abbrev pub accepted_at : Job → (pass : ℕ) → Bool
accepted_at j p = accepted (verdict_after j (after_pass j p))

-- How many of the passes given come before the first that is accepted: all of them where none is.
unfoldable pub passes_before : Job → (given : ℕ) → ℕ
unfolding verdict_after after_pass
passes_before j given = lowest_failing (λ i. not (accepted_at j (suc i))) given

-- What is answered: a proposal of so many bytes after so many passes, or a refusal.
abbrev pub Offered : Type 0
Offered = Result Offer Refusal

abbrev pub offering : (bytes passes : ℕ) → Offered
offering bytes passes = Ok (record { bytes = bytes; passes = passes })

-- The bytes written, and what is answered.
pub record Linked : Type 0 where
  pub bytes : List ℕ
  pub offer : Offered

-- What a function of this crate answers and leaves: the offer, and the bytes written in front of the bytes that were lent.
abbrev pub Ends : Linked → (before : List ℕ) → Offered → (after : List ℕ) → Type 0
Ends linked before offer after = (offer ≡ linked.offer) × (after ≡ sets before 0 linked.bytes)

abbrev pub refused : Refusal → Linked
refused r = record { bytes = []; offer = Err r }

-- "with the count of passes made": the count stands beside what writing the pack comes to.
abbrev pub counting : (passes : ℕ) → Outcome → Offered
counting passes (Ok n) = offering n passes
counting passes (Err r) = Err r

abbrev pub counted : (passes : ℕ) → Written → Linked
counted passes w = record { bytes = w.bytes; offer = counting passes w.outcome }

-- It is written as a proposal pack, where the output has room for it.
abbrev pub written_after : (room : ℕ) → Job → State → Written
written_after room j s = roomed room (write_proposal j.cells j.links (linked_words j s))

-- "The answer is the first pass whose proposal is accepted"; "14 exactly when no pass within the number is accepted, place that number"
abbrev pub on_first : (room given : ℕ) → Job → (before : ℕ) → Linked
on_first room given j before = if ltb before given then counted (suc before) (written_after room j (after_pass j (suc before))) else refused (NotReached given)

-- "10 as at the house proposal"
abbrev pub on_ending : (room given : ℕ) → Job → Ending → Linked
on_ending room given j (Ok whole) = on_first room given j (passes_before j given)
on_ending room given j (Err thin) = refused (TooThin thin.cell)

-- "20 … as at the house proposal": before 10, place 0
unfoldable pub linked_for : (room given : ℕ) → Job → Linked
unfolding passes_before solved_of
linked_for room given j = if ltb most_columns j.columns then refused NotProposed else on_ending room given j (solved_of j).ending

abbrev pub on_job_read : (room given : ℕ) → List ℤ → Outcome → Linked
on_job_read room given ws (Ok k) = linked_for room given (job_of ws)
on_job_read room given ws (Err r) = refused r

-- "at most a number that the caller gives (1..200)"
abbrev pub most_passes : ℕ
most_passes = 200

abbrev pub few_passes : (given : ℕ) → Bool
few_passes given = leb 1 given && leb given most_passes

-- "21 passes outside 1..200, first, place 0"
abbrev pub linked_of : (room given : ℕ) → List ℕ → Linked
linked_of room given s = if few_passes given then on_job_read room given (read_job s).words (read_job s).outcome else refused PassesNotAllowed
