-- What a fetch says (document 02, W-203): "The shelf keeps the multipliers with the values, and a fetch checks both against the job presented,
-- answering as the check would, with the new F and G." From any words of a span.
use Rattle.std.specs.Prelude.{ℕ, ◌+◌, ◌*◌, Bool, cond, ◌&&◌, List, ◌++◌, map, eqb, leb, ltb, ℤ, pos, nat_abs, length, take, drop, get_or}
use Rattle.std.specs.Prelude.{if◌then◌else◌}
use Rattle.std.specs.Prelude.{Ok, Err}
use Rattle.refusals.specs.declared.Refusal.TheVariants.{BadProposal}
use Rattle.packs.specs.Reading.{Outcome}
use Rattle.jobs.specs.Job.{Job}
use Rattle.measure.specs.Check.{Verdict, lowest_failing, verdict_for}
use Rattle.slots.specs.Slots.{head_size, values_end, has_job, lowest, at_slot}
use Rattle.checked.specs.Answers.{Reply, refusal, refused}

-- ---- kept numbers

-- "Numbers allowed": the most of a value and of a multiplier
abbrev pub most_value : ℕ
most_value = 1000000

abbrev pub most_multiplier : ℕ
most_multiplier = 1000000000

-- the lowest of the numbers that is above a most, or their count
abbrev pub up_to : (most : ℕ) → (numbers : List ℕ) → (i : ℕ) → Bool
up_to most numbers i = leb (get_or numbers i 0) most

abbrev pub lowest_above : (most : ℕ) → (numbers : List ℕ) → ℕ
lowest_above most numbers = lowest_failing (up_to most numbers) (length numbers)

-- "6 for a kept number not allowed, place its word within the place": the numbers start at that word
abbrev pub or_six : (first most : ℕ) → (numbers : List ℕ) → Verdict → Verdict
or_six first most numbers later =
    if ltb (lowest_above most numbers) (length numbers) then Err (BadProposal (first + lowest_above most numbers)) else later

-- the words of a proposal with those values and multipliers
abbrev pub proposal_of : (values multipliers : List ℕ) → List ℤ
proposal_of values multipliers = map pos (values ++ multipliers)

-- "answering as the check would"
unfoldable pub kept_verdict : Job → (values multipliers : List ℕ) → Verdict
kept_verdict j values multipliers =
    or_six head_size most_value values (or_six values_end most_multiplier multipliers (verdict_for j (proposal_of values multipliers)))

-- ---- a table

-- done with the verdict's F and G, where the output has room for the values
abbrev pub handed : (room : ℕ) → (values : List ℕ) → Verdict → Reply
handed room values (Ok f) =
    cond (leb (length values) room)
    (record { answer = record { number = 0; place = length values; loss = nat_abs f.loss; gap = nat_abs f.gap }; values = values })
    (refusal 13 (length values))
handed room values (Err r) = refused r

-- "12 also when the kept cell or link count differs from the job's"
abbrev pub same_counts : Job → (cells links : ℕ) → Bool
same_counts j cells links = eqb cells j.cells && eqb links j.links

unfoldable pub fetch_table : Job → (room cells links : ℕ) → (values multipliers : List ℕ) → Reply
fetch_table j room cells links values multipliers = cond (same_counts j cells links) (handed room values (kept_verdict j values multipliers)) (refusal 12 0)

-- ---- a slot and a span

-- the counts, the values and the multipliers of the slot with which x begins
abbrev pub kept_cells : List ℕ → ℕ
kept_cells x = get_or x 0 0

abbrev pub kept_links : List ℕ → ℕ
kept_links x = get_or x 6 0

abbrev pub kept_values : List ℕ → List ℕ
kept_values x = take (kept_cells x) (drop head_size x)

abbrev pub kept_multipliers : List ℕ → List ℕ
kept_multipliers x = take (kept_links x) (drop values_end x)

unfoldable pub fetch_at : Job → (room : ℕ) → List ℕ → Reply
fetch_at j room x = fetch_table j room (kept_cells x) (kept_links x) (kept_values x) (kept_multipliers x)

-- the lowest slot with the job's number is the one
unfoldable pub fetch_in : ℕ → ℕ → Job → (room : ℕ) → List ℕ → Reply
fetch_in w c j room s = at_slot (lowest (has_job j.number) w c s) (λ p. fetch_at j room (drop (w * p) s)) (refusal 12 0)

-- "fetch gives 01's 1 to 5 before 12": a pack that does not read is its refusal
abbrev pub on_job : Outcome → Reply → Reply
on_job (Ok k) reply = reply
on_job (Err r) reply = refused r
