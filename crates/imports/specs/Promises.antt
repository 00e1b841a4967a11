-- What is promised of an imported claims list.
use Rattle.std.specs.Prelude.{ℕ, ◌+◌, ◌*◌, ◌≤◌, ◌<◌, ◌≡◌, true, false, List, [], ◌∷◌, ltb, pos, length, get_or}
use Rattle.std.specs.Prelude.{if◌then◌else◌}
use Rattle.fields.specs.Table.{order_used}
use Rattle.std.specs.Prelude.{Ok, Err}
use Rattle.refusals.specs.declared.Refusal.{Refusal}
use Rattle.refusals.specs.declared.Refusal.TheVariants.{NoDivisor}
use Rattle.packs.specs.Writing.{refused, in_room, roomed}
use Rattle.jobs.specs.Job.{Job}
use Rattle.jobs.specs.Words.{job_of}
use Rattle.jobs.specs.Packs.{read_job, write_job}
use Rattle.lists.specs.Cut.{lines_of}
use Rattle.lists.specs.Lines.{listed_of}
use Rattle.lists.specs.Promises.{ListText}
use Rattle.imports.specs.declared.Given.{Given}
use Rattle.imports.specs.Imports.{crude_of, weight_of, words_of, import_of}

-- ---- a cell's numbers

-- "halves up": the rate is the largest whole number that is at most half above deaths times 1,000,000 over exposure.
pub record HalvesUp (exposure deaths rate : ℕ) : Type 0 where
  pub low : 2 * (exposure * rate) ≤ 2 * (deaths * 1000000) + exposure
  pub high : 2 * (deaths * 1000000) + exposure < 2 * (exposure * (rate + 1))

abbrev pub RateHalvesUp : Type 0
RateHalvesUp = (exposure deaths : ℕ) → 0 < exposure → HalvesUp exposure deaths (crude_of exposure deaths)

-- No deaths above exposure: no rate above 1,000,000, which is what a job allows.
abbrev pub RatesAllowed : Type 0
RatesAllowed = (exposure deaths : ℕ) → deaths ≤ exposure → crude_of exposure deaths ≤ 1000000

-- "rounded down, and 1,000 if that is less"
pub record RoundedDown (divisor exposure weight : ℕ) : Type 0 where
  pub most : weight ≤ 1000
  pub low : weight * divisor ≤ exposure
  pub high : weight < 1000 → exposure < weight * divisor + divisor

abbrev pub WeightRoundedDown : Type 0
WeightRoundedDown = (divisor exposure : ℕ) → 0 < divisor → RoundedDown divisor exposure (weight_of divisor exposure)

-- ---- exactly

-- How many of the weights are positive.
unfoldable pub weighty : (divisor : ℕ) → (exposures : List ℕ) → ℕ
weighty divisor [] = 0
weighty divisor (exposure ∷ exposures) = (if ltb 0 (weight_of divisor exposure) then 1 else 0) + weighty divisor exposures

-- The pack's own tests (document 01, "Numbers allowed", and the refusals 3 and 4), of what the caller gives and of the list.
pub record PackAllows (g : Given) (exposures : List ℕ) : Type 0 where
  pub society : g.society ≤ 7
  pub job : g.job ≤ 4294967295
  pub cells : 2 ≤ length exposures
  pub order : g.order ≤ 4
  pub order_less : order_used g.order < length exposures
  pub constant_some : 1 ≤ g.constant
  pub constant : g.constant ≤ 1000
  pub tolerance : g.tolerance ≤ 1000000000000000
  pub box : g.floor ≤ g.ceiling
  pub ceiling : g.ceiling ≤ 1000000
  pub weights : order_used g.order ≤ weighty g.divisor exposures

-- Imported exactly if the divisor is not 0, the text is a claims list (`ListText` of `lists`) and the pack's own tests pass; then only room can lack. A list
-- with a fault is refused by its first (`LowestFault` of `lists`); one without, as the writer refuses the job's words.
pub record ImportedExactly : Type 0 where
  pub done : (g : Given) (room : ℕ) (text exposures deaths : List ℕ) → (g.divisor ≡ 0 → ⊥) → ListText true text exposures deaths → PackAllows g exposures
      → (n : ℕ) × (import_of g room text ≡ in_room room (write_job (words_of g exposures deaths)).bytes (Ok n))
  pub only : (g : Given) (room : ℕ) (text : List ℕ) (n : ℕ) → (import_of g room text).outcome ≡ Ok n
      → (g.divisor ≡ 0 → ⊥) × ((exposures : List ℕ) × ((deaths : List ℕ) × (ListText true text exposures deaths × PackAllows g exposures)))
  pub divisor : (g : Given) (room : ℕ) (text : List ℕ) → g.divisor ≡ 0 → import_of g room text ≡ refused NoDivisor
  pub faulty : (g : Given) (room : ℕ) (text : List ℕ) (r : Refusal) → (g.divisor ≡ 0 → ⊥) → (listed_of true (lines_of text)).outcome ≡ Err r
      → import_of g room text ≡ refused r
  pub written : (g : Given) (room : ℕ) (text exposures deaths : List ℕ) → (g.divisor ≡ 0 → ⊥) → ListText true text exposures deaths
      → import_of g room text ≡ roomed room (write_job (words_of g exposures deaths))

-- ---- the job that an imported pack reads back as

-- A cell for each line, all else the caller's: "one common box", "a job pack without links".
pub record JobOfList (g : Given) (exposures deaths : List ℕ) (j : Job) : Type 0 where
  pub society : j.society ≡ g.society
  pub number : j.number ≡ g.job
  pub cells : j.cells ≡ length exposures
  pub line : j.grid ≡ false
  pub order : j.order ≡ order_used g.order
  pub constant : j.constant ≡ pos g.constant
  pub tolerance : j.tolerance ≡ pos g.tolerance
  pub crude : (i : ℕ) → i < length exposures → j.crude i ≡ pos (crude_of (get_or exposures i 0) (get_or deaths i 0))
  pub weight : (i : ℕ) → i < length exposures → j.weight i ≡ pos (weight_of g.divisor (get_or exposures i 0))
  pub floor : (i : ℕ) → i < length exposures → j.floor i ≡ pos g.floor
  pub ceiling : (i : ℕ) → i < length exposures → j.ceiling i ≡ pos g.ceiling
  pub links : j.links ≡ 0

abbrev pub ImportsReadBack : Type 0
ImportsReadBack =
    (g : Given) (room : ℕ) (text exposures deaths : List ℕ) (n : ℕ) → ListText true text exposures deaths → (import_of g room text).outcome ≡ Ok n
    → (read_job (import_of g room text).bytes ≡ record { words = words_of g exposures deaths; outcome = Ok (length (words_of g exposures deaths)) })
    × JobOfList g exposures deaths (job_of (words_of g exposures deaths))
