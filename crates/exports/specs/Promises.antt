-- What is promised of tables that go out as lists.
use Rattle.std.specs.Prelude.{ℕ, ◌≤◌, ◌≡◌, ◌⊎◌, true, false, List, ◌++◌, length}
use Rattle.std.specs.Prelude.{Ok, Err}
use Rattle.refusals.specs.declared.Refusal.{Refusal}
use Rattle.lists.specs.Cut.{line_end, lines_of}
use Rattle.lists.specs.Lines.{listed_of}
use Rattle.lists.specs.Promises.{ListText}
use Rattle.exports.specs.Exports.{export_text, exportable, no_rates, rates_of}

-- "reading such an export back gives the same values"
abbrev pub ExportsReadBack : Type 0
ExportsReadBack =
    (room first : ℕ) (rates : List ℕ) → exportable first rates ≡ true → length rates ≤ room
    → rates_of room (export_text first rates) ≡ record { values = rates; outcome = Ok (length rates) }

-- Writing back what was read gives the same text, up to the last line's end.
abbrev pub ExportsWrittenBack : Type 0
ExportsWrittenBack =
    (room : ℕ) (text : List ℕ) (n : ℕ) → (rates_of room text).outcome ≡ Ok n
    → (first : ℕ) × ((export_text first (rates_of room text).values ≡ text) ⊎ (export_text first (rates_of room text).values ≡ text ++ line_end))

-- A text is read back exactly if it is a table's list with at least one line and there is room; and a list with a fault is refused by its first
-- (`LowestFault` of `lists`).
pub record ReadBackExactly : Type 0 where
  pub read : (room : ℕ) (text exposures rates : List ℕ) → ListText false text exposures rates → 1 ≤ length rates → length rates ≤ room
      → rates_of room text ≡ record { values = rates; outcome = Ok (length rates) }
  pub only : (room : ℕ) (text : List ℕ) (n : ℕ) → (rates_of room text).outcome ≡ Ok n
      → ((exposures : List ℕ) × ListText false text exposures (rates_of room text).values) × (1 ≤ n) × (n ≤ room)
  pub faulty : (room : ℕ) (text : List ℕ) (r : Refusal) → (listed_of false (lines_of text)).outcome ≡ Err r → rates_of room text ≡ no_rates r
