-- Document 02, W-201: "Accepted tables go out the same way, header `age,rate`, from a first age that the caller gives, and reading such an export back
-- gives the same values."
use Rattle.std.specs.Prelude.{ℕ, ◌+◌, ◌-◌, ◌≡◌, Bool, true, false, ◌&&◌, List, [], ◌∷◌, ◌++◌, leb, ltb, eqb, length}
use Rattle.std.proofs.lemmas.List.Edits.{sets}
use Rattle.std.specs.Prelude.{if◌then◌else◌}
use Rattle.packs.specs.Reading.{Outcome}
use Rattle.std.specs.Prelude.{Ok, Err}
use Rattle.refusals.specs.declared.Refusal.{Refusal}
use Rattle.refusals.specs.declared.Refusal.TheVariants.{NotAllowed, NoRoom}
use Rattle.packs.specs.Writing.{Written, refused, in_room}
use Rattle.decimals.specs.Decimal.{decimal}
use Rattle.decimals.specs.Whole.{largest}
use Rattle.lists.specs.Cut.{line_end, lines_of}
use Rattle.lists.specs.Lines.{rates_header, most_lines, listed_of}

-- ---- out
-- Every line ends in CR LF, the last too.
abbrev pub export_line : (age rate : ℕ) → List ℕ
export_line age rate = decimal age ++ ((44 ∷ []) ++ (decimal rate ++ line_end))

-- A line for each rate, from the age `first` on.
unfoldable pub export_lines : (first : ℕ) → List ℕ → List ℕ
export_lines first [] = []
export_lines first (rate ∷ rates) = export_line first rate ++ export_lines (first + 1) rates

abbrev pub export_text : (first : ℕ) → List ℕ → List ℕ
export_text first rates = (rates_header ++ line_end) ++ export_lines first rates

unfoldable pub all_upto : (most : ℕ) → List ℕ → Bool
all_upto most [] = true
all_upto most (x ∷ xs) = leb x most && all_upto most xs

-- "an export with an age or rate above 10^9, or not 1..120 rates, gives 2, place 0"
abbrev pub exportable : (first : ℕ) → List ℕ → Bool
exportable first rates =
    leb 1 (length rates) && (leb (length rates) most_lines && (leb (first + (length rates - 1)) largest && all_upto largest rates))

abbrev pub export_of : (room first : ℕ) → List ℕ → Written
export_of room first rates =
    if exportable first rates then in_room room (export_text first rates) (Ok (length (export_text first rates))) else refused (NotAllowed 0)

-- ---- and back
-- The values read, and how the reading ends.
pub record Rated : Type 0 where
  pub values : List ℕ
  pub outcome : Outcome

abbrev pub no_rates : Refusal → Rated
no_rates r = record { values = []; outcome = Err r }

-- The header alone is 2, place 0; room comes last.
abbrev pub handed_rates : (room : ℕ) → List ℕ → Outcome → Rated
handed_rates room values (Ok n) =
    if eqb n 0 then no_rates (NotAllowed 0) else if ltb room n then no_rates (NoRoom n) else record { values = values; outcome = Ok n }
handed_rates room values (Err r) = no_rates r

abbrev pub rates_of : (room : ℕ) → (text : List ℕ) → Rated
rates_of room text = handed_rates room (listed_of false (lines_of text)).counts (listed_of false (lines_of text)).outcome

-- What a reading function answers and leaves: how the reading ends, and the values in front of the words that were lent.
abbrev pub Gives : Rated → (before : List ℕ) → Outcome → (after : List ℕ) → Type 0
Gives rated before answer after = (answer ≡ rated.outcome) × (after ≡ sets before 0 rated.values)
