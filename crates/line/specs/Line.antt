-- Document 01, "The checking program": the line that it prints for an input.
use Rattle.std.specs.Prelude.{ℕ, ◌+◌, ◌-◌, List, [], ◌∷◌, ◌++◌, ltb, nat_abs, length, take, drop}
use Rattle.std.specs.Prelude.{Option, Some, None, Ok, Err, if◌then◌else◌}
use Rattle.refusals.specs.Refusals.{number_of, place_of}
use Rattle.numbers.specs.declared.plain.Number.{Number}
use Rattle.numbers.specs.Plain.{number_at}
use Rattle.decimals.specs.Decimal.{decimal}
use Rattle.measure.specs.Check.{Verdict}
use Rattle.checked.specs.Checked.{Checked, checked_of}

-- ---- a line of numbers
-- "Fields are parted by one space": a field after the first, with the space before it, and all such fields.
abbrev pub field : ℕ → List ℕ
field x = 32 ∷ decimal x

unfoldable pub later : List ℕ → List ℕ
later [] = []
later (x ∷ xs) = field x ++ later xs

-- "… with a line feed at the end."
abbrev pub printed : ℕ → List ℕ → List ℕ
printed first rest = decimal first ++ (later rest ++ (10 ∷ []))

-- ---- the line of an input
-- "Accepted: 0, society, job, F, G, the values. Refused: number and place."
abbrev pub verdict_line : Verdict → Checked → List ℕ
verdict_line (Ok figures) c = printed 0 (c.society ∷ c.job ∷ nat_abs figures.loss ∷ nat_abs figures.gap ∷ c.values)
verdict_line (Err r) c = printed (number_of r) (place_of r ∷ [])

unfoldable pub checked_line : Checked → List ℕ
checked_line c = verdict_line c.verdict c

-- "the job pack's length as a number, the job pack, the proposal pack"; "an unreadable length, or one beyond what remains, gives `1 0`".
abbrev pub packs_line : (input : List ℕ) → Option Number → List ℕ
packs_line input None = printed 1 (0 ∷ [])
packs_line input (Some size) =
    if ltb (length input - size.next) size.value then printed 1 (0 ∷ []) else
    checked_line (checked_of (take size.value (drop size.next input)) (drop (size.next + size.value) input))

-- "It reads at most 8,192 bytes"; "A longer input gives `1 8192`, before all else".
unfoldable pub line_of : (input : List ℕ) → List ℕ
line_of input = if ltb 8192 (length input) then printed 1 (8192 ∷ []) else packs_line input (number_at input 0)
