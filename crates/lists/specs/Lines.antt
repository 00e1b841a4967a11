-- Document 02, W-201: what the lines of a list hold, and the faults 16, 17 and 18, "each with the line number (the header is 1), in that order on a
-- line". A claims list has age, exposure and deaths; an export has age and rate.
use Rattle.std.specs.Prelude.{ℕ, ◌+◌, ◌≡◌, Bool, true, ◌&&◌, List, [], ◌∷◌, ltb, eqb}
use Rattle.std.proofs.lemmas.List.Edits.{sets}
use Rattle.std.specs.Prelude.{Option, Some, None, Result, Ok, Err, if◌then◌else◌}
use Rattle.refusals.specs.declared.Refusal.{Refusal}
use Rattle.refusals.specs.declared.Refusal.TheVariants.{BadLine, OutOfSequence, DeathsAbove}
use Rattle.decimals.specs.Whole.{whole_of}
use Rattle.lists.specs.declared.lines.Entry.{Entry}
use Rattle.lists.specs.declared.lines.Fault.{Fault}
use Rattle.lists.specs.declared.lines.Fault.TheVariants.{Malformed, Sequence, Deaths}
use Rattle.lists.specs.Cut.{field_in, fields_after, same_bytes}

-- "header `age,exposure,deaths`", and "header `age,rate`"
abbrev pub claims_header : List ℕ
claims_header = 97 ∷ 103 ∷ 101 ∷ 44 ∷ 101 ∷ 120 ∷ 112 ∷ 111 ∷ 115 ∷ 117 ∷ 114 ∷ 101 ∷ 44 ∷ 100 ∷ 101 ∷ 97 ∷ 116 ∷ 104 ∷ 115 ∷ []

abbrev pub rates_header : List ℕ
rates_header = 97 ∷ 103 ∷ 101 ∷ 44 ∷ 114 ∷ 97 ∷ 116 ∷ 101 ∷ []

abbrev pub header_of : (claims : Bool) → List ℕ
header_of claims = if claims then claims_header else rates_header

-- "at most 120 lines of data"
abbrev pub most_lines : ℕ
most_lines = 120

-- ---- one line
abbrev pub entry_of : (age exposure count : ℕ) → Entry
entry_of age exposure count = record { age = age; exposure = exposure; count = count }

-- Two fields and nothing more: those of a line without exposure.
abbrev pub two_of : Option ℕ → Option ℕ → Option Entry
two_of (Some age) (Some count) = Some (entry_of age 0 count)
two_of (Some age) None = None
two_of None later = None

abbrev pub pair_of : List ℕ → Option Entry
pair_of line = two_of (whole_of (field_in line)) (whole_of (fields_after line))

-- A field in front of two more.
abbrev pub three_of : Option ℕ → Option Entry → Option Entry
three_of (Some age) (Some later) = Some (entry_of age later.age later.count)
three_of (Some age) None = None
three_of None later = None

-- The fields of a line: three of a claims list, two of an export.
abbrev pub fields_of : (claims : Bool) → List ℕ → Option Entry
fields_of claims line = if claims then three_of (whole_of (field_in line)) (pair_of (fields_after line)) else pair_of line

-- "ages rising by one": the first age is free.
abbrev pub in_sequence : (k before age : ℕ) → Bool
in_sequence k before age = if eqb k 0 then true else eqb age (before + 1)

-- "17 ages not in sequence, 18 deaths above exposure"
abbrev pub tested : (claims : Bool) (k before : ℕ) → Option Entry → Result Entry Fault
tested claims k before (Some entry) =
    if in_sequence k before entry.age then (if claims && ltb entry.exposure entry.count then Err Deaths else Ok entry) else Err Sequence
tested claims k before None = Err Malformed

-- A line of data after k others, the last of which had the age `before`. "16 malformed, out of range or beyond the 120"
abbrev pub line_of : (claims : Bool) (k before : ℕ) → List ℕ → Result Entry Fault
line_of claims k before line = if ltb k most_lines then tested claims k before (fields_of claims line) else Err Malformed

abbrev pub refusal_at : Fault → (line : ℕ) → Refusal
refusal_at Malformed line = BadLine line
refusal_at Sequence line = OutOfSequence line
refusal_at Deaths line = DeathsAbove line

abbrev pub refused_at : (line : ℕ) → Result Entry Fault → Result Entry Refusal
refused_at line (Ok entry) = Ok entry
refused_at line (Err fault) = Err (refusal_at fault line)

-- ---- all lines
-- What the lines of data hold, up to the first fault, and how the reading ends: with their count, or with a refusal at a line.
pub record Listed : Type 0 where
  pub exposures : List ℕ
  pub counts : List ℕ
  pub outcome : Result ℕ Refusal

abbrev pub ends_with : Result ℕ Refusal → Listed
ends_with o = record { exposures = []; counts = []; outcome = o }

abbrev pub on_line : Result Entry Fault → (number : ℕ) → (ℕ → Listed) → Listed
on_line (Ok entry) number rest =
    record { exposures = entry.exposure ∷ (rest entry.age).exposures; counts = entry.count ∷ (rest entry.age).counts; outcome = (rest entry.age).outcome }
on_line (Err fault) number rest = ends_with (Err (refusal_at fault number))

-- The lines of data from the line k on: "the header is 1", so the number of that line is k + 2.
unfoldable pub listed_from : (claims : Bool) (k before : ℕ) → List (List ℕ) → Listed
listed_from claims k before [] = ends_with (Ok k)
listed_from claims k before (line ∷ lines) = on_line (line_of claims k before line) (k + 2) (λ age. listed_from claims (k + 1) age lines)

-- All lines: the header, and the lines of data.
abbrev pub listed_of : (claims : Bool) → List (List ℕ) → Listed
listed_of claims [] = ends_with (Err (BadLine 1))
listed_of claims (header ∷ lines) = if same_bytes header (header_of claims) then listed_from claims 0 0 lines else ends_with (Err (BadLine 1))

-- What a reading function answers and leaves: how the reading ends, and what it read in front of the words that were lent.
pub record ListRead (listed : Listed) (exposures counts : List ℕ) (answer : Result ℕ Refusal) (exposures-after counts-after : List ℕ) : Type 0 where
  pub ends : answer ≡ listed.outcome
  pub kept : exposures-after ≡ sets exposures 0 listed.exposures
  pub counted : counts-after ≡ sets counts 0 listed.counts
