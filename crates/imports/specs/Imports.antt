-- Document 02, W-201: the job pack that a claims list makes.
use Rattle.std.specs.Prelude.{ℕ, ◌+◌, ◌*◌, ◌/◌, true, List, [], ◌∷◌, ◌++◌, leb, ltb, eqb, ℤ, pos, negsuc, length}
use Rattle.std.specs.Prelude.{if◌then◌else◌}
use Rattle.packs.specs.Reading.{Outcome}
use Rattle.std.specs.Prelude.{Ok, Err}
use Rattle.refusals.specs.declared.Refusal.TheVariants.{NoDivisor}
use Rattle.packs.specs.Writing.{Written, refused, roomed}
use Rattle.jobs.specs.Packs.{write_job}
use Rattle.imports.specs.declared.Given.{Given}
use Rattle.lists.specs.Cut.{lines_of}
use Rattle.lists.specs.Lines.{Listed, listed_of}

-- ---- a cell
-- "The crude rate is deaths times 1,000,000 over exposure, halves up"; "Exposure 0 gives rate 0"
abbrev pub crude_of : (exposure deaths : ℕ) → ℕ
crude_of exposure deaths = if eqb exposure 0 then 0 else (2 * (deaths * 1000000) + exposure) / (2 * exposure)

-- "the weight is exposure over a divisor that the society gives, rounded down, and 1,000 if that is less"
abbrev pub weight_of : (divisor exposure : ℕ) → ℕ
weight_of divisor exposure = if ltb 1000 (exposure / divisor) then 1000 else exposure / divisor

-- A number that the caller gives, as a word of the job; one above the most stands as a word that no field allows.
abbrev pub word_upto : (most x : ℕ) → ℤ
word_upto most x = if leb x most then pos x else negsuc 0

-- The largest number that a word holds.
abbrev pub largest_word : ℕ
largest_word = 9223372036854775807

-- The orders of an import: 0 to 4.
abbrev pub largest_order : ℕ
largest_order = 4

-- "one common box given by the caller"
unfoldable pub cell_of : Given → (exposure deaths : ℕ) → List ℤ
cell_of g exposure deaths =
    pos (crude_of exposure deaths) ∷ pos (weight_of g.divisor exposure) ∷ word_upto largest_word g.floor ∷ word_upto largest_word g.ceiling ∷ []

unfoldable pub cells_of : Given → (exposures deaths : List ℕ) → List ℤ
cells_of g [] deaths = []
cells_of g (e ∷ exposures) [] = []
cells_of g (e ∷ exposures) (d ∷ deaths) = cell_of g e d ++ cells_of g exposures deaths

-- ---- the job
-- "its society, job, order, k, T … given by the caller"
unfoldable pub head_of : Given → (n : ℕ) → List ℤ
head_of g n =
    word_upto largest_word g.society
    ∷ word_upto largest_word g.job
    ∷ pos n
    ∷ word_upto largest_order g.order
    ∷ word_upto largest_word g.constant
    ∷ word_upto largest_word g.tolerance
    ∷ []

-- "a job pack without links"
unfoldable pub words_of : Given → (exposures deaths : List ℕ) → List ℤ
words_of g exposures deaths = head_of g (length exposures) ++ (cells_of g exposures deaths ++ (pos 0 ∷ []))

-- "the pack's own refusals follow", and room comes last.
abbrev pub on_listed : Given → (room : ℕ) → Listed → Outcome → Written
on_listed g room listed (Ok n) = roomed room (write_job (words_of g listed.exposures listed.counts))
on_listed g room listed (Err r) = refused r

-- "Refusals: 19 divisor 0, first, place 0; then by line 16 …, 17 …, 18 …; the pack's own refusals follow"
unfoldable pub import_of : Given → (room : ℕ) → (text : List ℕ) → Written
import_of g room text =
    if eqb g.divisor 0 then refused NoDivisor else
    on_listed g room (listed_of true (lines_of text)) (listed_of true (lines_of text)).outcome
