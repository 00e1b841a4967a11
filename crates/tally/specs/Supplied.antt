-- A cell term and what supplied it (document 01, "Loss and gap"; W-202), by the cell's weight, residual, box and value.
use Rattle.std.specs.Prelude.{ℕ, ℤ}
use Rattle.std.specs.Int.Signed.{le_z}
use Rattle.certificate.specs.Terms.{box_term, square_term, square_counts}
use Rattle.std.specs.Prelude.{if◌then◌else◌}
use Rattle.tally.specs.declared.term.Supplied.{Supplied}
use Rattle.tally.specs.declared.term.Supplied.TheVariants.{ByBox, ByWeight}

-- "if w = 0 or r lies outside -2,000,000,000..2,000,000,000, the box term"
abbrev pub limit : ℕ
limit = 2000000000

-- Document 02, W-202: "Each cell term also says whether the box or the weight supplied it, the box if they tie." Where w = 0 or r lies outside the
-- limit, the box did.
abbrev pub lesser_of : (boxed square : ℤ) → Supplied
lesser_of boxed square = if le_z boxed square then ByBox boxed else ByWeight square

abbrev pub supplied : (w r lo hi v : ℤ) → Supplied
supplied w r lo hi v = if square_counts limit w r then lesser_of (box_term r lo hi v) (square_term w r) else ByBox (box_term r lo hi v)

-- The term, whichever supplied it.
abbrev pub amount_of : Supplied → ℤ
amount_of (ByBox t) = t
amount_of (ByWeight t) = t
