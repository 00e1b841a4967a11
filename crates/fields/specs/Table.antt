-- Document 01, "Numbers allowed", "Packs" and "Order", as one table: for each field of a pack what its number may be, what comes after it and
-- which refusal it can bring. `Err Unallowed` is refusal 2 at the number's offset; `Other` is a refusal with its own place.
use Rattle.std.specs.Prelude.{ℕ, ◌+◌, ◌-◌, ◌*◌, ◌/◌, ◌%◌, Bool, true, false, ◌&&◌, leb, ltb, eqb}
use Rattle.std.specs.Prelude.{Result, Ok, Err, if◌then◌else◌}
use Rattle.refusals.specs.declared.Refusal.TheVariants.{FloorAbove, TooFewWeights, BadTerm}
use Rattle.fields.specs.declared.cells.Cells.{Cells}
use Rattle.fields.specs.declared.links.Links.{Links}
use Rattle.fields.specs.declared.Field.{Field}
use Rattle.fields.specs.declared.Field.TheVariants.{Society, Job, Count, Order, Rows, Columns, OrderDown, OrderAcross, SecondConstant, Constant, Tolerance, Crude, Weight, Floor, Ceiling, LinkCount, TermCount, Cell, Coefficient, Bound, Value, Multiplier, End}
use Rattle.fields.specs.declared.Barred.{Barred}
use Rattle.fields.specs.declared.Barred.TheVariants.{Unallowed, Other}

-- What a number does at a field: another follows, or the number is barred.
abbrev pub Step : Type 0
Step = Result Field Barred

abbrev pub within : (least most : ℕ) → ℕ → Bool
within least most x = leb least x && leb x most

-- A signed number from -most to most, by its stored form.
abbrev pub within_signed : (most : ℕ) → ℕ → Bool
within_signed most raw = within 0 (2 * most) raw

-- "each number read (1) and then tested (2)": what comes after an allowed number.
abbrev pub rule : Bool → Step → Step
rule allowed s = if allowed then s else Err Unallowed

-- "order field 0..4, where 0 means the house order 2"
abbrev pub house_order : ℕ
house_order = 2

abbrev pub order_used : ℕ → ℕ
order_used x = if eqb x 0 then house_order else x

-- Two small numbers in one, so that a walk carries few: the first is its quotient by 8, the second, below 8, its remainder.
abbrev pub paired : (a b : ℕ) → ℕ
paired a b = 8 * a + b

-- The first of n cells. What a row is: its columns and the order across. What is wanted: as many rows as the order down, and as many positive weights
-- as the order across, which the cell's own row still lacks. An order that is not read yet is 0.
abbrev pub shaped : (n columns down across : ℕ) → Cells
shaped n columns down across = record { n = n; row = paired columns across; want = paired down across; column = 0; cell = 0 }

-- W-205: "rows, columns (each at least 2, product n)": the product is tested at the columns, the later of the two, of which n cells have at most 120.
abbrev pub are_columns : (n rows : ℕ) → ℕ → Bool
are_columns n rows x = within 2 120 x && eqb (rows * x) n

-- W-205: "the order down, the order across (each 1..4, less than its length)"; document 01: "the order used is less than n".
abbrev pub is_order : (length : ℕ) → ℕ → Bool
is_order length x = within 1 4 x && ltb x length

-- "Order field 5 announces a grid"; any other is the order of a line: a grid of one column, where one cell fills a row, with no second constant.
abbrev pub grid_field : ℕ
grid_field = 5

abbrev pub after_order : (n : ℕ) → ℕ → Step
after_order n x = if eqb x grid_field then Ok (Rows n) else rule (is_order n (order_used x)) (Ok (Constant (shaped n 1 (order_used x) 1) 0))

-- What is wanted after a weight x: a positive one is one that its row lacks no longer.
abbrev pub lacking : (want x : ℕ) → ℕ
lacking want x = if ltb 0 x && ltb 0 (want % 8) then want - 1 else want

-- The rows wanted after a row's end: one less if the row lacks none.
abbrev pub rows_wanted : (want : ℕ) → ℕ
rows_wanted want = if eqb (want % 8) 0 then want / 8 - 1 else want / 8

-- After a cell of weight x: the next cell of its row, or the first of the next row, which lacks all that its order across asks for.
abbrev pub in_row : Cells → (want : ℕ) → Cells
in_row c want = record { n = c.n; row = c.row; want = want; column = c.column + 1; cell = c.cell }

abbrev pub next_row : Cells → (want : ℕ) → Cells
next_row c want = record { n = c.n; row = c.row; want = paired (rows_wanted want) (c.row % 8); column = 0; cell = c.cell }

abbrev pub weighed : Cells → ℕ → Cells
weighed c x = if ltb (c.column + 1) (c.row / 8) then in_row c (lacking c.want x) else next_row c (lacking c.want x)

abbrev pub next_cell : Cells → Cells
next_cell c = record { n = c.n; row = c.row; want = c.want; column = c.column; cell = c.cell + 1 }

-- "3 after each hi; 4 after the last cell"; W-205: "4 when fewer rows than the order down hold at least the order across of positive weights"
abbrev pub after_ceiling : Cells → (lo hi : ℕ) → Step
after_ceiling c lo hi =
    if ltb hi lo then Err (Other (FloorAbove c.cell)) else
    if ltb (c.cell + 1) c.n then Ok (Crude (next_cell c)) else
    if ltb 0 (c.want / 8) then Err (Other TooFewWeights) else
    Ok (LinkCount c.n)

-- The link numbered j of so many, or the end.
abbrev pub links_from : (n links j : ℕ) → Field
links_from n links j = if ltb j links then TermCount (record { n = n; links = links; link = j; terms = 0; least = 0 }) else End

abbrev pub with_terms : Links → ℕ → Links
with_terms l x = record { n = l.n; links = l.links; link = l.link; terms = x; least = 0 }

-- "cell 0..n-1": the next has to be one more at least; a cell that does not rise leaves 0 for that, until the term is whole.
abbrev pub with_least : Links → ℕ → Links
with_least l x = record { n = l.n; links = l.links; link = l.link; terms = l.terms; least = x }

abbrev pub after_cell : Links → ℕ → Step
after_cell l x = rule (ltb x l.n) (Ok (Coefficient (with_least l (if leb l.least x then x + 1 else 0))))

-- "5 after each term (a coefficient 0 is 5, never 2)"; then the next term, or the bound.
abbrev pub after_coefficient : Links → ℕ → Step
after_coefficient l x =
    if eqb x 0 then Err (Other (BadTerm l.link)) else
    if eqb l.least 0 then Err (Other (BadTerm l.link)) else
    if ltb 1 l.terms then Ok (Cell (record { n = l.n; links = l.links; link = l.link; terms = l.terms - 1; least = l.least })) else
    Ok (Bound l)

-- "one multiplier per link, nothing after"
abbrev pub multipliers_from : ℕ → Field
multipliers_from left = if eqb left 0 then End else Multiplier left

-- "Proposal pack: n values, then one multiplier per link"
abbrev pub values_from : (left links : ℕ) → Field
values_from left links = if eqb left 0 then multipliers_from links else Value left links

-- The table. A coefficient and a bound stand in their stored form. W-205: "both constants are at least 1 and together at most 1,000", tested at k.
unfoldable pub step_of : Field → ℕ → Step
step_of Society x = rule (within 0 7 x) (Ok Job)
step_of Job x = rule (within 0 4294967295 x) (Ok Count)
step_of Count x = rule (within 2 120 x) (Ok (Order x))
step_of (Order n) x = after_order n x
step_of (Rows n) x = rule (leb 2 x) (Ok (Columns n x))
step_of (Columns n rows) x = rule (are_columns n rows x) (Ok (OrderDown (shaped n x 0 0) rows))
step_of (OrderDown c rows) x = rule (is_order rows x) (Ok (OrderAcross (shaped c.n (c.row / 8) x 0)))
step_of (OrderAcross c) x = rule (is_order (c.row / 8) x) (Ok (SecondConstant (shaped c.n (c.row / 8) (c.want / 8) x)))
step_of (SecondConstant c) x = rule (within 1 999 x) (Ok (Constant c x))
step_of (Constant c second) x = rule (within 1 (1000 - second) x) (Ok (Tolerance c))
step_of (Tolerance c) x = rule (within 0 1000000000000000 x) (Ok (Crude c))
step_of (Crude c) x = rule (within 0 1000000 x) (Ok (Weight c))
step_of (Weight c) x = rule (within 0 1000 x) (Ok (Floor (weighed c x)))
step_of (Floor c) x = rule (within 0 1000000 x) (Ok (Ceiling c x))
step_of (Ceiling c lo) x = rule (within 0 1000000 x) (after_ceiling c lo x)
step_of (LinkCount n) x = rule (within 0 160 x) (Ok (links_from n x 0))
step_of (TermCount l) x = rule (within 1 4 x) (Ok (Cell (with_terms l x)))
step_of (Cell l) x = after_cell l x
step_of (Coefficient l) x = rule (within_signed 10 x) (after_coefficient l x)
step_of (Bound l) x = rule (within_signed 1000000000 x) (Ok (links_from l.n l.links (l.link + 1)))
step_of (Value left links) x = rule (within 0 1000000 x) (Ok (values_from (left - 1) links))
step_of (Multiplier left) x = rule (within 0 1000000000 x) (Ok (multipliers_from (left - 1)))
step_of End x = Err Unallowed

-- "Coefficients and b are stored as 2x for x >= 0 and -2x-1 below": these fields, and no others.
abbrev pub signed_at : Field → Bool
signed_at (Coefficient l) = true
signed_at (Bound l) = true
signed_at Society = false
signed_at Job = false
signed_at Count = false
signed_at (Order n) = false
signed_at (Rows n) = false
signed_at (Columns n rows) = false
signed_at (OrderDown c rows) = false
signed_at (OrderAcross c) = false
signed_at (SecondConstant c) = false
signed_at (Constant c second) = false
signed_at (Tolerance c) = false
signed_at (Crude c) = false
signed_at (Weight c) = false
signed_at (Floor c) = false
signed_at (Ceiling c lo) = false
signed_at (LinkCount n) = false
signed_at (TermCount l) = false
signed_at (Cell l) = false
signed_at (Value left links) = false
signed_at (Multiplier left) = false
signed_at End = false

-- "Nothing follows."
abbrev pub end_at : Field → Bool
end_at End = true
end_at Society = false
end_at Job = false
end_at Count = false
end_at (Order n) = false
end_at (Rows n) = false
end_at (Columns n rows) = false
end_at (OrderDown c rows) = false
end_at (OrderAcross c) = false
end_at (SecondConstant c) = false
end_at (Constant c second) = false
end_at (Tolerance c) = false
end_at (Crude c) = false
end_at (Weight c) = false
end_at (Floor c) = false
end_at (Ceiling c lo) = false
end_at (LinkCount n) = false
end_at (TermCount l) = false
end_at (Cell l) = false
end_at (Coefficient l) = false
end_at (Bound l) = false
end_at (Value left links) = false
end_at (Multiplier left) = false
