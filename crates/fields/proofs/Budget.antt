-- How far a walk along the table can go: every step takes one number off a field's budget, and the cell or link that a field stands in, which is the
-- place of the table's own refusals, rises no faster than the budget falls.
use Prim.Native.Nat.{ℕ, ◌+◌, ◌-◌, ◌*◌, ◌/◌, ◌≤◌}
use mathlib.Core.Path.{◌≡◌, refl}
use mathlib.Core.Bool.{Bool, true, false}
use native.Mathlib.Omega.{arith}
use borrow.Author.Tests.{ltb-true, eqb-false}
use lib.Dec.{leb, ltb, eqb}
use Rattle.std.specs.Prelude.{Ok, Err, if◌then◌else◌}
use Rattle.refusals.specs.declared.Refusal.{Refusal}
use Rattle.refusals.specs.declared.Refusal.TheVariants.{FloorAbove, TooFewWeights, BadTerm}
use Rattle.refusals.specs.Refusals.{number_of, place_of}
use Rattle.fields.specs.declared.Barred.TheVariants.{Unallowed, Other}
use Rattle.fields.specs.declared.cells.Cells.{Cells}
use Rattle.fields.specs.declared.links.Links.{Links}
use Rattle.fields.specs.declared.Field.{Field}
use Rattle.fields.specs.declared.Field.TheVariants.{Society, Job, Count, Order, Rows, Columns, OrderDown, OrderAcross, SecondConstant, Constant, Tolerance, Crude, Weight, Floor, Ceiling, LinkCount, TermCount, Cell, Coefficient, Bound, Value, Multiplier, End}
use Rattle.fields.specs.Table.{Step, within, within_signed, rule, order_used, shaped, are_columns, is_order, after_order, lacking, in_row, next_row, weighed, next_cell, after_ceiling, with_terms, with_least, after_coefficient, links_from, multipliers_from, values_from, step_of}
use Rattle.fields.proofs.Rows.{within_both}

-- ---- the most numbers that can follow, the field's own among them

-- the link count, and 160 links of 10 numbers
abbrev link_numbers : ℕ
link_numbers = 1601

abbrev cell_numbers : (n : ℕ) → ℕ
cell_numbers n = 4 + 4 * (n - 1)

abbrev cells_left : Cells → ℕ
cells_left c = 4 * (c.n - c.cell - 1) + link_numbers

abbrev links_left : Links → ℕ
links_left l = 10 * (l.links - l.link - 1)

abbrev pub budget : Field → ℕ
budget Society = 2092
budget Job = 2091
budget Count = 2090
budget (Order n) = 8 + cell_numbers n + link_numbers
budget (Rows n) = 7 + cell_numbers n + link_numbers
budget (Columns n rows) = 6 + cell_numbers n + link_numbers
budget (OrderDown c rows) = 5 + cell_numbers c.n + link_numbers
budget (OrderAcross c) = 4 + cell_numbers c.n + link_numbers
budget (SecondConstant c) = 7 + cells_left c
budget (Constant c second) = 6 + cells_left c
budget (Tolerance c) = 5 + cells_left c
budget (Crude c) = 4 + cells_left c
budget (Weight c) = 3 + cells_left c
budget (Floor c) = 2 + cells_left c
budget (Ceiling c lo) = 1 + cells_left c
budget (LinkCount n) = link_numbers
budget (TermCount l) = 10 + links_left l
budget (Cell l) = 3 + 2 * (l.terms - 1) + links_left l
budget (Coefficient l) = 2 + 2 * (l.terms - 1) + links_left l
budget (Bound l) = 1 + links_left l
budget (Value left links) = 1 + (left - 1) + links
budget (Multiplier left) = 1 + (left - 1)
budget End = 0

-- the cell or the link that a field stands in
abbrev pub standing : Field → ℕ
standing (SecondConstant c) = c.cell
standing (Constant c second) = c.cell
standing (Tolerance c) = c.cell
standing (Crude c) = c.cell
standing (Weight c) = c.cell
standing (Floor c) = c.cell
standing (Ceiling c lo) = c.cell
standing (TermCount l) = l.link
standing (Cell l) = l.link
standing (Coefficient l) = l.link
standing (Bound l) = l.link
standing Society = 0
standing Job = 0
standing Count = 0
standing (Order n) = 0
standing (Rows n) = 0
standing (Columns n rows) = 0
standing (OrderDown c rows) = 0
standing (OrderAcross c) = 0
standing (LinkCount n) = 0
standing (Value left links) = 0
standing (Multiplier left) = 0
standing End = 0

-- ---- a step keeps to them

pub record Onward (f g : Field) : Type 0 where
  pub less : budget g + 1 ≤ budget f
  pub slower : standing g + budget g ≤ standing f + budget f

pub record Own (f : Field) (r : Refusal) : Type 0 where
  pub some : 3 ≤ number_of r
  pub few : number_of r ≤ 5
  pub near : place_of r ≤ standing f

abbrev pub Kept : Field → Step → Type 0
Kept f (Ok g) = Onward f g
Kept f (Err Unallowed) = Unit {0}
Kept f (Err (Other r)) = Own f r

ruled : (f : Field) (allowed : Bool) (s : Step) → (allowed ≡ true → Kept f s) → Kept f (rule allowed s)
ruled f true s k = k refl
ruled f false s k = tt

after_ceiling_lem : (c : Cells) (lo hi : ℕ) → Kept (Ceiling c lo) (after_ceiling c lo hi)
after_ceiling_lem c lo hi = go (ltb hi lo) (ltb (c.cell + 1) c.n) refl (ltb 0 (c.want / 8))
  where
    go : (a b : Bool) → ltb (c.cell + 1) c.n ≡ b → (w : Bool)
        → Kept (Ceiling c lo) (if a then Err (Other (FloorAbove c.cell)) else if b then Ok (Crude (next_cell c)) else if w then Err (Other TooFewWeights) else Ok (LinkCount c.n))
    go true b e w = record { some = omega arith; few = omega arith; near = omega arith }
    go false true e w = let h = ltb-true (c.cell + 1) c.n e in record { less = omega arith; slower = omega arith }
    go false false e true = record { some = omega arith; few = omega arith; near = omega arith }
    go false false e false = record { less = omega arith; slower = omega arith }

links_from_lem : (f : Field) (n links j : ℕ) → 10 * (links - j) + 1 ≤ budget f → j + 10 * (links - j) ≤ standing f + budget f → Onward f (links_from n links j)
links_from_lem f n links j h k = go (ltb j links) refl
  where
    go : (t : Bool) → ltb j links ≡ t → Onward f (if t then TermCount (record { n = n; links = links; link = j; terms = 0; least = 0 }) else End)
    go true e = let l = ltb-true j links e in record { less = omega arith; slower = omega arith }
    go false e = record { less = omega arith; slower = omega arith }

after_coefficient_lem : (l : Links) (x : ℕ) → Kept (Coefficient l) (after_coefficient l x)
after_coefficient_lem l x = go (eqb x 0) (eqb l.least 0) (ltb 1 l.terms) refl
  where
    go : (a r b : Bool) → ltb 1 l.terms ≡ b
        → Kept (Coefficient l) (if a then Err (Other (BadTerm l.link)) else if r then Err (Other (BadTerm l.link)) else if b then Ok (Cell (record { n = l.n; links = l.links; link = l.link; terms = l.terms - 1; least = l.least })) else Ok (Bound l))
    go true r b e = record { some = omega arith; few = omega arith; near = omega arith }
    go false true b e = record { some = omega arith; few = omega arith; near = omega arith }
    go false false true e = let h = ltb-true 1 l.terms e in record { less = omega arith; slower = omega arith }
    go false false false e = record { less = omega arith; slower = omega arith }

pub budget_multipliers : (left : ℕ) → (budget (multipliers_from left) ≤ left) × (standing (multipliers_from left) ≡ 0)
budget_multipliers left = go (eqb left 0) refl
  where
    go : (t : Bool) → eqb left 0 ≡ t → (budget (if t then End else Multiplier left) ≤ left) × (standing (if t then End else Multiplier left) ≡ 0)
    go true e = (omega arith, refl)
    go false e = (omega (arith, eqb-false left 0 e), refl)

pub budget_values : (left links : ℕ) → (budget (values_from left links) ≤ left + links) × (standing (values_from left links) ≡ 0)
budget_values left links = go (eqb left 0) refl
  where
    go : (t : Bool) → eqb left 0 ≡ t
        → (budget (if t then multipliers_from links else Value left links) ≤ left + links) × (standing (if t then multipliers_from links else Value left links) ≡ 0)
    go true e = let m = budget_multipliers links in (omega (arith, m.0), m.1)
    go false e = (omega (arith, eqb-false left 0 e), refl)

-- ---- every row of the table

falls : {f g : Field} → budget g + 1 ≤ budget f → standing g ≡ standing f → Onward f g
falls h e = record { less = h; slower = omega (arith, e) }

after_order_lem : (n x : ℕ) → Kept (Order n) (after_order n x)
after_order_lem n x = go (eqb x 5)
  where
    line : Field
    line = Constant (shaped n 1 (order_used x) 1) 0

    go : (t : Bool) → Kept (Order n) (if t then Ok (Rows n) else rule (is_order n (order_used x)) (Ok line))
    go true = falls (omega arith) refl
    go false = ruled (Order n) (is_order n (order_used x)) (Ok line) (λ e. falls (omega arith) refl)

after_weight : (c : Cells) (x : ℕ) → Onward (Weight c) (Floor (weighed c x))
after_weight c x = go (ltb (c.column + 1) (c.row / 8))
  where
    go : (t : Bool) → Onward (Weight c) (Floor (if t then in_row c (lacking c.want x) else next_row c (lacking c.want x)))
    go true = falls (omega arith) refl
    go false = falls (omega arith) refl

pub step_kept : (f : Field) (x : ℕ) → Kept f (step_of f x)
unfolding step_of
step_kept Society x = ruled Society (within 0 7 x) (Ok Job) (λ e. falls (omega arith) refl)
step_kept Job x = ruled Job (within 0 4294967295 x) (Ok Count) (λ e. falls (omega arith) refl)
step_kept Count x = ruled Count (within 2 120 x) (Ok (Order x)) (λ e. falls (omega (arith, within_both 2 120 x e)) refl)
step_kept (Order n) x = after_order_lem n x
step_kept (Rows n) x = ruled (Rows n) (leb 2 x) (Ok (Columns n x)) (λ e. falls (omega arith) refl)
step_kept (Columns n rows) x = ruled (Columns n rows) (are_columns n rows x) (Ok (OrderDown (shaped n x 0 0) rows)) (λ e. falls (omega arith) refl)
step_kept (OrderDown c rows) x =
    ruled (OrderDown c rows) (is_order rows x) (Ok (OrderAcross (shaped c.n (c.row / 8) x 0))) (λ e. falls (omega arith) refl)
step_kept (OrderAcross c) x =
    ruled (OrderAcross c) (is_order (c.row / 8) x) (Ok (SecondConstant (shaped c.n (c.row / 8) (c.want / 8) x))) (λ e. falls (omega arith) refl)
step_kept (SecondConstant c) x = ruled (SecondConstant c) (within 1 999 x) (Ok (Constant c x)) (λ e. falls (omega arith) refl)
step_kept (Constant c second) x = ruled (Constant c second) (within 1 (1000 - second) x) (Ok (Tolerance c)) (λ e. falls (omega arith) refl)
step_kept (Tolerance c) x = ruled (Tolerance c) (within 0 1000000000000000 x) (Ok (Crude c)) (λ e. falls (omega arith) refl)
step_kept (Crude c) x = ruled (Crude c) (within 0 1000000 x) (Ok (Weight c)) (λ e. falls (omega arith) refl)
step_kept (Weight c) x = ruled (Weight c) (within 0 1000 x) (Ok (Floor (weighed c x))) (λ e. after_weight c x)
step_kept (Floor c) x = ruled (Floor c) (within 0 1000000 x) (Ok (Ceiling c x)) (λ e. falls (omega arith) refl)
step_kept (Ceiling c lo) x = ruled (Ceiling c lo) (within 0 1000000 x) (after_ceiling c lo x) (λ e. after_ceiling_lem c lo x)
step_kept (LinkCount n) x =
    ruled (LinkCount n) (within 0 160 x) (Ok (links_from n x 0))
    (λ e. let h = within_both 0 160 x e in links_from_lem (LinkCount n) n x 0 (omega arith) (omega arith))
step_kept (TermCount l) x =
    ruled (TermCount l) (within 1 4 x) (Ok (Cell (with_terms l x))) (λ e. falls (omega (arith, within_both 1 4 x e)) refl)
step_kept (Cell l) x =
    ruled (Cell l) (ltb x l.n) (Ok (Coefficient (with_least l (if leb l.least x then x + 1 else 0)))) (λ e. falls (omega arith) refl)
step_kept (Coefficient l) x = ruled (Coefficient l) (within_signed 10 x) (after_coefficient l x) (λ e. after_coefficient_lem l x)
step_kept (Bound l) x =
    ruled (Bound l) (within_signed 1000000000 x) (Ok (links_from l.n l.links (l.link + 1)))
    (λ e. links_from_lem (Bound l) l.n l.links (l.link + 1) (omega arith) (omega arith))
step_kept (Value left links) x =
    ruled (Value left links) (within 0 1000000 x) (Ok (values_from (left - 1) links))
    (λ e. let b = budget_values (left - 1) links in falls (omega (arith, b.0)) b.1)
step_kept (Multiplier left) x =
    ruled (Multiplier left) (within 0 1000000000 x) (Ok (multipliers_from (left - 1)))
    (λ e. let b = budget_multipliers (left - 1) in falls (omega (arith, b.0)) b.1)
step_kept End x = tt
