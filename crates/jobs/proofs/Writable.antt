-- Every job that is allowed is written: the walk along the fields stops at none of its words.
use Prim.Native.Nat.{ℕ, zero, suc, ◌+◌, ◌-◌, ◌*◌, ◌/◌, ◌≤◌, ◌<◌}
use mathlib.Core.Path.{◌≡◌, refl, sym, ap, subst, ◌∙◌}
use mathlib.Core.Bool.{Bool, true, false}
use mathlib.Core.List.{List, []}
use native.Mathlib.Nat as N
use native.Mathlib.Numerals.{add-one}
use native.Mathlib.Omega.{arith}
use borrow.Author.Tests.{lt-ltb, le-ltb, le-leb, eq-eqb, ne_eqb}
use lib.Dec.{ltb}
use lib.IntN.{ℤ, pos, negsuc, nat_abs}
use lib.ListN.{length, drop, drop_of_length-le}
use lib.Seq.{drop-cons}
use Rattle.std.specs.Prelude.{if◌then◌else◌}
use Rattle.numbers.specs.Plain.{bytes_of}
use Rattle.numbers.specs.Zigzag.{stored_of}
use Rattle.fields.specs.declared.cells.Cells.{Cells}
use Rattle.fields.specs.declared.links.Links.{Links}
use Rattle.fields.specs.declared.Field.{Field}
use Rattle.fields.specs.declared.Field.TheVariants.{Society, Job, Count, Order, Rows, Columns, OrderDown, OrderAcross, SecondConstant, Constant, Tolerance, Crude, Weight, Floor, Ceiling, LinkCount, TermCount, Cell, Coefficient, Bound}
use Rattle.fields.specs.Table.{Step, within, order_used, paired, shaped, weighed, links_from, signed_at, end_at, step_of}
use Rattle.whole.proofs.Order.{pos_le}
use Rattle.packs.specs.Writing.{raw_of, write_from}
use Rattle.jobs.specs.Words.{word_at, count_at, cells_of, is_grid, head_words, rows_of, columns_of, order_of, across_of, second_of, links_of, start_of, job_of}
use Rattle.jobs.specs.Allowed.{Allowed, GridAllowed, ShapeAllowed, TermAllowed, positives, rows_held, Laid}
use Rattle.jobs.proofs.Places.{head_of_grid, head_of_line, head_some, columns_some, columns_few}
use Rattle.jobs.proofs.Shapes.{shape_at, rows_line, order_line, second_line, shape_line, rows_grid, columns_grid, order_grid, across_grid, second_grid, with_columns, with_down, with_across, shape_grid}
use Rattle.jobs.proofs.Weights as W
use Rattle.jobs.proofs.Weights.{lack_after, want_after, no_more, pair_first, weighed_inside, weighed_end, full, lacks_less, held_row}
use Rattle.jobs.specs.Packs.{write_job}
use Rattle.std.specs.Prelude.{Some, Ok, Err}
use Rattle.refusals.specs.declared.Refusal.TheVariants.{TooFewWeights}
use Rattle.fields.specs.declared.Barred.TheVariants.{Other}

pub within_most : (least most x : ℕ) → least ≤ x → x ≤ most → within least most x ≡ true
within_most least most x l h = rw (le-leb least x l, le-leb x most h)

-- ---- the walk stands at the word k and the field f

record Stands (ws : List ℤ) (first : Field) (k : ℕ) (f : Field) : Type 0 where
  pub at : ℕ
  pub ends : (write_from ws first 0).outcome ≡ (write_from (drop k ws) f at).outcome

one_word : (ws : List ℤ) (k : ℕ) (f g : Field) (at raw : ℕ) → k < length ws → end_at f ≡ false → raw_of f (word_at ws k) ≡ Some raw → step_of f raw ≡ Ok g
    → (write_from (drop k ws) f at).outcome ≡ (write_from (drop (k + 1) ws) g (at + length (bytes_of raw))).outcome
unfolding write_from
one_word ws k f g at raw h e r s = rw (drop-cons ws k (pos 0) h, e, r, s, add-one k)

module _ {ws : List ℤ} {first f g : Field} {k : ℕ} where
  -- a word that goes on
  on : Stands ws first k f → k < length ws → end_at f ≡ false → (raw : ℕ) → raw_of f (word_at ws k) ≡ Some raw → step_of f raw ≡ Ok g → Stands ws first (k + 1) g
  on w h e raw r s = record { at = w.at + length (bytes_of raw); ends = w.ends ∙ one_word ws k f g w.at raw h e r s }

  -- a word that is stored as it is
  plain : Stands ws first k f → k < length ws → end_at f ≡ false → signed_at f ≡ false → word_at ws k ≡ pos (count_at ws k) → step_of f (count_at ws k) ≡ Ok g
      → Stands ws first (k + 1) g
  plain w h e u c s = on w h e (count_at ws k) (rw (u, c)) s

stands_at : {ws : List ℤ} {first f : Field} {k l : ℕ} → k ≡ l → Stands ws first k f → Stands ws first l f
stands_at {ws} {first} {f} e w = subst (λ (n : ℕ). Stands ws first n f) e w

stands_as : {ws : List ℤ} {first f g : Field} {k : ℕ} → f ≡ g → Stands ws first k f → Stands ws first k g
stands_as {ws} {first} {k = k} e w = subst (λ (h : Field). Stands ws first k h) e w

-- ---- signed numbers

stored_small : (x : ℤ) (most : ℕ) → nat_abs x ≤ most → stored_of x ≤ 2 * most
stored_small (pos n) most h = omega arith
stored_small (negsuc n) most h = let q : n + 1 ≤ most = omega arith in omega arith

stored_some : (x : ℤ) → 1 ≤ nat_abs x → 1 ≤ stored_of x
stored_some (pos n) h = omega arith
stored_some (negsuc n) h = omega arith

-- ---- a job

module _ (ws : List ℤ) (L : Laid ws) (A : Allowed (job_of ws)) where
  abbrev n : ℕ
  n = cells_of ws

  abbrev H : ℕ
  H = head_words ws

  abbrev links : ℕ
  links = links_of ws

  abbrev At : ℕ → Field → Type 0
  At k f = Stands ws Society k f

  -- the words reach to the end of each link
  rises : (j : ℕ) → start_of ws 0 + 2 * j ≤ start_of ws j
  unfolding start_of
  rises zero = omega arith
  rises (suc j) = omega (arith, rises j)

  start_first : start_of ws 0 ≡ H + 1 + 4 * n
  unfolding start_of
  start_first = omega arith

  start_next : (j : ℕ) → start_of ws (suc j) ≡ start_of ws j + 2 * count_at ws (start_of ws j) + 2
  unfolding start_of
  start_next j = refl

  grows : (j k : ℕ) → start_of ws j ≤ start_of ws (j + k)
  grows j zero = let e : j + 0 ≡ j = omega arith in rw e (omega arith)
  grows j (suc k) = let e : j + suc k ≡ suc (j + k) = omega arith in rw e (omega (arith, grows j k, start_next (j + k)))

  before_end : (j : ℕ) → j ≤ links → start_of ws j ≤ length ws
  before_end j h = let e : j + (links - j) ≡ links = omega arith in omega (arith, grows j (links - j), ap (start_of ws) e, L.ends)

  head : H + 1 + 4 * n ≤ length ws
  head = omega (arith, before_end 0 (omega arith), start_first)

  -- the numbers before k: up to the order field, then a grid's own
  at_order : At 3 (Order n)
  unfolding step_of
  at_order =
      let room = head in
      let some = head_some ws in
      let start : At 0 Society = record { at = 0; ends = refl } in
      let a : At 1 Job = plain start (omega arith) refl refl L.society (rw (within_most 0 7 (count_at ws 0) (omega arith) A.society)) in
      let b : At 2 Count = plain a (omega arith) refl refl L.number (rw (within_most 0 4294967295 (count_at ws 1) (omega arith) A.number)) in
      plain b (omega arith) refl refl L.cells (rw (within_most 2 120 (count_at ws 2) A.cells_some A.cells_few))

  constant_of_line : is_grid ws ≡ false → At (H - 2) (Constant (shape_at ws) (nat_abs (second_of ws)))
  unfolding step_of
  constant_of_line l =
      let room = head in
      let six = head_of_line ws l in
      let z = order_used (count_at ws 3) in
      let e = order_line ws l in
      let d : At 4 (Constant (shaped n 1 z 1) 0) =
      plain at_order (omega arith) refl refl L.order
      (rw (l, within_most 1 4 z (omega (arith, A.order_some, e)) (omega (arith, A.order_few, e)), lt-ltb z n (omega (arith, A.order_less, e, rows_line ws l)))) in
      stands_as (λ i. Constant (shape_line ws l i) (nat_abs (sym (second_line ws l) i))) (stands_at (omega arith) d)

  constant_of_grid : is_grid ws ≡ true → At (H - 2) (Constant (shape_at ws) (nat_abs (second_of ws)))
  unfolding step_of
  constant_of_grid g =
      let room = head in
      let eleven = head_of_grid ws g in
      let G : GridAllowed (job_of ws) = subst (ShapeAllowed (job_of ws)) g A.shape in
      let K = L.grid g in
      let R = count_at ws 4 in
      let C = count_at ws 5 in
      let D = count_at ws 6 in
      let X = count_at ws 7 in
      let second : word_at ws 8 ≡ pos (count_at ws 8) = rw (second_grid ws g) at A.second.natural in
      let second_small : count_at ws 8 ≤ 999 = rw (second_grid ws g) at A.second.small in
      let second_some : 1 ≤ count_at ws 8 = rw (second_grid ws g) at G.second_some in
      let product : R * C ≡ n = rw (rows_grid ws g, columns_grid ws g) at A.cells_are in
      let columns_few : C ≤ 120 = omega (arith, A.cells_few, columns_few L A, columns_grid ws g) in
      let a : At 4 (Rows n) = plain at_order (omega arith) refl refl L.order (rw g) in
      let b : At 5 (Columns n R) = plain a (omega arith) refl refl K.rows (rw (le-leb 2 R (omega (arith, G.rows_some, rows_grid ws g)))) in
      let c : At 6 (OrderDown (with_columns ws g) R) =
      plain b (omega arith) refl refl K.columns
      (rw (within_most 2 120 C (omega (arith, G.columns_some, columns_grid ws g)) columns_few, eq-eqb (R * C) n product)) in
      let d : At 7 (OrderAcross (with_down ws g)) =
      plain c (omega arith) refl refl K.down
      (rw (within_most 1 4 D (omega (arith, A.order_some, order_grid ws g)) (omega (arith, A.order_few, order_grid ws g)), lt-ltb D R (omega (arith, A.order_less, order_grid ws g, rows_grid ws g)))) in
      let q = with_down ws g in
      let e : At 8 (SecondConstant (with_across ws g)) =
      plain d (omega arith) refl refl K.across
      (rw (within_most 1 4 X (omega (arith, A.across_some, across_grid ws g)) (omega (arith, A.across_few, across_grid ws g)), lt-ltb X (q.row / 8) (omega (arith, G.across_less, across_grid ws g, columns_grid ws g)))) in
      let f : At 9 (Constant (with_across ws g) (count_at ws 8)) =
      plain e (omega arith) refl refl second (rw (within_most 1 999 (count_at ws 8) second_some second_small)) in
      stands_as (λ i. Constant (shape_grid ws g i) (nat_abs (sym (second_grid ws g) i))) (stands_at (omega arith) f)

  at_constant : (t : Bool) → is_grid ws ≡ t → At (H - 2) (Constant (shape_at ws) (nat_abs (second_of ws)))
  at_constant true e = constant_of_grid e
  at_constant false e = constant_of_line e

  -- one cell
  abbrev cell_at : (want lack column i : ℕ) → Cells
  cell_at want lack column i = W.cell_at n (columns_of ws) (across_of ws) want lack column i

  first_cell : At (H + 4 * 0) (Crude (cell_at (order_of ws) (across_of ws) 0 0))
  unfolding step_of
  first_cell =
      let room = head in
      let some = head_some ws in
      let s = nat_abs (second_of ws) in
      let e : At (H - 1) (Tolerance (shape_at ws)) =
      stands_at (omega arith)
      (plain (at_constant (is_grid ws) refl) (omega arith) refl refl A.constant.natural (rw (within_most 1 (1000 - s) (nat_abs (job_of ws).constant) A.constant_some (omega (arith, A.constants))))) in
      stands_at (omega arith)
      (plain e (omega arith) refl refl A.tolerance.natural (rw (within_most 0 1000000000000000 (nat_abs (job_of ws).tolerance) (omega arith) A.tolerance.small)))

  abbrev weight_of : ℕ → ℕ
  weight_of i = count_at ws (H + 1 + 4 * i)

  box_order : (i : ℕ) → i < n → count_at ws (H + 2 + 4 * i) ≤ count_at ws (H + 3 + 4 * i)
  box_order i h = let C = A.cell i h in pos_le (rw (C.floor.natural, C.ceiling.natural) at C.box)

  -- the cell i, after whose weight d is wanted
  cell_on : (c : Cells) (want lack column i : ℕ) → i < n → weighed c (weight_of i) ≡ cell_at want lack column i → At (H + 4 * i) (Crude c) → (g : Field)
      → (if ltb (i + 1) n then Ok (Crude (cell_at want lack column (i + 1))) else if ltb 0 (paired want lack / 8) then Err (Other TooFewWeights) else Ok (LinkCount n)) ≡ Ok g
      → At (H + 4 * (i + 1)) g
  unfolding step_of
  cell_on c want lack column i h q w g s =
      let room = head in
      let C = A.cell i h in
      let lo = count_at ws (H + 2 + 4 * i) in
      let hi = count_at ws (H + 3 + 4 * i) in
      let a : At (H + 1 + 4 * i) (Weight c) =
      stands_at (omega arith) (plain w (omega arith) refl refl C.crude.natural (rw (within_most 0 1000000 (count_at ws (H + 4 * i)) (omega arith) C.crude.small))) in
      let b : At (H + 2 + 4 * i) (Floor (cell_at want lack column i)) =
      stands_at (omega arith) (stands_as (ap Floor q) (plain a (omega arith) refl refl C.weight.natural (rw (within_most 0 1000 (weight_of i) (omega arith) C.weight.small)))) in
      let d : At (H + 3 + 4 * i) (Ceiling (cell_at want lack column i) lo) =
      stands_at (omega arith) (plain b (omega arith) refl refl C.floor.natural (rw (within_most 0 1000000 lo (omega arith) C.floor.small))) in
      stands_at (omega arith)
      (plain d (omega arith) refl refl C.ceiling.natural (rw (within_most 0 1000000 hi (omega arith) C.ceiling.small, le-ltb hi lo (box_order i h)) s))

  counted : (lack i k : ℕ) → i < n → full (lack_after lack (weight_of i)) (positives (job_of ws) (i + 1) k) ≡ full lack (positives (job_of ws) i (suc k))
  unfolding positives
  counted lack i k h = rw ((A.cell i h).weight.natural, add-one i) (lacks_less lack (weight_of i) (positives (job_of ws) (suc i) k))

  ended : (lack i : ℕ) → i < n → full (lack_after lack (weight_of i)) 0 ≡ full lack (positives (job_of ws) i 1)
  unfolding positives
  ended lack i h = counted lack i 0 h

  few : across_of ws < 8
  few = omega (arith, A.across_few)

  -- k cells of the row of the cell i, then r rows
  cells_on : (m want lack column i k r : ℕ) → lack < 8 → i + m ≡ n → column + k ≡ columns_of ws → 1 ≤ k → m ≡ k + r * columns_of ws
      → want ≤ full lack (positives (job_of ws) i k) + rows_held (job_of ws) (i + k) r
      → At (H + 4 * i) (Crude (cell_at want lack column i)) → At (H + 4 * n) (LinkCount n)
  unfolding rows_held
  cells_on zero want lack column i k r small e c h q l w = absurd (omega (arith, q))
  cells_on (suc m) want lack column i zero r small e c h q l w = absurd (omega arith)
  cells_on (suc m) want lack column i (suc zero) zero small e c h q l w =
      let z = N.zero-mul (columns_of ws) in
      let x = lack_after lack (weight_of i) in
      let in_cells : i < n = omega arith in
      let none : want_after want x ≤ 0 = held_row want x 0 (rw (ended lack i in_cells) l) in
      let weight = weighed_end n (columns_of ws) (across_of ws) want lack column i (weight_of i) few small (omega arith) in
      stands_at (omega (arith, q, z))
      (cell_on (cell_at want lack column i) (want_after want x) (across_of ws) 0 i in_cells weight w (LinkCount n)
      (rw (le-ltb (i + 1) n (omega (arith, q, z)), pair_first (want_after want x) (across_of ws) few, le-ltb 0 (want_after want x) none)))
  cells_on (suc m) want lack column i (suc zero) (suc r) small e c h q l w =
      let z = N.suc-mul r (columns_of ws) in
      let x = lack_after lack (weight_of i) in
      let in_cells : i < n = omega arith in
      let left : want_after want x ≤ rows_held (job_of ws) (i + 1) (suc r) = held_row want x (rows_held (job_of ws) (i + 1) (suc r)) (rw (ended lack i in_cells) l) in
      let weight = weighed_end n (columns_of ws) (across_of ws) want lack column i (weight_of i) few small (omega arith) in
      cells_on m (want_after want x) (across_of ws) 0 (i + 1) (columns_of ws) r few (omega arith) (omega arith) (columns_some L A) (omega (arith, q, z)) left
      (cell_on (cell_at want lack column i) (want_after want x) (across_of ws) 0 i in_cells weight w
      (Crude (cell_at (want_after want x) (across_of ws) 0 (i + 1))) (rw (lt-ltb (i + 1) n (omega (arith, q, z, columns_some L A)))))
  cells_on (suc m) want lack column i (suc (suc k)) r small e c h q l w =
      let x = lack_after lack (weight_of i) in
      let in_cells : i < n = omega arith in
      let on : i + 1 + suc k ≡ i + suc (suc k) = omega arith in
      let weight = weighed_inside n (columns_of ws) (across_of ws) want lack column i (weight_of i) few small (omega arith) in
      cells_on m want x (column + 1) (i + 1) (suc k) r (omega (arith, no_more lack (weight_of i))) (omega arith) (omega arith) (omega arith) (omega (arith, q))
      (rw (counted lack i (suc k) in_cells, on) l)
      (cell_on (cell_at want lack column i) want x (column + 1) i in_cells weight w
      (Crude (cell_at want x (column + 1) (i + 1))) (rw (lt-ltb (i + 1) n (omega (arith, q)))))

  -- one link
  abbrev link_at : (l terms least : ℕ) → Links
  link_at l terms least = record { n = n; links = links; link = l; terms = terms; least = least }

  module _ (l : ℕ) (h : l < links) where
    abbrev S : ℕ
    S = start_of ws l

    abbrev t : ℕ
    t = count_at ws S

    room : S + 2 * t + 2 ≤ length ws
    room = omega (arith, before_end (suc l) (omega arith), start_next l)

    term_allowed : (m r : ℕ) → m + suc r ≡ t → TermAllowed (job_of ws) l m
    term_allowed m r e = (A.link l h).term m (omega (arith, e))

    -- the cell of the term m, of which r + 1 are left
    cell_named : (r m least : ℕ) → m + suc r ≡ t → least ≤ count_at ws (S + 1 + 2 * m) → At (S + 1 + 2 * m) (Cell (link_at l (suc r) least))
        → At (S + 2 + 2 * m) (Coefficient (link_at l (suc r) (count_at ws (S + 1 + 2 * m) + 1)))
    unfolding step_of
    cell_named r m least e q w =
        let x = count_at ws (S + 1 + 2 * m) in
        stands_at (omega arith)
        (plain w (omega (arith, room, e)) refl refl (L.cell l m h (omega (arith, e))) (rw (lt-ltb x n (term_allowed m r e).cell, le-leb least x q)))

    -- its coefficient
    coefficient_on : (r m y : ℕ) → m + suc r ≡ t → 1 ≤ y → At (S + 2 + 2 * m) (Coefficient (link_at l (suc r) y)) → (g : Field)
        → ◌≡◌ {A = Step} (if ltb 1 (suc r) then Ok (Cell (link_at l (suc r - 1) y)) else Ok (Bound (link_at l (suc r) y))) (Ok g) → At (S + 1 + 2 * (m + 1)) g
    unfolding step_of
    coefficient_on r m y e up w g s =
        let c = word_at ws (S + 2 + 2 * m) in
        let T = term_allowed m r e in
        stands_at (omega arith)
        (on w (omega (arith, room, e)) refl (stored_of c) refl
        (rw (within_most 0 20 (stored_of c) (omega arith) (stored_small c 10 T.coefficient_small), ne_eqb (stored_of c) 0 (omega (arith, stored_some c T.coefficient_some)), ne_eqb y 0 (omega arith)) s))

    -- the terms from the term m on
    terms_on : (r m least : ℕ) → m + suc r ≡ t → least ≤ count_at ws (S + 1 + 2 * m) → At (S + 1 + 2 * m) (Cell (link_at l (suc r) least))
        → (after : ℕ) × At (S + 1 + 2 * t) (Bound (link_at l 1 after))
    terms_on zero m least e q w =
        let y = count_at ws (S + 1 + 2 * m) + 1 in
        (y, stands_at (omega (arith, e)) (coefficient_on 0 m y e (omega arith) (cell_named 0 m least e q w) (Bound (link_at l 1 y)) refl))
    terms_on (suc r) m least e q w =
        let x = count_at ws (S + 1 + 2 * m) in
        let y = x + 1 in
        let less : suc (suc r) - 1 ≡ suc r = omega arith in
        let next : At (S + 1 + 2 * (m + 1)) (Cell (link_at l (suc r) y)) =
        coefficient_on (suc r) m y e (omega arith) (cell_named (suc r) m least e q w) (Cell (link_at l (suc r) y)) (rw (lt-ltb 1 (suc (suc r)) (omega arith), less)) in
        let rises : x < count_at ws (S + 1 + 2 * suc m) = (term_allowed m (suc r) e).rising (omega (arith, e)) in
        terms_on r (m + 1) y (omega (arith, e)) (rw (add-one m) (omega (arith, rises))) next

    link_on : At S (links_from n links l) → At (start_of ws (suc l)) (links_from n links (l + 1))
    unfolding step_of
    link_on w =
        let K = A.link l h in
        let some : t ≡ suc (t - 1) = omega (arith, K.terms_some) in
        let a : At S (TermCount (link_at l 0 0)) = stands_as (rw (lt-ltb l links h)) w in
        let b : At (S + 1) (Cell (link_at l t 0)) = plain a (omega (arith, room)) refl refl (L.terms l h) (rw (within_most 1 4 t K.terms_some K.terms_few)) in
        let d : At (S + 1 + 2 * 0) (Cell (link_at l (suc (t - 1)) 0)) = stands_at (omega arith) (stands_as (ap (λ (k : ℕ). Cell (link_at l k 0)) some) b) in
        let f = terms_on (t - 1) 0 0 (omega (arith, some)) (omega arith) d in
        let x = word_at ws (S + 1 + 2 * t) in
        stands_at (omega (arith, start_next l))
        (on f.1 (omega (arith, room)) refl (stored_of x) refl (rw (within_most 0 2000000000 (stored_of x) (omega arith) (stored_small x 1000000000 K.bound))))

  links_on : (k l : ℕ) → l + k ≡ links → At (start_of ws l) (links_from n links l) → At (start_of ws links) (links_from n links links)
  links_on zero l e w = let q : l ≡ links = omega arith in rw q at w
  links_on (suc k) l e w =
      links_on k (l + 1) (omega arith) (stands_at (ap (start_of ws) (sym (add-one l))) (link_on l (omega arith) w))

  at_the_end : (at : ℕ) → (write_from [] (links_from n links links) at).outcome ≡ Ok at
  unfolding write_from
  at_the_end at = rw (le-ltb links links (omega arith))

  pub job_passes : (k : ℕ) × ((write_job ws).outcome ≡ Ok k)
  unfolding step_of rows_held
  job_passes =
      let room = head in
      let r = rows_of ws - 1 in
      let rows : rows_of ws ≡ suc r = omega (arith, A.order_less) in
      let left : n ≡ columns_of ws + r * columns_of ws = omega (arith, A.cells_are, ap (λ (k : ℕ). k * columns_of ws) rows, N.suc-mul r (columns_of ws)) in
      let c : At (H + 4 * n) (LinkCount n) =
      cells_on n (order_of ws) (across_of ws) 0 0 (columns_of ws) r few (omega arith) (omega arith) (columns_some L A) left
      (subst (λ (k : ℕ). order_of ws ≤ rows_held (job_of ws) 0 k) rows A.weights) first_cell in
      let d : At (start_of ws 0) (links_from n links 0) =
      stands_at (omega (arith, start_first)) (plain c (omega arith) refl refl L.links (rw (within_most 0 160 links (omega arith) A.links_few))) in
      let e = links_on links 0 (omega arith) d in
      (e.at, e.ends ∙ ap (λ (l : List ℤ). (write_from l (links_from n links links) e.at).outcome) (drop_of_length-le ws {i = start_of ws links} (omega (arith, L.ends))) ∙ at_the_end e.at)
