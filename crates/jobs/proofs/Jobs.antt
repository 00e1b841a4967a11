-- A walk from the society to the end is an allowed job, and its words lie as the pack's numbers do.
use Prim.Native.Nat.{ℕ, zero, suc, ◌+◌, ◌-◌, ◌*◌, ◌/◌, ◌≤◌, ◌<◌}
use mathlib.Core.Path.{◌≡◌, refl, sym, ap, subst}
use mathlib.Core.Bool.{Bool, true, false}
use mathlib.Core.List.{List}
use native.Mathlib.Nat as N
use native.Mathlib.Omega.{arith}
use borrow.Author.Tests.{leb-true}
use lib.Dec.{leb}
use lib.IntN.{ℤ, nat_abs}
use Rattle.std.specs.Prelude.{if◌then◌else◌}
use Rattle.numbers.proofs.Clash.{clash}
use Rattle.fields.specs.declared.Field.{Field}
use Rattle.fields.specs.declared.Field.TheVariants.{Society, Job, Count, Order, Rows, Columns, OrderDown, OrderAcross, SecondConstant, Constant, Tolerance, Crude, LinkCount}
use Rattle.fields.specs.Table.{rule, order_used, shaped, are_columns, is_order, after_order, links_from, step_of}
use Rattle.fields.proofs.Rows.{kept, OrderTold, order_told, columns_told}
use Rattle.jobs.specs.Words.{word_at, count_at, cells_of, is_grid, head_words, rows_of, columns_of, order_of, across_of, second_of, links_of, start_of, job_of}
use Rattle.jobs.specs.Allowed.{Upto, Counted, CellAllowed, rows_held, ShapeAllowed, Allowed, GridLaid, Laid}
use Rattle.jobs.proofs.Steps.{Steps}
use Rattle.jobs.proofs.Shapes.{shape_at, rows_line, columns_line, order_line, across_line, second_line, shape_line, rows_grid, columns_grid, order_grid, across_grid, second_grid, with_columns, with_down, with_across, shape_grid}
use Rattle.jobs.proofs.Places.{head_of_grid, head_of_line, head_some, start_zero}
use Rattle.jobs.proofs.Taken.{At, at_first, at_place, at_field, row, next_is, plain}
use Rattle.jobs.proofs.Cells.{all_cells}
use Rattle.jobs.proofs.Links.{AllLinks, all_links}
use Rattle.std.specs.Prelude.{Ok}

-- the link count and the links
record Linked (ws : List ℤ) : Type 0 where
  pub range : Upto 160 (word_at ws (head_words ws + 4 * cells_of ws))
  pub all : AllLinks ws (links_of ws) 0

linked : (ws : List ℤ) → At ws (LinkCount (cells_of ws)) (head_words ws + 4 * cells_of ws) → Linked ws
unfolding step_of
linked ws t =
    let k = plain 0 160 (λ x. links_from (cells_of ws) x 0) refl refl (λ x. refl) t in
    let first = at_place (start_of ws 0) (omega (arith, start_zero ws)) k.rest in
    record { range = k.range; all = all_links ws (links_of ws) 0 (links_of ws) (omega arith) first }

-- the words of the shape, from the order field up to k
module _ (ws : List ℤ) where
  record ShapeRead : Type 0 where
    pub counted : Counted ws 3
    pub laid : is_grid ws ≡ true → GridLaid ws
    pub shape : ShapeAllowed (job_of ws) (is_grid ws)
    pub cells_are : rows_of ws * columns_of ws ≡ cells_of ws
    pub order_some : 1 ≤ order_of ws
    pub order_few : order_of ws ≤ 4
    pub order_less : order_of ws < rows_of ws
    pub across_some : 1 ≤ across_of ws
    pub across_few : across_of ws ≤ 4
    pub second : Upto 999 (second_of ws)
    pub rest : At ws (Constant (shape_at ws) (nat_abs (second_of ws))) (head_words ws - 2)

  -- a job that is no grid
  module _ (l : is_grid ws ≡ false) where
    a_line : Counted ws 3 → OrderTold (cells_of ws) (order_used (count_at ws 3)) → At ws (Constant (shaped (cells_of ws) 1 (order_used (count_at ws 3)) 1) 0) 4 → ShapeRead
    a_line c o t =
        record {
          counted = c;
          laid = λ e. clash (cc);
          shape = rw l (record { columns_one = columns_line ws l; across_one = across_line ws l; second_none = second_line ws l });
          cells_are = omega (arith, ap (λ (k : ℕ). rows_of ws * k) (columns_line ws l), rows_line ws l);
          order_some = rw (order_line ws l) o.some;
          order_few = rw (order_line ws l) o.few;
          order_less = rw (order_line ws l, rows_line ws l) o.less;
          across_some = omega (arith, across_line ws l);
          across_few = omega (arith, across_line ws l);
          second = rw (second_line ws l) (record { natural = refl; small = omega arith });
          rest = at_field (λ i. Constant (shape_line ws l i) (nat_abs (sym (second_line ws l) i))) (at_place (head_words ws - 2) (omega (arith, head_of_line ws l)) t);
        }

  -- a grid
  module _ (g : is_grid ws ≡ true) where
    a_grid : Counted ws 3 → At ws (Rows (cells_of ws)) 4 → ShapeRead
    unfolding step_of
    a_grid c t =
        let n = cells_of ws in
        let r = row (leb 2) (λ x. Ok (Columns n x)) refl refl (λ x. refl) t in
        let R = count_at ws 4 in
        let k = row (are_columns n R) (λ x. Ok (OrderDown (shaped n x 0 0) R)) refl refl (λ x. refl) (at_field (next_is r.next) r.rest) in
        let p = with_columns ws g in
        let d = row (is_order R) (λ x. Ok (OrderAcross (shaped n (p.row / 8) x 0))) refl refl (λ x. refl) (at_field (next_is k.next) k.rest) in
        let q = with_down ws g in
        let a = row (is_order (q.row / 8)) (λ x. Ok (SecondConstant (shaped n (q.row / 8) (q.want / 8) x))) refl refl (λ x. refl) (at_field (next_is d.next) d.rest) in
        let m = plain 1 999 (λ x. Constant (with_across ws g) x) refl refl (λ x. refl) (at_field (next_is a.next) a.rest) in
        let columns = columns_told n R (count_at ws 5) k.ok in
        let down = order_told R (count_at ws 6) d.ok in
        let across = order_told (q.row / 8) (count_at ws 7) a.ok in
        record {
          counted = c;
          laid = λ e. record { rows = r.counted; columns = k.counted; down = d.counted; across = a.counted };
          shape = rw g (record {
            rows_some = rw (rows_grid ws g) (leb-true 2 (count_at ws 4) r.ok);
            columns_some = rw (columns_grid ws g) columns.some;
            across_less = rw (across_grid ws g, columns_grid ws g) (omega (arith, across.less));
            second_some = rw (second_grid ws g) m.some;
          });
          cells_are = rw (rows_grid ws g, columns_grid ws g) columns.product;
          order_some = rw (order_grid ws g) down.some;
          order_few = rw (order_grid ws g) down.few;
          order_less = rw (order_grid ws g, rows_grid ws g) down.less;
          across_some = rw (across_grid ws g) across.some;
          across_few = rw (across_grid ws g) across.few;
          second = rw (second_grid ws g) m.range;
          rest = at_field (λ i. Constant (shape_grid ws g i) (nat_abs (sym (second_grid ws g) i))) (at_place (head_words ws - 2) (omega (arith, head_of_grid ws g)) m.rest);
        }

  shape_read : At ws (Order (cells_of ws)) 3 → ShapeRead
  unfolding step_of
  shape_read t = let o = row (λ x. true) (after_order (cells_of ws)) refl refl (λ x. refl) t in go o.counted (is_grid ws) refl o.next o.rest
    where
      z : ℕ
      z = order_used (count_at ws 3)

      go : {g : Field} → Counted ws 3 → (b : Bool) → is_grid ws ≡ b
          → (if b then Ok (Rows (cells_of ws)) else rule (is_order (cells_of ws) z) (Ok (Constant (shaped (cells_of ws) 1 z 1) 0))) ≡ Ok g
          → At ws g 4 → ShapeRead
      go c true e n t = a_grid e c (at_field (next_is n) t)
      go c false e n t = let r = kept n in a_line e c (order_told (cells_of ws) z r.ok) (at_field (next_is r.next) t)

-- the words from k up to the link count
record Ordered (ws : List ℤ) : Type 0 where
  pub constant : Upto 1000 (job_of ws).constant
  pub constant_some : 1 ≤ nat_abs (job_of ws).constant
  pub constants : nat_abs (job_of ws).constant + nat_abs (second_of ws) ≤ 1000
  pub tolerance : Upto 1000000000000000 (job_of ws).tolerance
  pub cell : (i : ℕ) → i < cells_of ws → CellAllowed (job_of ws) i
  pub weights : order_of ws ≤ rows_held (job_of ws) 0 (rows_of ws)
  pub rest : At ws (LinkCount (cells_of ws)) (head_words ws + 4 * cells_of ws)

ordered : (ws : List ℤ) → 2 ≤ cells_of ws → ShapeRead ws → Ordered ws
unfolding step_of rows_held
ordered ws some s =
    let H = head_some ws in
    let k = plain 1 (1000 - nat_abs (second_of ws)) (λ x. Tolerance (shape_at ws)) refl refl (λ x. refl) s.rest in
    let m = plain 0 1000000000000000 (λ x. Crude (shape_at ws)) refl refl (λ x. refl) (at_place (head_words ws - 1) (omega arith) k.rest) in
    let r = rows_of ws - 1 in
    let rows : rows_of ws ≡ suc r = omega (arith, s.order_less) in
    let left : cells_of ws ≡ columns_of ws + r * columns_of ws = omega (arith, s.cells_are, ap (λ (k : ℕ). k * columns_of ws) rows, N.suc-mul r (columns_of ws)) in
    let few : across_of ws < 8 = omega (arith, s.across_few) in
    let a = all_cells ws few (cells_of ws) (order_of ws) (across_of ws) 0 0 (columns_of ws) r few (omega arith) (omega arith) (some_column (columns_of ws) r left) left (at_place (head_words ws + 4 * 0) (omega arith) m.rest) in
    let start : 0 + columns_of ws ≡ columns_of ws = omega arith in
    record {
      constant = record { natural = k.range.natural; small = omega (arith, k.range.small) };
      constant_some = k.some;
      constants = omega (arith, k.range.small, k.some);
      tolerance = m.range;
      cell = λ i h. a.each i (omega arith) h;
      weights = subst (λ (h : ℕ). order_of ws ≤ rows_held (job_of ws) 0 h) (sym rows) a.weights;
      rest = a.rest;
    }
  where
    some_column : (c r : ℕ) → cells_of ws ≡ c + r * c → 1 ≤ c
    some_column zero r e = absurd (omega (arith, some, e, N.mul-zero r))
    some_column (suc c) r e = omega arith

pub record JobRead (ws : List ℤ) : Type 0 where
  pub allowed : Allowed (job_of ws)
  pub laid : Laid ws

pub job_read : {ws : List ℤ} → Steps Society ws → JobRead ws
unfolding step_of
job_read {ws} t =
    let s = plain 0 7 (λ x. Job) refl refl (λ x. refl) (at_first t) in
    let j = plain 0 4294967295 (λ x. Count) refl refl (λ x. refl) s.rest in
    let n = plain 2 120 (λ x. Order x) refl refl (λ x. refl) j.rest in
    let h = shape_read ws n.rest in
    let o = ordered ws n.some h in
    let l = linked ws o.rest in
    record {
      allowed = record {
        society = s.range.small;
        number = j.range.small;
        cells_some = n.some;
        cells_few = n.range.small;
        shape = h.shape;
        cells_are = h.cells_are;
        order_some = h.order_some;
        order_few = h.order_few;
        order_less = h.order_less;
        across_some = h.across_some;
        across_few = h.across_few;
        second = h.second;
        constant = o.constant;
        constant_some = o.constant_some;
        constants = o.constants;
        tolerance = o.tolerance;
        cell = o.cell;
        weights = o.weights;
        links_few = l.range.small;
        link = λ i h. (l.all.each i (omega arith) h).allowed;
      };
      laid = record {
        society = s.range.natural;
        number = j.range.natural;
        cells = n.range.natural;
        order = h.counted;
        grid = h.laid;
        links = l.range.natural;
        terms = λ i h. (l.all.each i (omega arith) h).terms;
        cell = λ i m h b. (l.all.each i (omega arith) h).cell m b;
        ends = l.all.ends;
      };
    }
