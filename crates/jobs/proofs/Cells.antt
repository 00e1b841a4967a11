-- The cells of a job that was read, one after another: each is allowed, and as many rows with enough positive weights follow as are still wanted.
use Prim.Native.Nat.{ℕ, zero, suc, ◌+◌, ◌*◌, ◌/◌, ◌≤◌, ◌<◌}
use mathlib.Core.Path.{◌≡◌, refl, ap}
use mathlib.Core.Bool.{Bool, true, false}
use mathlib.Core.List.{List}
use native.Mathlib.Nat as N
use native.Mathlib.Numerals.{add-one}
use native.Mathlib.Omega.{arith}
use borrow.Author.Tests.{ltb-true, ltb-false}
use lib.Dec.{ltb}
use lib.IntN.{ℤ, pos}
use lib.Signed.{◌≤ℤ◌}
use Rattle.std.specs.Prelude.{if◌then◌else◌}
use Rattle.numbers.proofs.Clash.{clash}
use Rattle.whole.proofs.Order.{pos_mono}
use Rattle.fields.specs.declared.cells.Cells.{Cells}
use Rattle.fields.specs.declared.Field.TheVariants.{Crude, Weight, Floor, Ceiling, LinkCount}
use Rattle.fields.specs.Table.{within, paired, weighed, after_ceiling, step_of}
use Rattle.fields.proofs.Rows.{within_both}
use Rattle.jobs.specs.Job.{Job}
use Rattle.jobs.specs.Words.{count_at, cells_of, head_words, columns_of, across_of, job_of}
use Rattle.jobs.specs.Allowed.{CellAllowed, positives, rows_held}
use Rattle.jobs.proofs.Taken.{At, at_place, at_field, Row, row, next_is, plain, here_on}
use Rattle.jobs.proofs.Weights as W
use Rattle.jobs.proofs.Weights.{lack_after, want_after, no_more, weighed_inside, weighed_end, full, lacks_less, row_held}
use Rattle.std.specs.Prelude.{Ok, Err}
use Rattle.refusals.specs.declared.Refusal.TheVariants.{FloorAbove, TooFewWeights}
use Rattle.fields.specs.declared.Barred.TheVariants.{Other}

box_of : {a b : ℤ} {x y : ℕ} → a ≡ pos x → b ≡ pos y → x ≤ y → a ≤ℤ b
box_of e q h = rw (e, q) (pos_mono h)

module _ (ws : List ℤ) where
  abbrev n : ℕ
  n = cells_of ws

  abbrev H : ℕ
  H = head_words ws

  abbrev J : Job
  J = job_of ws

  abbrev cell_at : (want lack column cell : ℕ) → Cells
  cell_at want lack column cell = W.cell_at n (columns_of ws) (across_of ws) want lack column cell

  -- after a ceiling: the next cell, or the links, where no more rows are wanted
  data After (want lack column cell p : ℕ) : Type 0 where
    another : cell + 1 < n → At ws (Crude (cell_at want lack column (cell + 1))) p → After want lack column cell p
    last : n ≤ cell + 1 → want ≤ 0 → At ws (LinkCount n) p → After want lack column cell p

  -- what a ceiling that lets the walk go on tells
  record High (want lack column cell lo p : ℕ) : Type 0 where
    pub box : lo ≤ count_at ws p
    pub after : After want lack column cell (p + 1)

  high : {p : ℕ} {test : ℕ → Bool} (want lack column cell lo : ℕ) → Row ws p test (after_ceiling (cell_at want lack column cell) lo)
      → High want lack column cell lo p
  high {p} want lack column cell lo r = go (ltb hi lo) (ltb (cell + 1) n) (ltb 0 (paired want lack / 8)) refl refl refl r.next
    where
      hi : ℕ
      hi = count_at ws p

      go : (a b d : Bool) → ltb hi lo ≡ a → ltb (cell + 1) n ≡ b → ltb 0 (paired want lack / 8) ≡ d
          → (if a then Err (Other (FloorAbove cell)) else if b then Ok (Crude (cell_at want lack column (cell + 1))) else if d then Err (Other TooFewWeights) else Ok (LinkCount n))
          ≡ Ok r.g → High want lack column cell lo p
      go true b d l m w e = clash (cc)
      go false true d l m w e =
          record { box = ltb-false hi lo l; after = another (ltb-true (cell + 1) n m) (at_field (next_is e) r.rest) }
      go false false true l m w e = clash (cc)
      go false false false l m w e =
          record { box = ltb-false hi lo l; after = last (ltb-false (cell + 1) n m) (omega (arith, ltb-false 0 (paired want lack / 8) w)) (at_field (next_is e) r.rest) }

  -- a cell that was read, and what is still wanted after it
  record OneCell (want lack column cell : ℕ) : Type 0 where
    pub allowed : CellAllowed J cell
    pub after : After want lack column cell (H + 4 * (cell + 1))

  after_at : {want lack column cell p q : ℕ} → p ≡ q → After want lack column cell p → After want lack column cell q
  after_at e (another h t) = another h (at_place _ e t)
  after_at e (last h w t) = last h w (at_place _ e t)

  -- the weight of the cell i
  abbrev weight_of : ℕ → ℕ
  weight_of i = count_at ws (H + 1 + 4 * i)

  one_cell : (c : Cells) (want lack column i : ℕ) → weighed c (weight_of i) ≡ cell_at want lack column i → At ws (Crude c) (H + 4 * i)
      → OneCell want lack column i
  unfolding step_of
  one_cell c want lack column i e t =
      let u = plain 0 1000000 (λ x. Weight c) refl refl (λ x. refl) t in
      let w = plain 0 1000 (λ x. Floor (weighed c x)) refl refl (λ x. refl) (at_place (H + 1 + 4 * i) (omega arith) u.rest) in
      let d = cell_at want lack column i in
      let f = at_field (ap Floor e) w.rest in
      let l = plain 0 1000000 (λ x. Ceiling d x) refl refl (λ x. refl) (at_place (H + 2 + 4 * i) (omega arith) f) in
      let lo = count_at ws (H + 2 + 4 * i) in
      let h = row (within 0 1000000) (after_ceiling d lo) refl refl (λ x. refl) (at_place (H + 3 + 4 * i) (omega arith) l.rest) in
      let k = high want lack column i lo h in
      record {
        allowed = record {
          crude = u.range;
          weight = w.range;
          floor = l.range;
          ceiling = record { natural = h.counted; small = (within_both 0 1000000 (count_at ws (H + 3 + 4 * i)) h.ok).1 };
          box = box_of l.range.natural h.counted k.box;
        };
        after = after_at (omega arith) k.after;
      }

  -- the cells from the cell i on: k of its row, then r rows
  pub record AllCells (want lack i k r : ℕ) : Type 0 where
    pub each : (j : ℕ) → i ≤ j → j < n → CellAllowed J j
    pub weights : want ≤ full lack (positives J i k) + rows_held J (i + k) r
    pub rest : At ws (LinkCount n) (H + 4 * n)

  -- what a weight counts of its row
  counted : (lack i k : ℕ) → CellAllowed J i → full (lack_after lack (weight_of i)) (positives J (i + 1) k) ≡ full lack (positives J i (suc k))
  unfolding positives
  counted lack i k a = rw (a.weight.natural, add-one i) (lacks_less lack (weight_of i) (positives J (suc i) k))

  ended : (lack i : ℕ) → CellAllowed J i → full (lack_after lack (weight_of i)) 0 ≡ full lack (positives J i 1)
  unfolding positives
  ended lack i a = counted lack i 0 a

  -- one cell, where those of its row after it are known
  in_row : (want lack column i k r : ℕ) → i + 1 < n → OneCell want (lack_after lack (weight_of i)) (column + 1) i
      → (At ws (Crude (cell_at want (lack_after lack (weight_of i)) (column + 1) (i + 1))) (H + 4 * (i + 1)) → AllCells want (lack_after lack (weight_of i)) (i + 1) (suc k) r)
      → AllCells want lack i (suc (suc k)) r
  in_row want lack column i k r more o later = go o.after
    where
      go : After want (lack_after lack (weight_of i)) (column + 1) i (H + 4 * (i + 1)) → AllCells want lack i (suc (suc k)) r
      go (another h t) =
          let l = later t in
          let e : i + suc (suc k) ≡ i + 1 + suc k = omega arith in
          record { each = here_on o.allowed l.each; weights = rw (← counted lack i (suc k) o.allowed, e) l.weights; rest = l.rest }
      go (last h w t) = absurd (omega arith)

  -- the last cell of a row, where the rows after it are known
  row_end : (want lack i r : ℕ) → i + 1 < n → OneCell (want_after want (lack_after lack (weight_of i))) (across_of ws) 0 i
      → (At ws (Crude (cell_at (want_after want (lack_after lack (weight_of i))) (across_of ws) 0 (i + 1))) (H + 4 * (i + 1))
      → AllCells (want_after want (lack_after lack (weight_of i))) (across_of ws) (i + 1) (columns_of ws) r)
      → AllCells want lack i 1 (suc r)
  unfolding rows_held
  row_end want lack i r more o later = go o.after
    where
      go : After (want_after want (lack_after lack (weight_of i))) (across_of ws) 0 i (H + 4 * (i + 1)) → AllCells want lack i 1 (suc r)
      go (another h t) =
          let l = later t in
          record {
            each = here_on o.allowed l.each;
            weights = rw (← ended lack i o.allowed) (row_held want (lack_after lack (weight_of i)) (rows_held J (i + 1) (suc r)) l.weights);
            rest = l.rest;
          }
      go (last h w t) = absurd (omega arith)

  -- the last cell
  the_end : (want lack i : ℕ) → i + 1 ≡ n → OneCell (want_after want (lack_after lack (weight_of i))) (across_of ws) 0 i → AllCells want lack i 1 0
  unfolding rows_held
  the_end want lack i e o = go o.after
    where
      go : After (want_after want (lack_after lack (weight_of i))) (across_of ws) 0 i (H + 4 * (i + 1)) → AllCells want lack i 1 0
      go (another h t) = absurd (omega arith)
      go (last h w t) = record {
        each = here_on o.allowed (λ j a b. absurd (omega arith));
        weights = rw (← ended lack i o.allowed) (row_held want (lack_after lack (weight_of i)) 0 w);
        rest = at_place (H + 4 * n) (omega arith) t;
      }

  -- what the order across is, and what a row lacks, leaves room for both in one number
  module _ (few : across_of ws < 8) where
    inside : (want lack column i : ℕ) → lack < 8 → column + 1 < columns_of ws → At ws (Crude (cell_at want lack column i)) (H + 4 * i)
        → OneCell want (lack_after lack (weight_of i)) (column + 1) i
    inside want lack column i small h t =
        one_cell (cell_at want lack column i) want (lack_after lack (weight_of i)) (column + 1) i
        (weighed_inside n (columns_of ws) (across_of ws) want lack column i (weight_of i) few small h) t

    at_end : (want lack column i : ℕ) → lack < 8 → columns_of ws ≤ column + 1 → At ws (Crude (cell_at want lack column i)) (H + 4 * i)
        → OneCell (want_after want (lack_after lack (weight_of i))) (across_of ws) 0 i
    at_end want lack column i small h t =
        one_cell (cell_at want lack column i) (want_after want (lack_after lack (weight_of i))) (across_of ws) 0 i
        (weighed_end n (columns_of ws) (across_of ws) want lack column i (weight_of i) few small h) t

    pub all_cells : (m want lack column i k r : ℕ) → lack < 8 → i + m ≡ n → column + k ≡ columns_of ws → 1 ≤ k → m ≡ k + r * columns_of ws
        → At ws (Crude (cell_at want lack column i)) (H + 4 * i) → AllCells want lack i k r
    all_cells zero want lack column i k r small e c h q t = absurd (omega (arith, q))
    all_cells (suc m) want lack column i zero r small e c h q t = absurd (omega arith)
    all_cells (suc m) want lack column i (suc zero) zero small e c h q t =
        let z = N.zero-mul (columns_of ws) in
        the_end want lack i (omega (arith, q, z)) (at_end want lack column i small (omega arith) t)
    all_cells (suc m) want lack column i (suc zero) (suc r) small e c h q t =
        let z = N.suc-mul r (columns_of ws) in
        row_end want lack i r (omega (arith, q, z)) (at_end want lack column i small (omega arith) t)
        (all_cells m (want_after want (lack_after lack (weight_of i))) (across_of ws) 0 (i + 1) (columns_of ws) r few (omega arith) (omega arith) (omega arith) (omega (arith, q, z)))
    all_cells (suc m) want lack column i (suc (suc k)) r small e c h q t =
        in_row want lack column i k r (omega (arith, q)) (inside want lack column i small (omega arith) t)
        (all_cells m want (lack_after lack (weight_of i)) (column + 1) (i + 1) (suc k) r (omega (arith, no_more lack (weight_of i))) (omega arith) (omega arith) (omega arith) (omega (arith, q)))
