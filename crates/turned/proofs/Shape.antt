-- What a job's head says is said of the turned words too: they have the same head.
use Prim.Native.Nat.{ℕ, ◌-◌, ◌<◌}
use mathlib.Core.Path.{◌≡◌, refl, sym, ap, ◌∙◌}
use mathlib.Core.Bool.{Bool, true, false}
use mathlib.Core.List.{List}
use native.Mathlib.Nat as N
use native.Mathlib.Omega.{arith}
use lib.IntN.{ℤ, pos, nat_abs}
use Rattle.std.specs.Prelude.{if◌then◌else◌}
use Rattle.fields.specs.Table.{order_used}
use Rattle.jobs.specs.Words.{word_at, count_at, head_words, is_grid, rows_of, columns_of, order_of, across_of, second_of, job_of}
use Rattle.jobs.specs.Allowed.{Laid, Counted, GridLaid}
use Rattle.jobs.proofs.Places.{head_some, head_of_grid}
use Rattle.turned.specs.Words.{turned_words}
use Rattle.turned.proofs.Words.{same_word, same_cells, same_grid, same_head}

module _ (ws : List ℤ) (L : Laid ws) (τ : ℕ → ℕ) where
  abbrev ws' : List ℤ
  ws' = turned_words τ ws

  pub first_words : (p : ℕ) → p < 6 → word_at ws' p ≡ word_at ws p
  first_words p h = same_word ws L τ p (N.lt_of_lt_of_le h (head_some ws))

  pub grid_words : is_grid ws ≡ true → (p : ℕ) → p < 11 → word_at ws' p ≡ word_at ws p
  grid_words e p h = same_word ws L τ p (omega (arith, head_of_grid ws e))

  -- what stands in a grid's head, or else what a job has that is no grid
  either : {X : Type 0} {a b x y : X} → (is_grid ws ≡ true → a ≡ x) → b ≡ y → (if is_grid ws' then a else b) ≡ (if is_grid ws then x else y)
  either {X} {a} {b} {x} {y} p q = ap (λ (t : Bool). if t then a else b) (same_grid ws L τ) ∙ go (is_grid ws) p
    where
      go : (t : Bool) → (t ≡ true → a ≡ x) → (if t then a else b) ≡ (if t then x else y)
      go true p = p refl
      go false p = q

  counted_there : is_grid ws ≡ true → (p : ℕ) → p < 11 → count_at ws' p ≡ count_at ws p
  counted_there e p h = ap nat_abs (grid_words e p h)

  pub same_rows : rows_of ws' ≡ rows_of ws
  unfolding rows_of
  same_rows = either (λ e. counted_there e 4 (omega arith)) (same_cells ws L τ)

  pub same_columns : columns_of ws' ≡ columns_of ws
  unfolding columns_of
  same_columns = either (λ e. counted_there e 5 (omega arith)) refl

  pub same_order : order_of ws' ≡ order_of ws
  unfolding order_of
  same_order = either (λ e. counted_there e 6 (omega arith)) (ap (λ (z : ℤ). order_used (nat_abs z)) (first_words 3 (omega arith)))

  pub same_across : across_of ws' ≡ across_of ws
  unfolding across_of
  same_across = either (λ e. counted_there e 7 (omega arith)) refl

  pub same_second : second_of ws' ≡ second_of ws
  unfolding second_of
  same_second = either (λ e. grid_words e 8 (omega arith)) refl

  -- the last two words of the head
  from_end : (k : ℕ) → 0 < k → k < 6 → word_at ws' (head_words ws' - k) ≡ word_at ws (head_words ws - k)
  from_end k p h =
      ap (λ (m : ℕ). word_at ws' (m - k)) (same_head ws L τ) ∙ same_word ws L τ (head_words ws - k) (omega (arith, head_some ws))

  pub same_constant : (job_of ws').constant ≡ (job_of ws).constant
  same_constant = from_end 2 (omega arith) (omega arith)

  pub same_tolerance : (job_of ws').tolerance ≡ (job_of ws).tolerance
  same_tolerance = from_end 1 (omega arith) (omega arith)

  -- ---- words that count

  counted_alike : (p : ℕ) → word_at ws' p ≡ word_at ws p → Counted ws p → Counted ws' p
  counted_alike p e c = e ∙ c ∙ ap (λ (z : ℤ). pos (nat_abs z)) (sym e)

  pub counted_first : (p : ℕ) → p < 6 → Counted ws p → Counted ws' p
  counted_first p h = counted_alike p (first_words p h)

  pub grid_laid : is_grid ws' ≡ true → GridLaid ws'
  grid_laid e =
      let g : is_grid ws ≡ true = sym (same_grid ws L τ) ∙ e in
      let w = grid_words g in
      record {
        rows = counted_alike 4 (w 4 (omega arith)) (L.grid g).rows;
        columns = counted_alike 5 (w 5 (omega arith)) (L.grid g).columns;
        down = counted_alike 6 (w 6 (omega arith)) (L.grid g).down;
        across = counted_alike 7 (w 7 (omega arith)) (L.grid g).across;
      }
