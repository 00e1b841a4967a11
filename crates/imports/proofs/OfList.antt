-- The job of a list's words, field by field.
use Prim.Native.Nat.{ℕ, zero, suc, ◌+◌, ◌-◌, ◌*◌, ◌<◌}
use mathlib.Core.Path.{◌≡◌, refl, sym, ap, ap₂, ◌∙◌}
use mathlib.Core.Bool.{Bool, true, false}
use mathlib.Core.List.{List, [], ◌∷◌, ◌++◌, append_assoc}
use native.Mathlib.Omega.{arith}
use borrow.Author.Tests.{leb-true, ne_eqb}
use lib.Dec.{leb}
use lib.IntN.{ℤ, pos, negsuc, nat_abs}
use lib.ListN.{length, get_or, length-append, get_or-append}
use lib.Seq.{get_or-append-add}
use Rattle.std.specs.Prelude.{if◌then◌else◌}
use Rattle.fields.specs.Table.{order_used, grid_field}
use Rattle.jobs.specs.Job.{Job}
use Rattle.jobs.specs.Words.{word_at, count_at, cells_of as cellCount, is_grid, head_words, rows_of, columns_of, order_of, across_of, second_of, job_of}
use Rattle.imports.specs.declared.Given.{Given}
use Rattle.imports.specs.Imports.{crude_of, weight_of, word_upto, largest_word, largest_order, cell_of, cells_of, head_of, words_of}
use Rattle.imports.proofs.Made.{cells_cons, cells_length, cell_length, head_length, words_parts, words_length}

-- what the words of an import say of its job, whatever the caller gave
pub record ByWords (g : Given) (es ds : List ℕ) (j : Job) : Type 0 where
  pub society : word_at (words_of g es ds) 0 ≡ word_upto largest_word g.society
  pub number : word_at (words_of g es ds) 1 ≡ word_upto largest_word g.job
  pub cells : j.cells ≡ length es
  pub natural : word_at (words_of g es ds) 2 ≡ pos j.cells
  pub grid : j.grid ≡ false
  pub rows : j.rows ≡ length es
  pub columns : j.columns ≡ 1
  pub field : word_at (words_of g es ds) 3 ≡ word_upto largest_order g.order
  pub order : j.order ≡ order_used (nat_abs (word_upto largest_order g.order))
  pub across : j.across ≡ 1
  pub second : j.second ≡ pos 0
  pub constant : j.constant ≡ word_upto largest_word g.constant
  pub tolerance : j.tolerance ≡ word_upto largest_word g.tolerance
  pub crude : (i : ℕ) → i < length es → j.crude i ≡ pos (crude_of (get_or es i 0) (get_or ds i 0))
  pub weight : (i : ℕ) → i < length es → j.weight i ≡ pos (weight_of g.divisor (get_or es i 0))
  pub floor : (i : ℕ) → i < length es → j.floor i ≡ word_upto largest_word g.floor
  pub ceiling : (i : ℕ) → i < length es → j.ceiling i ≡ word_upto largest_word g.ceiling
  pub last : word_at (words_of g es ds) (head_words (words_of g es ds) + 4 * cellCount (words_of g es ds)) ≡ pos 0
  pub links : j.links ≡ 0

-- the word m of the cell i
cell_at : (g : Given) (es ds : List ℕ) (tail : List ℤ) (i m : ℕ) → length es ≡ length ds → i < length es → m < 4
    → get_or (cells_of g es ds ++ tail) (m + 4 * i) (pos 0) ≡ get_or (cell_of g (get_or es i 0) (get_or ds i 0)) m (pos 0)
cell_at g [] ds tail i m s h l = absurd (omega arith)
cell_at g (e ∷ es) [] tail i m s h l = absurd (omega arith)
cell_at g (e ∷ es) (d ∷ ds) tail zero m s h l =
    let at : m + 4 * 0 ≡ m = omega arith in
    let long = length-append (cell_of g e d) (cells_of g es ds) in
    ap₂ (λ (ws : List ℤ) (n : ℕ). get_or (ws ++ tail) n (pos 0)) (cells_cons g e d es ds) at
    ∙ get_or-append (cell_of g e d ++ cells_of g es ds) tail (pos 0) m (omega (arith, cell_length g e d))
    ∙ get_or-append (cell_of g e d) (cells_of g es ds) (pos 0) m (omega (arith, cell_length g e d))
cell_at g (e ∷ es) (d ∷ ds) tail (suc i) m s h l =
    let at : m + 4 * suc i ≡ length (cell_of g e d) + (m + 4 * i) = omega (arith, cell_length g e d) in
    ap₂ (λ (ws : List ℤ) (n : ℕ). get_or ws n (pos 0)) (ap (λ (ws : List ℤ). ws ++ tail) (cells_cons g e d es ds) ∙ append_assoc (cell_of g e d) (cells_of g es ds) tail) at
    ∙ get_or-append-add (cell_of g e d) (cells_of g es ds ++ tail) (m + 4 * i) (pos 0)
    ∙ cell_at g es ds tail i m (omega arith) (omega arith) l

module _ (g : Given) (es ds : List ℕ) (s : length es ≡ length ds) where
  -- a word after the first six
  later_word : (n : ℕ) → word_at (words_of g es ds) (6 + n) ≡ get_or (cells_of g es ds ++ (pos 0 ∷ [])) n (pos 0)
  later_word n =
      ap (λ (ws : List ℤ). get_or ws (6 + n) (pos 0)) (words_parts g es ds)
      ∙ ap (λ (k : ℕ). get_or (head_of g (length es) ++ (cells_of g es ds ++ (pos 0 ∷ []))) k (pos 0)) (at (length (head_of g (length es))) (head_length g (length es)))
      ∙ get_or-append-add (head_of g (length es)) (cells_of g es ds ++ (pos 0 ∷ [])) n (pos 0)
    where
      at : (k : ℕ) → k ≡ 6 → 6 + n ≡ k + n
      at k e = omega arith

  cell_word : (m i k : ℕ) → k ≡ 6 + (m + 4 * i) → i < length es → m < 4 → word_at (words_of g es ds) k ≡ get_or (cell_of g (get_or es i 0) (get_or ds i 0)) m (pos 0)
  cell_word m i k e h l = ap (word_at (words_of g es ds)) e ∙ later_word (m + 4 * i) ∙ cell_at g es ds (pos 0 ∷ []) i m s h l

  -- the words before the first cell
  society_word : word_at (words_of g es ds) 0 ≡ word_upto largest_word g.society
  unfolding words_of head_of
  society_word = refl

  job_word : word_at (words_of g es ds) 1 ≡ word_upto largest_word g.job
  unfolding words_of head_of
  job_word = refl

  count_word : word_at (words_of g es ds) 2 ≡ pos (length es)
  unfolding words_of head_of
  count_word = refl

  order_word : word_at (words_of g es ds) 3 ≡ word_upto largest_order g.order
  unfolding words_of head_of
  order_word = refl

  constant_four : word_at (words_of g es ds) 4 ≡ word_upto largest_word g.constant
  unfolding words_of head_of
  constant_four = refl

  tolerance_five : word_at (words_of g es ds) 5 ≡ word_upto largest_word g.tolerance
  unfolding words_of head_of
  tolerance_five = refl

  links_none : word_at (words_of g es ds) (6 + 4 * length es) ≡ pos 0
  links_none =
      let at : 4 * length es ≡ length (cells_of g es ds) + 0 = omega (arith, cells_length g es ds s) in
      later_word (4 * length es)
      ∙ ap (λ (n : ℕ). get_or (cells_of g es ds ++ (pos 0 ∷ [])) n (pos 0)) at
      ∙ get_or-append-add (cells_of g es ds) (pos 0 ∷ []) 0 (pos 0)

  module _ (exposure deaths : ℕ) where
    word_crude : get_or (cell_of g exposure deaths) 0 (pos 0) ≡ pos (crude_of exposure deaths)
    unfolding cell_of
    word_crude = refl

    word_weight : get_or (cell_of g exposure deaths) 1 (pos 0) ≡ pos (weight_of g.divisor exposure)
    unfolding cell_of
    word_weight = refl

    word_floor : get_or (cell_of g exposure deaths) 2 (pos 0) ≡ word_upto largest_word g.floor
    unfolding cell_of
    word_floor = refl

    word_ceiling : get_or (cell_of g exposure deaths) 3 (pos 0) ≡ word_upto largest_word g.ceiling
    unfolding cell_of
    word_ceiling = refl

  -- the order field announces no grid
  no_grid : is_grid (words_of g es ds) ≡ false
  no_grid = ne_eqb (count_at (words_of g es ds) 3) grid_field (λ e. go (leb g.order largest_order) refl (sym (ap nat_abs order_word) ∙ e))
    where
      go : (t : Bool) → leb g.order largest_order ≡ t → nat_abs (if t then pos g.order else negsuc 0) ≡ grid_field → ⊥
      go true q e = omega (arith, leb-true g.order largest_order q, e)
      go false q e = omega (arith, e)

  head_six : head_words (words_of g es ds) ≡ 6
  unfolding head_words
  head_six = rw no_grid

  -- the job's fields, by its words
  pub of_list : ByWords g es ds (job_of (words_of g es ds))
  unfolding rows_of columns_of order_of across_of second_of
  of_list =
      let H = head_words (words_of g es ds) in
      record {
        society = society_word;
        number = job_word;
        cells = ap nat_abs count_word;
        natural = count_word ∙ ap pos (sym (ap nat_abs count_word));
        grid = no_grid;
        rows = rw no_grid (ap nat_abs count_word);
        columns = rw no_grid;
        field = order_word;
        order = rw no_grid (ap (λ (z : ℤ). order_used (nat_abs z)) order_word);
        across = rw no_grid;
        second = rw no_grid;
        constant = ap (λ (n : ℕ). word_at (words_of g es ds) (n - 2)) head_six ∙ constant_four;
        tolerance = ap (λ (n : ℕ). word_at (words_of g es ds) (n - 1)) head_six ∙ tolerance_five;
        crude = λ i h. cell_word 0 i (H + 4 * i) (omega (arith, head_six)) h (omega arith) ∙ word_crude (get_or es i 0) (get_or ds i 0);
        weight = λ i h. cell_word 1 i (H + 1 + 4 * i) (omega (arith, head_six)) h (omega arith) ∙ word_weight (get_or es i 0) (get_or ds i 0);
        floor = λ i h. cell_word 2 i (H + 2 + 4 * i) (omega (arith, head_six)) h (omega arith) ∙ word_floor (get_or es i 0) (get_or ds i 0);
        ceiling = λ i h. cell_word 3 i (H + 3 + 4 * i) (omega (arith, head_six)) h (omega arith) ∙ word_ceiling (get_or es i 0) (get_or ds i 0);
        last = ap₂ (λ (head n : ℕ). word_at (words_of g es ds) (head + 4 * n)) head_six (ap nat_abs count_word) ∙ links_none;
        links = ap nat_abs (ap₂ (λ (head n : ℕ). word_at (words_of g es ds) (head + 4 * n)) head_six (ap nat_abs count_word) ∙ links_none);
      }

  pub words_end : suc (head_words (words_of g es ds)) + 4 * cellCount (words_of g es ds) ≡ length (words_of g es ds)
  words_end = omega (arith, head_six, ap nat_abs count_word, words_length g es ds s)
