-- The pack's own tests pass exactly if the job of the list's words is allowed.
use Prim.Native.Nat.{ℕ, suc, ◌+◌, ◌*◌, ◌≤◌, ◌<◌}
use mathlib.Core.Path.{◌≡◌, refl, sym, ap, ap₂, ◌∙◌}
use mathlib.Core.Bool.{Bool, true, false, true≢false}
use mathlib.Core.List.{List, [], ◌∷◌}
use native.Mathlib.Nat.{add-zero}
use native.Mathlib.Omega.{arith}
use borrow.Author.Tests.{le-leb, leb-true, eqb-false}
use lib.Dec.{leb, ltb, eqb}
use lib.IntN.{ℤ, pos, negsuc, nat_abs}
use lib.ListN.{length, get_or}
use lib.Signed.{◌≤ℤ◌}
use Rattle.std.specs.Prelude.{if◌then◌else◌}
use Rattle.numbers.proofs.Clash.{clash}
use Rattle.whole.proofs.Order.{pos_mono, pos_le}
use Rattle.fields.specs.Table.{house_order, order_used}
use Rattle.jobs.specs.Job.{Job}
use Rattle.jobs.specs.Words.{count_at, is_grid, start_of, links_of, job_of}
use Rattle.jobs.specs.Allowed.{Upto, CellAllowed, ShapeAllowed, positives, rows_held, Allowed, Laid}
use Rattle.lists.specs.Lines.{most_lines}
use Rattle.imports.specs.declared.Given.{Given}
use Rattle.imports.specs.Imports.{weight_of, word_upto, largest_word, largest_order, words_of}
use Rattle.imports.specs.Promises.{weighty, PackAllows, JobOfList}
use Rattle.imports.proofs.Rounds.{rates_allowed, weight_rounded_down}
use Rattle.imports.proofs.OfList.{ByWords, of_list, words_end}

-- ---- a number of the caller's

-- its word, where the number is small
pub word_is : (most x : ℕ) {z : ℤ} → z ≡ word_upto most x → x ≤ most → z ≡ pos x
word_is most x e h = e ∙ rw (le-leb x most h)

-- and where the word is not below 0, the number
number_is : (most x : ℕ) {z : ℤ} → z ≡ word_upto most x → z ≡ pos (nat_abs z) → (x ≤ most) × (x ≡ nat_abs z)
number_is most x {z} e n = go (leb x most) refl e
  where
    go : (t : Bool) → leb x most ≡ t → z ≡ (if t then pos x else negsuc 0) → (x ≤ most) × (x ≡ nat_abs z)
    go true q e = (leb-true x most q, sym (ap nat_abs e))
    go false q e = let below : negsuc 0 ≡ pos (nat_abs z) = sym e ∙ n in clash (cc)

upto_of : {most x : ℕ} {z : ℤ} → z ≡ pos x → x ≤ most → Upto most z
upto_of e h = record { natural = e ∙ ap pos (sym (ap nat_abs e)); small = omega (arith, ap nat_abs e, h) }

counted_of : {x : ℕ} {z : ℤ} → z ≡ pos x → z ≡ pos (nat_abs z)
counted_of e = e ∙ ap pos (sym (ap nat_abs e))

-- ---- the weights

-- in a line of cells a row is a cell, and holds enough if its weight is positive
held_one : (j : Job) (i w : ℕ) → j.across ≡ 1 → j.columns ≡ 1 → j.weight i ≡ pos w
    → ◌≡◌ {A = ℕ} (if leb j.across (positives j i j.columns) then 1 else 0) (if ltb 0 w then 1 else 0)
unfolding positives
held_one j i w a c e = rw (a, c, e) (go (ltb 0 w))
  where
    go : (t : Bool) → ◌≡◌ {A = ℕ} (if leb 1 ((if t then 1 else 0) + 0) then 1 else 0) (if t then 1 else 0)
    go true = refl
    go false = refl

held : (j : Job) (divisor : ℕ) (es : List ℕ) (i : ℕ) → j.across ≡ 1 → j.columns ≡ 1
    → ((m : ℕ) → m < length es → j.weight (i + m) ≡ pos (weight_of divisor (get_or es m 0))) → rows_held j i (length es) ≡ weighty divisor es
unfolding rows_held weighty
held j divisor [] i a c h = refl
held j divisor (e ∷ es) i a c h =
    ap₂ (λ (x y : ℕ). x + y)
    (held_one j i (weight_of divisor e) a c (ap j.weight (sym (add-zero i)) ∙ h 0 (omega arith)))
    (ap (λ (n : ℕ). rows_held j (i + n) (length es)) c
    ∙ held j divisor es (i + 1) a c (λ m l. let at : i + 1 + m ≡ i + suc m = omega arith in ap j.weight at ∙ h (suc m) (omega arith)))

-- ---- from a job that is allowed

module _ (g : Given) (es ds : List ℕ) (s : length es ≡ length ds) where
  abbrev j : Job
  j = job_of (words_of g es ds)

  by : ByWords g es ds (job_of (words_of g es ds))
  by = of_list g es ds s

  weights_held : rows_held j 0 j.rows ≡ weighty g.divisor es
  weights_held =
      ap (rows_held j 0) by.rows
      ∙ held j g.divisor es 0 by.across by.columns (λ m l. let at : 0 + m ≡ m = omega arith in ap j.weight at ∙ by.weight m l)

  module _ (L : Laid (words_of g es ds)) (A : Allowed (job_of (words_of g es ds))) where
    some : 0 < length es
    some = omega (arith, A.cells_some, by.cells)

    zeroth : CellAllowed j 0
    zeroth = A.cell 0 (omega (arith, A.cells_some))

    given_society : (g.society ≤ largest_word) × (g.society ≡ count_at (words_of g es ds) 0)
    given_society = number_is largest_word g.society by.society L.society

    given_job : (g.job ≤ largest_word) × (g.job ≡ count_at (words_of g es ds) 1)
    given_job = number_is largest_word g.job by.number L.number

    given_order : (g.order ≤ largest_order) × (g.order ≡ count_at (words_of g es ds) 3)
    given_order = number_is largest_order g.order by.field L.order

    order_is : j.order ≡ order_used g.order
    order_is = by.order ∙ ap (λ (z : ℤ). order_used (nat_abs z)) (sym by.field) ∙ ap order_used (sym given_order.1)

    given_constant : (g.constant ≤ largest_word) × (g.constant ≡ nat_abs j.constant)
    given_constant = number_is largest_word g.constant by.constant A.constant.natural

    given_tolerance : (g.tolerance ≤ largest_word) × (g.tolerance ≡ nat_abs j.tolerance)
    given_tolerance = number_is largest_word g.tolerance by.tolerance A.tolerance.natural

    given_floor : (g.floor ≤ largest_word) × (g.floor ≡ nat_abs (j.floor 0))
    given_floor = number_is largest_word g.floor (by.floor 0 some) zeroth.floor.natural

    given_ceiling : (g.ceiling ≤ largest_word) × (g.ceiling ≡ nat_abs (j.ceiling 0))
    given_ceiling = number_is largest_word g.ceiling (by.ceiling 0 some) zeroth.ceiling.natural

    box_kept : pos (nat_abs (j.floor 0)) ≤ℤ pos (nat_abs (j.ceiling 0))
    box_kept = rw (← zeroth.floor.natural, ← zeroth.ceiling.natural) zeroth.box

    pub allows_of : PackAllows g es
    allows_of =
        record {
          society = omega (arith, given_society.1, A.society);
          job = omega (arith, given_job.1, A.number);
          cells = omega (arith, A.cells_some, by.cells);
          order = given_order.0;
          order_less = omega (arith, order_is, A.order_less, by.rows);
          constant_some = omega (arith, given_constant.1, A.constant_some);
          constant = omega (arith, given_constant.1, A.constant.small);
          tolerance = omega (arith, given_tolerance.1, A.tolerance.small);
          box = omega (arith, given_floor.1, given_ceiling.1, pos_le box_kept);
          ceiling = omega (arith, given_ceiling.1, zeroth.ceiling.small);
          weights = omega (arith, order_is, weights_held, A.weights);
        }

  -- ---- to a job that is allowed

  module _ (P : PackAllows g es) where
    floor_small : g.floor ≤ 1000000
    floor_small = omega (arith, P.box, P.ceiling)

    word_order : word_upto largest_order g.order ≡ pos g.order
    word_order = word_is largest_order g.order refl P.order

    order_used_lem : j.order ≡ order_used g.order
    order_used_lem = by.order ∙ ap (λ (z : ℤ). order_used (nat_abs z)) word_order

    floor_at : (i : ℕ) → i < length es → j.floor i ≡ pos g.floor
    floor_at i h = word_is largest_word g.floor (by.floor i h) (omega (arith, floor_small))

    ceiling_at : (i : ℕ) → i < length es → j.ceiling i ≡ pos g.ceiling
    ceiling_at i h = word_is largest_word g.ceiling (by.ceiling i h) (omega (arith, P.ceiling))

    pub job_of_list : JobOfList g es ds (job_of (words_of g es ds))
    job_of_list =
        record {
          society = ap nat_abs (word_is largest_word g.society by.society (omega (arith, P.society)));
          number = ap nat_abs (word_is largest_word g.job by.number (omega (arith, P.job)));
          cells = by.cells;
          line = by.grid;
          order = order_used_lem;
          constant = word_is largest_word g.constant by.constant (omega (arith, P.constant));
          tolerance = word_is largest_word g.tolerance by.tolerance (omega (arith, P.tolerance));
          crude = by.crude;
          weight = by.weight;
          floor = floor_at;
          ceiling = ceiling_at;
          links = by.links;
        }

    no_link_lem : (l : ℕ) → l < links_of (words_of g es ds) → {X : Type 0} → X
    no_link_lem l h = absurd (omega (arith, h, by.links))

    not_grid : is_grid (words_of g es ds) ≡ true → {X : Type 0} → X
    not_grid e = absurd (true≢false (sym e ∙ by.grid))

    pub laid : Laid (words_of g es ds)
    unfolding start_of
    laid =
        record {
          society = counted_of (word_is largest_word g.society by.society (omega (arith, P.society)));
          number = counted_of (word_is largest_word g.job by.number (omega (arith, P.job)));
          cells = by.natural;
          order = counted_of (by.field ∙ word_order);
          grid = λ e. not_grid e;
          links = counted_of by.last;
          terms = λ l h. no_link_lem l h;
          cell = λ l m h k. no_link_lem l h;
          ends = ap (start_of (words_of g es ds)) by.links ∙ words_end g es ds s;
        }

    module _ (few : length es ≤ most_lines) (below : (i : ℕ) → i < length es → get_or ds i 0 ≤ get_or es i 0) (divisor : 0 < g.divisor) where
      cell_allowed : (i : ℕ) → i < length es → CellAllowed j i
      cell_allowed i h =
          record {
            crude = upto_of (by.crude i h) (rates_allowed (get_or es i 0) (get_or ds i 0) (below i h));
            weight = upto_of (by.weight i h) (weight_rounded_down g.divisor (get_or es i 0) divisor).most;
            floor = upto_of (floor_at i h) floor_small;
            ceiling = upto_of (ceiling_at i h) P.ceiling;
            box = rw (floor_at i h, ceiling_at i h) (pos_mono P.box);
          }

      shape : (t : Bool) → j.grid ≡ t → ShapeAllowed j t
      shape true e = not_grid e
      shape false e = record { columns_one = by.columns; across_one = by.across; second_none = by.second }

      pub allowed : Allowed (job_of (words_of g es ds))
      allowed =
          let k = job_of_list.constant in
          let none : nat_abs j.second ≡ 0 = ap nat_abs by.second in
          record {
            society = omega (arith, job_of_list.society, P.society);
            number = omega (arith, job_of_list.number, P.job);
            cells_some = omega (arith, by.cells, P.cells);
            cells_few = omega (arith, by.cells, few);
            shape = shape j.grid refl;
            cells_are = ap₂ (λ (x y : ℕ). x * y) by.rows by.columns ∙ omega (arith, by.cells);
            order_some = order_small.0;
            order_few = order_small.1;
            order_less = omega (arith, order_used_lem, by.rows, P.order_less);
            across_some = omega (arith, by.across);
            across_few = omega (arith, by.across);
            second = upto_of by.second (omega arith);
            constant = upto_of k P.constant;
            constant_some = omega (arith, ap nat_abs k, P.constant_some);
            constants = omega (arith, ap nat_abs k, none, P.constant);
            tolerance = upto_of job_of_list.tolerance P.tolerance;
            cell = λ i h. cell_allowed i (omega (arith, h, by.cells));
            weights = omega (arith, order_used_lem, weights_held, P.weights);
            links_few = omega (arith, by.links);
            link = λ l h. absurd (omega (arith, h, by.links));
          }
        where
          order_small : (1 ≤ j.order) × (j.order ≤ 4)
          order_small = rw order_used_lem (go (eqb g.order 0) refl)
            where
              go : (t : Bool) → eqb g.order 0 ≡ t → (1 ≤ (if t then house_order else g.order)) × ((if t then house_order else g.order) ≤ 4)
              go true e = (omega arith, omega arith)
              go false e = (omega (arith, eqb-false g.order 0 e), P.order)
