-- The writer's own refusals of an import's words: 2, 3 and 4. The words are neither too few nor too many, and there is no link.
use Prim.Native.Nat.{ℕ, ◌+◌, ◌/◌, ◌≤◌, ◌<◌}
use mathlib.Core.Path.{◌≡◌, refl, ap, ◌∙◌}
use mathlib.Core.Bool.{Bool, true, false}
use mathlib.Core.List.{List, [], ◌∷◌, ◌++◌, append_assoc, append-nil}
use native.Mathlib.Omega.{arith}
use borrow.Author.Tests.{ltb-true, ltb-false, leb-true, eqb-true}
use lib.Dec.{leb, ltb, eqb}
use lib.IntN.{ℤ, pos, negsuc}
use lib.ListN.{length}
use Rattle.std.specs.Prelude.{if◌then◌else◌}
use Rattle.numbers.specs.Plain.{bytes_of}
use Rattle.fields.specs.declared.cells.Cells.{Cells}
use Rattle.fields.specs.declared.Field.{Field}
use Rattle.fields.specs.declared.Field.TheVariants.{Society, Job, Count, Order, Rows, Constant, Tolerance, Crude, Weight, Floor, Ceiling, LinkCount}
use Rattle.fields.specs.declared.Barred.TheVariants.{Unallowed, Other}
use Rattle.fields.specs.Table.{Step, within, rule, order_used, shaped, is_order, grid_field, lacking, in_row, next_row, weighed, next_cell, after_ceiling, step_of, signed_at, end_at}
use Rattle.packs.specs.Reading.{Outcome}
use Rattle.std.specs.Prelude.{Ok, Err}
use Rattle.refusals.specs.declared.Refusal.TheVariants.{FloorAbove, TooFewWeights}
use Rattle.refusals.specs.Refusals.{number_of}
use Rattle.packs.specs.Writing.{on_step, on_put, write_from}
use Rattle.jobs.specs.Packs.{write_job}
use Rattle.numbers.proofs.Both.{both}
use Rattle.imports.specs.declared.Given.{Given}
use Rattle.imports.specs.Imports.{crude_of, weight_of, word_upto, largest_word, largest_order, cell_of, cells_of, head_of, words_of}
use Rattle.imports.proofs.Made.{cells_cons, cells_nil, words_parts}

-- done, or one of the three
abbrev pub Own : Outcome → Type 0
Own (Ok n) = Unit {0}
Own (Err r) = (2 ≤ number_of r) × (number_of r ≤ 4)

-- ---- one word
-- what a step does with the words after it
abbrev Steps : (xs : List ℤ) → Step → Type 0
Steps xs (Ok g) = (at : ℕ) → Own (write_from xs g at).outcome
Steps xs (Err Unallowed) = Unit {0}
Steps xs (Err (Other r)) = (2 ≤ number_of r) × (number_of r ≤ 4)

-- a word at a field that is plain and not the end
word_at : (n : ℕ) (xs : List ℤ) (f : Field) (at : ℕ) → end_at f ≡ false → signed_at f ≡ false → Steps xs (step_of f n) → Own (write_from (pos n ∷ xs) f at).outcome
unfolding write_from
word_at n xs f at e s h = rw (e, s) (go (step_of f n) h)
  where
    go : (t : Step) → Steps xs t → Own (on_put (on_step at n t) (λ g raw. write_from xs g (at + length (bytes_of raw)))).outcome
    go (Ok g) k = k (at + length (bytes_of n))
    go (Err Unallowed) k = (omega arith, omega arith)
    go (Err (Other r)) k = k

-- a word below 0
below_word : (n : ℕ) (xs : List ℤ) (f : Field) (at : ℕ) → end_at f ≡ false → signed_at f ≡ false → Own (write_from (negsuc n ∷ xs) f at).outcome
unfolding write_from
below_word n xs f at e s = rw (e, s) (omega arith, omega arith)

any_word : (x : ℤ) (xs : List ℤ) (f : Field) (at : ℕ) → end_at f ≡ false → signed_at f ≡ false → ((raw : ℕ) → Steps xs (step_of f raw)) → Own (write_from (x ∷ xs) f at).outcome
any_word (pos n) xs f at e s h = word_at n xs f at e s (h n)
any_word (negsuc n) xs f at e s h = below_word n xs f at e s

-- a number that is tested, and then
tested : (xs : List ℤ) (allowed : Bool) (s : Step) → (allowed ≡ true → Steps xs s) → Steps xs (rule allowed s)
tested xs true s h = h refl
tested xs false s h = tt

-- ---- the end: no link
last_words : (n at : ℕ) → Own (write_from (pos 0 ∷ []) (LinkCount n) at).outcome
unfolding write_from step_of
last_words n at = tt

-- ---- a cell
after_cell_lem : (c : Cells) (lo hi : ℕ) (xs : List ℤ)
    → ((d : Cells) → d.n ≡ c.n → d.cell ≡ c.cell + 1 → c.cell + 1 < c.n → (at : ℕ) → Own (write_from xs (Crude d) at).outcome)
    → (c.n ≤ c.cell + 1 → (at : ℕ) → Own (write_from xs (LinkCount c.n) at).outcome) → Steps xs (after_ceiling c lo hi)
after_cell_lem c lo hi xs more last = go (ltb hi lo) (ltb (c.cell + 1) c.n) refl (ltb 0 (c.want / 8))
  where
    go : (t u : Bool) → ltb (c.cell + 1) c.n ≡ u → (w : Bool)
        → Steps xs (if t then Err (Other (FloorAbove c.cell)) else if u then Ok (Crude (next_cell c)) else if w then Err (Other TooFewWeights) else Ok (LinkCount c.n))
    go true u e w = (omega arith, omega arith)
    go false true e w = more (next_cell c) refl refl (ltb-true (c.cell + 1) c.n e)
    go false false e true = (omega arith, omega arith)
    go false false e false = last (ltb-false (c.cell + 1) c.n e)

-- a weight changes neither the count of cells nor the cell
weighed_same : (c : Cells) (y : ℕ) → ((weighed c y).n ≡ c.n) × ((weighed c y).cell ≡ c.cell)
weighed_same c y = go (ltb (c.column + 1) (c.row / 8))
  where
    go : (t : Bool)
        → ((if t then in_row c (lacking c.want y) else next_row c (lacking c.want y)).n ≡ c.n)
        × ((if t then in_row c (lacking c.want y) else next_row c (lacking c.want y)).cell ≡ c.cell)
    go true = (refl, refl)
    go false = (refl, refl)

after_weighed : (c : Cells) (y lo hi : ℕ) (xs : List ℤ)
    → ((d : Cells) → d.n ≡ c.n → d.cell ≡ c.cell + 1 → c.cell + 1 < c.n → (at : ℕ) → Own (write_from xs (Crude d) at).outcome)
    → (c.n ≤ c.cell + 1 → (at : ℕ) → Own (write_from xs (LinkCount c.n) at).outcome) → Steps xs (after_ceiling (weighed c y) lo hi)
after_weighed c y lo hi xs more last =
    let same = weighed_same c y in
    after_cell_lem (weighed c y) lo hi xs (λ d p q l. more d (p ∙ same.0) (q ∙ ap (λ (i : ℕ). i + 1) same.1) (omega (arith, same.0, same.1, l)))
    (λ l at. rw same.0 (last (omega (arith, same.0, same.1, l)) at))

one_cell : (u w lo hi : ℤ) (xs : List ℤ) (c : Cells) (at : ℕ)
    → ((b : Cells) → b.n ≡ c.n → b.cell ≡ c.cell + 1 → c.cell + 1 < c.n → (at : ℕ) → Own (write_from xs (Crude b) at).outcome)
    → (c.n ≤ c.cell + 1 → (at : ℕ) → Own (write_from xs (LinkCount c.n) at).outcome) → Own (write_from (u ∷ w ∷ lo ∷ hi ∷ xs) (Crude c) at).outcome
unfolding step_of
one_cell u w lo hi xs c at more last =
    any_word u (w ∷ lo ∷ hi ∷ xs) (Crude c) at refl refl
    (λ x. tested (w ∷ lo ∷ hi ∷ xs) (within 0 1000000 x) (Ok (Weight c)) (λ t a. any_word w (lo ∷ hi ∷ xs) (Weight c) a refl refl
    (λ y. tested (lo ∷ hi ∷ xs) (within 0 1000 y) (Ok (Floor (weighed c y))) (λ t a. any_word lo (hi ∷ xs) (Floor (weighed c y)) a refl refl
    (λ z. tested (hi ∷ xs) (within 0 1000000 z) (Ok (Ceiling (weighed c y) z)) (λ t a. any_word hi xs (Ceiling (weighed c y) z) a refl refl
    (λ v. tested xs (within 0 1000000 v) (after_ceiling (weighed c y) z v) (λ t. after_weighed c y z v xs more last))))))))

cell_own : (g : Given) (e d : ℕ) (xs : List ℤ) (c : Cells) (at : ℕ)
    → ((b : Cells) → b.n ≡ c.n → b.cell ≡ c.cell + 1 → c.cell + 1 < c.n → (at : ℕ) → Own (write_from xs (Crude b) at).outcome)
    → (c.n ≤ c.cell + 1 → (at : ℕ) → Own (write_from xs (LinkCount c.n) at).outcome) → Own (write_from (cell_of g e d ++ xs) (Crude c) at).outcome
unfolding cell_of
cell_own g e d xs c at more last =
    one_cell (pos (crude_of e d)) (pos (weight_of g.divisor e)) (word_upto largest_word g.floor) (word_upto largest_word g.ceiling) xs c at more last

-- ---- all cells: as many as are still to come
cells_own : (g : Given) (es ds : List ℕ) → length es ≡ length ds → (c : Cells) (at : ℕ) → 1 ≤ length es → c.cell + length es ≡ c.n
    → Own (write_from (cells_of g es ds ++ (pos 0 ∷ [])) (Crude c) at).outcome
cells_own g [] ds s c at some h = absurd (omega arith)
cells_own g (e ∷ es) [] s c at some h = absurd (omega arith)
cells_own g (e ∷ []) (d ∷ []) s c at some h =
    let same : cells_of g (e ∷ []) (d ∷ []) ++ (pos 0 ∷ []) ≡ cell_of g e d ++ (pos 0 ∷ []) =
    ap (λ (l : List ℤ). l ++ (pos 0 ∷ [])) (cells_cons g e d [] [] ∙ ap (λ (l : List ℤ). cell_of g e d ++ l) (cells_nil g []) ∙ append-nil (cell_of g e d)) in
    rw same (cell_own g e d (pos 0 ∷ []) c at (λ b p q l. absurd (omega arith)) (λ l a. last_words c.n a))
cells_own g (e ∷ []) (d ∷ y ∷ ds) s c at some h = absurd (omega arith)
cells_own g (e ∷ x ∷ es) (d ∷ []) s c at some h = absurd (omega arith)
cells_own g (e ∷ x ∷ es) (d ∷ y ∷ ds) s c at some h =
    let same : cells_of g (e ∷ x ∷ es) (d ∷ y ∷ ds) ++ (pos 0 ∷ []) ≡ cell_of g e d ++ (cells_of g (x ∷ es) (y ∷ ds) ++ (pos 0 ∷ [])) =
    ap (λ (l : List ℤ). l ++ (pos 0 ∷ [])) (cells_cons g e d (x ∷ es) (y ∷ ds)) ∙ append_assoc (cell_of g e d) (cells_of g (x ∷ es) (y ∷ ds)) (pos 0 ∷ []) in
    rw same
    (cell_own g e d (cells_of g (x ∷ es) (y ∷ ds) ++ (pos 0 ∷ [])) c at
    (λ b p q l a. cells_own g (x ∷ es) (y ∷ ds) (omega arith) b a (omega arith) (omega arith)) (λ l a. absurd (omega arith)))

-- ---- the whole job
-- the order of an import announces no grid
order_own : (x n : ℕ) (xs : List ℤ) (at : ℕ) → ((z i : ℕ) → Own (write_from xs (Constant (shaped n 1 z 1) 0) i).outcome)
    → Own (write_from (word_upto largest_order x ∷ xs) (Order n) at).outcome
unfolding step_of
order_own x n xs at later = go (leb x largest_order) refl
  where
    line : (t : Bool) → eqb x grid_field ≡ t → x ≤ largest_order
        → Steps xs (if t then Ok (Rows n) else rule (is_order n (order_used x)) (Ok (Constant (shaped n 1 (order_used x) 1) 0)))
    line true e h = absurd (omega (arith, eqb-true x grid_field e, h))
    line false e h = tested xs (is_order n (order_used x)) (Ok (Constant (shaped n 1 (order_used x) 1) 0)) (λ q. later (order_used x))

    go : (t : Bool) → leb x largest_order ≡ t → Own (write_from ((if t then pos x else negsuc 0) ∷ xs) (Order n) at).outcome
    go true e = word_at x xs (Order n) at refl refl (line (eqb x grid_field) refl (leb-true x largest_order e))
    go false e = below_word 0 xs (Order n) at refl refl

head_own : (a b k t : ℤ) (o n : ℕ) (xs : List ℤ) → (2 ≤ n → (z at : ℕ) → Own (write_from xs (Crude (shaped n 1 z 1)) at).outcome)
    → Own (write_from (a ∷ b ∷ pos n ∷ word_upto largest_order o ∷ k ∷ t ∷ xs) Society 0).outcome
unfolding step_of
head_own a b k t o n xs cells =
    any_word a (b ∷ rest) Society 0 refl refl
    (λ x. tested (b ∷ rest) (within 0 7 x) (Ok Job) (λ q i. any_word b rest Job i refl refl
    (λ y. tested rest (within 0 4294967295 y) (Ok Count) (λ q i. word_at n (word_upto largest_order o ∷ k ∷ t ∷ xs) Count i refl refl
    (tested (word_upto largest_order o ∷ k ∷ t ∷ xs) (within 2 120 n) (Ok (Order n)) (λ two i. order_own o n (k ∷ t ∷ xs) i
    (λ z i. any_word k (t ∷ xs) (Constant (shaped n 1 z 1) 0) i refl refl
    (λ u. tested (t ∷ xs) (within 1 1000 u) (Ok (Tolerance (shaped n 1 z 1))) (λ q i. any_word t xs (Tolerance (shaped n 1 z 1)) i refl refl
    (λ v. tested xs (within 0 1000000000000000 v) (Ok (Crude (shaped n 1 z 1)))
    (λ q i. cells (leb-true 2 n (both (leb 2 n) (leb n 120) two).0) z i)))))))))))
  where
    rest : List ℤ
    rest = pos n ∷ word_upto largest_order o ∷ k ∷ t ∷ xs

head_words_lem : (g : Given) (n : ℕ) (xs : List ℤ) → (2 ≤ n → (z at : ℕ) → Own (write_from xs (Crude (shaped n 1 z 1)) at).outcome) → Own (write_from (head_of g n ++ xs) Society 0).outcome
unfolding head_of
head_words_lem g n xs cells =
    head_own (word_upto largest_word g.society) (word_upto largest_word g.job) (word_upto largest_word g.constant) (word_upto largest_word g.tolerance) g.order n xs cells

pub words_own : (g : Given) (es ds : List ℕ) → length es ≡ length ds → Own (write_job (words_of g es ds)).outcome
words_own g es ds s =
    rw (words_parts g es ds)
    (head_words_lem g (length es) (cells_of g es ds ++ (pos 0 ∷ []))
    (λ two z at. cells_own g es ds s (shaped (length es) 1 z 1) at (omega arith) (omega arith)))
