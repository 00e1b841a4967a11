-- The words of an import, stored one after another.
use Prim.Native.Nat.{ℕ, ◌+◌, ◌-◌, ◌*◌, ◌≤◌, ◌<◌}
use mathlib.Core.Path.{◌≡◌, refl, sym, ap, ap₂, ◌∙◌}
use mathlib.Core.List.{List, [], ◌∷◌, ◌++◌, append_assoc, append-nil}
use native.Mathlib.Numerals.{add-one}
use native.Mathlib.Omega.{arith}
use borrow.Author.Tests.{lt-leb, le-leb}
use lib.IntN.{ℤ, pos, negsuc}
use lib.ListN.{length, get_or, set, take, drop, replicate, length-append, length-replicate}
use lib.Seq.{sets, take-suc, length-take-le}
use borrow.Rule.Slice.PartMut.{put_mid}
use Rattle.numbers.proofs.Stores.{sets_append}
use Rattle.numbers.proofs.Copies.{placed, placed_first}
use Rattle.jobs.proofs.Handed.{held_room, held_part}
use Rattle.imports.specs.declared.Given.{Given}
use Rattle.imports.specs.Imports.{word_upto, cell_of, cells_of, head_of, words_of}

-- ---- numbers
pub word_in : (most x : ℕ) → x ≤ most → {r : ℤ} → r ≡ pos x → r ≡ word_upto most x
word_in most x h e = rw (le-leb x most h) e

pub word_out : (most x : ℕ) → most < x → negsuc 0 ≡ word_upto most x
word_out most x h = rw (lt-leb x most h)

-- ---- stores
pub cell_length : (g : Given) (exposure deaths : ℕ) → length (cell_of g exposure deaths) ≡ 4
unfolding cell_of
cell_length g exposure deaths = refl

-- ---- all cells
pub cells_cons : (g : Given) (e d : ℕ) (es ds : List ℕ) → cells_of g (e ∷ es) (d ∷ ds) ≡ cell_of g e d ++ cells_of g es ds
unfolding cells_of
cells_cons g e d es ds = refl

pub cells_nil : (g : Given) (ds : List ℕ) → cells_of g [] ds ≡ []
unfolding cells_of
cells_nil g ds = refl

pub cells_length : (g : Given) (es ds : List ℕ) → length es ≡ length ds → length (cells_of g es ds) ≡ 4 * length es
cells_length g [] ds h = ap length (cells_nil g ds)
cells_length g (e ∷ es) [] h = absurd (omega arith)
cells_length g (e ∷ es) (d ∷ ds) h =
    omega (arith, ap length (cells_cons g e d es ds), length-append (cell_of g e d) (cells_of g es ds), cell_length g e d, cells_length g es ds (omega arith))

cells_snoc : (g : Given) (es ds : List ℕ) (e d : ℕ) → length es ≡ length ds → cells_of g (es ++ (e ∷ [])) (ds ++ (d ∷ [])) ≡ cells_of g es ds ++ cell_of g e d
cells_snoc g [] [] e d h =
    cells_cons g e d [] [] ∙ ap (λ (l : List ℤ). cell_of g e d ++ l) (cells_nil g []) ∙ append-nil (cell_of g e d) ∙ ap (λ (l : List ℤ). l ++ cell_of g e d) (sym (cells_nil g []))
cells_snoc g [] (y ∷ ds) e d h = absurd (omega arith)
cells_snoc g (x ∷ es) [] e d h = absurd (omega arith)
cells_snoc g (x ∷ es) (y ∷ ds) e d h =
    cells_cons g x y (es ++ (e ∷ [])) (ds ++ (d ∷ []))
    ∙ ap (λ (l : List ℤ). cell_of g x y ++ l) (cells_snoc g es ds e d (omega arith))
    ∙ sym (append_assoc (cell_of g x y) (cells_of g es ds) (cell_of g e d))
    ∙ ap (λ (l : List ℤ). l ++ cell_of g e d) (sym (cells_cons g x y es ds))

module _ (g : Given) (es ds : List ℕ) (i : ℕ) (h : i < length es) (k : i < length ds) where
  taken : length (take i es) ≡ length (take i ds)
  taken = omega (arith, length-take-le i es (omega arith), length-take-le i ds (omega arith))

  next : cells_of g (take i es) (take i ds) ++ cell_of g (get_or es i 0) (get_or ds i 0) ≡ cells_of g (take (i + 1) es) (take (i + 1) ds)
  next =
      sym (cells_snoc g (take i es) (take i ds) (get_or es i 0) (get_or ds i 0) taken)
      ∙ ap₂ (cells_of g) (sym (take-suc es i 0 h) ∙ ap (λ (n : ℕ). take n es) (sym (add-one i))) (sym (take-suc ds i 0 k) ∙ ap (λ (n : ℕ). take n ds) (sym (add-one i)))

  -- one cell more
  pub cells_more : (l : List ℤ) {w w' : List ℤ} → w ≡ sets l 6 (cells_of g (take i es) (take i ds)) → w' ≡ sets w (6 + 4 * i) (cell_of g (get_or es i 0) (get_or ds i 0))
      → w' ≡ sets l 6 (cells_of g (take (i + 1) es) (take (i + 1) ds))
  cells_more l p q =
      let at : 6 + 4 * i ≡ 6 + length (cells_of g (take i es) (take i ds)) =
      omega (arith, cells_length g (take i es) (take i ds) taken, length-take-le i es (omega arith)) in
      q
      ∙ ap₂ (λ (x : List ℤ) (n : ℕ). sets x n (cell_of g (get_or es i 0) (get_or ds i 0))) p at
      ∙ sym (sets_append (cells_of g (take i es) (take i ds)) (cell_of g (get_or es i 0) (get_or ds i 0)) l 6)
      ∙ ap (sets l 6) next

pub cells_start : (g : Given) (es ds : List ℕ) (l : List ℤ) → l ≡ sets l 6 (cells_of g (take 0 es) (take 0 ds))
cells_start g es ds l = sym (ap (sets l 6) (cells_nil g []))

pub cell_put : (g : Given) (exposure deaths at : ℕ) (w : List ℤ) {part cell : List ℤ} → part ≡ cell → cell ≡ cell_of g exposure deaths → at + 4 ≤ length w
    → put_mid at (at + 4 - at) w part ≡ sets w at (cell_of g exposure deaths)
cell_put g exposure deaths at w p q h =
    let four = cell_length g exposure deaths in
    placed (p ∙ q) w at (at + 4 - at) (omega arith) (omega arith)

-- ---- the whole job
pub head_length : (g : Given) (n : ℕ) → length (head_of g n) ≡ 6
unfolding head_of
head_length g n = refl

pub head_put : (g : Given) (n : ℕ) (w : List ℤ) {part head : List ℤ} → part ≡ head → head ≡ head_of g n → 6 ≤ length w → part ++ drop 6 w ≡ sets w 0 (head_of g n)
head_put g n w p q h = let six = head_length g n in placed_first (p ∙ q) w 6 (omega arith) (omega arith)

pub words_parts : (g : Given) (es ds : List ℕ) → words_of g es ds ≡ head_of g (length es) ++ (cells_of g es ds ++ (pos 0 ∷ []))
unfolding words_of
words_parts g es ds = refl

pub words_length : (g : Given) (es ds : List ℕ) → length es ≡ length ds → length (words_of g es ds) ≡ 7 + 4 * length es
words_length g es ds h =
    omega (
      arith,
      ap length (words_parts g es ds),
      length-append (head_of g (length es)) (cells_of g es ds ++ (pos 0 ∷ [])),
      length-append (cells_of g es ds) (pos 0 ∷ []),
      head_length g (length es),
      cells_length g es ds h,
    )

module _ (g : Given) (n : ℕ) (es ds : List ℕ) (h : n ≤ length es) (k : n ≤ length ds) where
  first_n : length (take n es) ≡ n
  first_n = length-take-le n es h

  both_n : length (take n es) ≡ length (take n ds)
  both_n = first_n ∙ sym (length-take-le n ds k)

  pub job_made : (l : List ℤ) {l1 l2 : List ℤ} → l1 ≡ sets l 0 (head_of g n) → l2 ≡ sets l1 6 (cells_of g (take n es) (take n ds))
      → set l2 (6 + 4 * n) (pos 0) ≡ sets l 0 (words_of g (take n es) (take n ds))
  job_made l {l1} {l2} p q =
      let cells = cells_of g (take n es) (take n ds) in
      let at : 6 + 4 * n ≡ 6 + length cells = omega (arith, cells_length g (take n es) (take n ds) both_n, first_n) in
      ap₂ (λ (x : List ℤ) (m : ℕ). set x m (pos 0)) q at
      ∙ sym (sets_append cells (pos 0 ∷ []) l1 6)
      ∙ ap (λ (x : List ℤ). sets x 6 (cells ++ (pos 0 ∷ []))) p
      ∙ ap (λ (m : ℕ). sets (sets l 0 (head_of g n)) m (cells ++ (pos 0 ∷ []))) (sym (head_length g n) ∙ omega arith)
      ∙ sym (sets_append (head_of g n) (cells ++ (pos 0 ∷ [])) l 0)
      ∙ ap (λ (m : ℕ). sets l 0 (head_of g m ++ (cells ++ (pos 0 ∷ [])))) (sym first_n)
      ∙ ap (sets l 0) (sym (words_parts g (take n es) (take n ds)))

  -- the scratch of 487 words holds them
  module _ (few : n ≤ 120) {count : ℕ} (c : count ≡ 7 + 4 * n) {words : List ℤ} (stored : words ≡ sets (replicate 487 (pos 0)) 0 (words_of g (take n es) (take n ds))) where
    count_words : length (words_of g (take n es) (take n ds)) ≡ count
    count_words = omega (arith, words_length g (take n es) (take n ds) both_n, first_n, c)

    pub scratch_room : count ≤ length words
    scratch_room = held_room (replicate 487 (pos 0)) (length-replicate 487 (pos 0)) (words_of g (take n es) (take n ds)) count_words (omega arith) stored

    pub scratch_words : take count words ≡ words_of g (take n es) (take n ds)
    scratch_words =
        held_part (replicate 487 (pos 0)) (length-replicate 487 (pos 0)) (words_of g (take n es) (take n ds)) {k = count} count_words (omega arith) stored
