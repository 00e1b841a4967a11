-- The two lists that a row of a grid's band is made of hold its entries: at the multiples of the columns those down, within a row those across, and 0
-- elsewhere.
use Rattle.std.proofs.Common.{◌≡◌, ℕ, zero, suc, ◌+◌, ◌-◌, ◌*◌, ◌/◌, ◌%◌, ◌<◌, ◌≤◌, Bool, true, false, ◌&&◌, eqb, ltb, leb, List, length, get_or, set, replicate, ℤ, pos, ◌+ℤ◌, ◌*ℤ◌, sym, refl, ap, ◌∙◌, arith, ltb-false, ltb-true, ne_eqb, eqb-true, leb-false, leb-true}
use native.Mathlib.Nat as N
use borrow.Author.Tests.{eqb-false, lt-leb}
use lib.ListN.{length-replicate}
use lib.Ieee.{Float, nan, binary64, of_int}
use Rattle.std.specs.Prelude.{if◌then◌else◌}
use Rattle.whole.proofs.Sums.{sum_vanish}
use Rattle.whole.proofs.Solve.{num, ◌⊕◌, ◌⊗◌, ◌≗◌, ring}
use Rattle.rows.specs.Rows.{row_of}
use Rattle.jobs.specs.Job.{Job}
use Rattle.house.specs.Filled.{filled}
use Rattle.house.specs.Band.{uses_both, product_term, squares_at, whole_entry, entry_of, entries_of, zero64}
use Rattle.house.specs.Grid.{reach, down_squares, across_squares, weight_at, grid_entry, grid_rows}
use Rattle.house.proofs.Fills.{length_filled}
use Rattle.house.specs.Held.{below_of, beside_of, entry_at, spread_of}

-- ---- where K'K is 0

no_term : (n z i o m : ℕ) → uses_both n z i o m ≡ false → product_term n z i o m ≡ pos 0
no_term n z i o m e = ap {B = ℤ} (λ (b : Bool). if b then row_of z m *ℤ row_of z (m - o) else pos 0) e

-- beyond the order, and before the line's first cell
pub squares_far : (n z i o : ℕ) → z < o → squares_at n z i o ≡ pos 0
squares_far n z i o h = sum_vanish (suc z) (λ m l. no_term n z i o m (ap (λ (b : Bool). b && (leb m i && ltb (i - m + z) n)) (lt-leb o m (omega arith))))

pub squares_before : (n z i o : ℕ) → i < o → squares_at n z i o ≡ pos 0
squares_before n z i o h = sum_vanish (suc z) (λ m l. no_term n z i o m (go m (leb o m) refl))
  where
    go : (m : ℕ) (b : Bool) → leb o m ≡ b → b && (leb m i && ltb (i - m + z) n) ≡ false
    go m false e = refl
    go m true e = ap (λ (b : Bool). b && ltb (i - m + z) n) (lt-leb m i (omega (arith, leb-true o m e)))

-- ---- five entries, read by offset

entries_at : (w k : ℤ) (n z i t : ℕ) → t < 5 → get_or (entries_of w k n z i) t nan ≡ entry_of w k n z i t
entries_at w k n z i zero h = refl
entries_at w k n z i (suc zero) h = refl
entries_at w k n z i (suc (suc zero)) h = refl
entries_at w k n z i (suc (suc (suc zero))) h = refl
entries_at w k n z i (suc (suc (suc (suc zero)))) h = refl
entries_at w k n z i (suc (suc (suc (suc (suc t))))) h = absurd (omega arith)

-- ---- an entry of the grid

sum_order : (w k d l a : ℤ) → (w +ℤ l *ℤ a) +ℤ k *ℤ d ≡ w +ℤ k *ℤ d +ℤ l *ℤ a
sum_order = ring 5 (λ w k d l a. (w ⊕ l ⊗ a) ⊕ k ⊗ d ≗ w ⊕ k ⊗ d ⊕ l ⊗ a) tt

only_down : (k d l : ℤ) → k *ℤ d ≡ pos 0 +ℤ k *ℤ d +ℤ l *ℤ pos 0
only_down = ring 3 (λ k d l. k ⊗ d ≗ num 0 ⊕ k ⊗ d ⊕ l ⊗ num 0) tt

only_across : (k l a : ℤ) → l *ℤ a ≡ pos 0 +ℤ k *ℤ pos 0 +ℤ l *ℤ a
only_across = ring 3 (λ k l a. l ⊗ a ≗ num 0 ⊕ k ⊗ num 0 ⊕ l ⊗ a) tt

pub neither : (k l : ℤ) → pos 0 ≡ pos 0 +ℤ k *ℤ pos 0 +ℤ l *ℤ pos 0
neither = ring 2 (λ k l. num 0 ≗ num 0 ⊕ k ⊗ num 0 ⊕ l ⊗ num 0) tt

module _ (g : Job) (some : 1 ≤ g.columns) (few : g.across ≤ 4) (j : ℕ) where
  abbrev c : ℕ
  c = g.columns

  abbrev place : ℕ
  place = j % c

  abbrev row : ℕ
  row = j / c

  place_below : place < c
  place_below = N.mod-lt j some

  -- the whole number at the offset o, by what the two tests say of o
  abbrev whole : (b e : Bool) (o : ℕ) → ℤ
  whole b e o =
      (if b then g.weight j else pos 0) +ℤ g.constant *ℤ (if e then squares_at g.rows g.order row (o / c) else pos 0) +ℤ g.second *ℤ across_squares g j o

  -- on the diagonal
  at_zero : whole_entry (whole_entry (g.weight j) g.second (across_squares g j 0) 0) g.constant (squares_at g.rows g.order row 0) 0
      ≡ g.weight j +ℤ g.constant *ℤ squares_at g.rows g.order row 0 +ℤ g.second *ℤ across_squares g j 0
  at_zero = sum_order (g.weight j) g.constant (squares_at g.rows g.order row 0) g.second (across_squares g j 0)

  diagonal : get_or (below_of g j) (0 / c) nan ≡ grid_entry g j 0
  unfolding grid_entry
  diagonal = rw (N.zero-div c, N.zero-mod c) (ap (of_int binary64) at_zero)

  -- a whole number of columns before
  module _ (o : ℕ) (pos-o : 1 ≤ o) (aligned : o % c ≡ 0) (near : o < 5 * c) where
    turns : c * (o / c) ≡ o
    turns = omega (arith, N.div-add-mod o c)

    turn_some : (t : ℕ) → c * t ≡ o → t ≡ 0 → ⊥
    turn_some t e q = omega (arith, sym e ∙ ap (λ (t : ℕ). c * t) q ∙ N.mul-zero c)

    past : c ≤ o
    past = go (o / c) turns (turn_some (o / c) turns)
      where
        go : (t : ℕ) → c * t ≡ o → (t ≡ 0 → ⊥) → c ≤ o
        go zero e q = absurd (q refl)
        go (suc t) e q = omega (arith, e, N.mul-suc c t)

    down_entry : get_or (below_of g j) (o / c) nan ≡ grid_entry g j o
    unfolding grid_entry
    down_entry =
        entries_at (whole_entry (g.weight j) g.second (across_squares g j 0) 0) g.constant g.rows g.order row (o / c) ((N.div-lt_iff_lt-mul some).1 near)
        ∙ ap (of_int binary64) down_whole
      where
        down_whole : whole_entry (whole_entry (g.weight j) g.second (across_squares g j 0) 0) g.constant (squares_at g.rows g.order row (o / c)) (o / c)
            ≡ weight_at g j o +ℤ g.constant *ℤ down_squares g j o +ℤ g.second *ℤ across_squares g j o
        down_whole =
            rw (ne_eqb (o / c) 0 (turn_some (o / c) turns), ne_eqb o 0 (λ e. omega arith), aligned, squares_before c g.across place o (omega (arith, place_below, past)))
            (only_down g.constant (squares_at g.rows g.order row (o / c)) g.second)

  -- within a row
  module _ (o : ℕ) (apart : o % c ≡ 0 → ⊥) where
    not_zero : o ≡ 0 → ⊥
    not_zero e = apart (ap (λ (k : ℕ). k % c) e ∙ N.zero-mod c)

    across_entry : o ≤ 4 → get_or (beside_of g j) o nan ≡ grid_entry g j o
    unfolding grid_entry
    across_entry h =
        entries_at (pos 0) g.second c g.across place o (omega arith)
        ∙ ap (of_int binary64) across_whole
      where
        across_whole : whole_entry (pos 0) g.second (across_squares g j o) o ≡ weight_at g j o +ℤ g.constant *ℤ down_squares g j o +ℤ g.second *ℤ across_squares g j o
        across_whole = rw (ne_eqb o 0 not_zero, ne_eqb (o % c) 0 apart) (only_across g.constant g.second (across_squares g j o))

    no_entry : 4 < o → zero64 ≡ grid_entry g j o
    unfolding grid_entry of_int
    no_entry h =
        ap (of_int binary64) none
      where
        none : pos 0 ≡ weight_at g j o +ℤ g.constant *ℤ down_squares g j o +ℤ g.second *ℤ across_squares g j o
        none = rw (ne_eqb o 0 not_zero, ne_eqb (o % c) 0 apart, squares_far c g.across place o (omega arith)) (neither g.constant g.second)

  pub entry_held : (o : ℕ) → o < 5 * c → entry_at c (below_of g j) (beside_of g j) o ≡ grid_entry g j o
  entry_held o near = go (eqb (o % c) 0) refl
    where
      aligned_entry : (o : ℕ) → o < 5 * c → o % c ≡ 0 → get_or (below_of g j) (o / c) nan ≡ grid_entry g j o
      aligned_entry zero l e = diagonal
      aligned_entry (suc o) l e = down_entry (suc o) (omega arith) e l

      apart_entry : (b : Bool) → leb o 4 ≡ b → (o % c ≡ 0 → ⊥) → (if b then get_or (beside_of g j) o nan else zero64) ≡ grid_entry g j o
      apart_entry true h e = across_entry o e (leb-true o 4 h)
      apart_entry false h e = no_entry o e (leb-false o 4 h)

      go : (b : Bool) → eqb (o % c) 0 ≡ b → (if b then get_or (below_of g j) (o / c) nan else if leb o 4 then get_or (beside_of g j) o nan else zero64) ≡ grid_entry g j o
      go true e = aligned_entry o near (eqb-true (o % c) 0 e)
      go false e = apart_entry (leb o 4) refl (eqb-false (o % c) 0 e)

-- ---- a row, and the band

filled_cong : {A : Type 0} (f h : ℕ → A) (n i : ℕ) (xs : List A) → ((o : ℕ) → o < i + n → f o ≡ h o) → filled f n i xs ≡ filled h n i xs
unfolding filled
filled_cong f h zero i xs e = refl
filled_cong f h (suc n) i xs e = ap (λ (x : _). filled f n (i + 1) (set xs i x)) (e i (omega arith)) ∙ filled_cong f h n (i + 1) (set xs i (h i)) (λ o l. e o (omega arith))

-- a row of the band, into a list of zeros
pub row_spread : (g : Job) → 1 ≤ g.columns → g.order ≤ 4 → g.across ≤ 4 → (j : ℕ)
    → spread_of g.columns (reach g) (below_of g j) (beside_of g j) (replicate 49 zero64) ≡ grid_rows g j
unfolding spread_of
row_spread g some down-few across_few j =
    filled_cong (entry_at g.columns (below_of g j) (beside_of g j)) (grid_entry g j) (reach g + 1) 0 (replicate 49 zero64)
    (λ o l. entry_held g some across_few j o (omega (arith, N.mul-le-mul_right g.columns down-few)))

pub row_length : (g : Job) (j : ℕ) {xs : List Float} → xs ≡ grid_rows g j → length xs ≡ 49
row_length g j e = ap length e ∙ length_filled (grid_entry g j) (reach g + 1) 0 (replicate 49 zero64) ∙ length-replicate 49 zero64

-- ---- from an offset to the next, by whole rows and cells past them

module _ (c o : ℕ) (some : 1 ≤ c) where
  place_of : (q r : ℕ) → r < c → (q * c + r) % c ≡ r
  place_of q r h = N.mul-add-mod_self_right q c r ∙ N.mod-eq_of_lt h

  turns_of : (q r : ℕ) → r < c → (q * c + r) / c ≡ q
  turns_of q r h = N.mul-add-div_right some q r ∙ ap (λ (k : ℕ). q + k) (N.div-eq_of_lt h) ∙ N.add-zero q

  both : o / c * c + o % c ≡ o
  both = N.div-add-mod' o c

  pub past_next : (o % c + 1 ≡ c → ⊥) → ((o + 1) % c ≡ o % c + 1) × ((o + 1) / c ≡ o / c)
  past_next q =
      let r : o % c < c = N.mod-lt o some in
      let l : o % c + 1 < c = below (ltb (o % c + 1) c) refl in
      let e : o + 1 ≡ o / c * c + (o % c + 1) = omega (arith, both) in
      (ap (λ (k : ℕ). k % c) e ∙ place_of (o / c) (o % c + 1) l, ap (λ (k : ℕ). k / c) e ∙ turns_of (o / c) (o % c + 1) l)
    where
      below : (t : Bool) → ltb (o % c + 1) c ≡ t → o % c + 1 < c
      below true e = ltb-true (o % c + 1) c e
      below false e = absurd (q (omega (arith, N.mod-lt o some, ltb-false (o % c + 1) c e)))

  pub turn_next : o % c + 1 ≡ c → ((o + 1) % c ≡ 0) × ((o + 1) / c ≡ o / c + 1)
  turn_next q =
      let e : o + 1 ≡ (o / c + 1) * c + 0 = omega (arith, both, N.add-mul (o / c) 1 c, N.one-mul c) in
      (ap (λ (k : ℕ). k % c) e ∙ place_of (o / c + 1) 0 (omega arith), ap (λ (k : ℕ). k / c) e ∙ turns_of (o / c + 1) 0 (omega arith))
