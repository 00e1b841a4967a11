-- K'K by its differences: `squares_at` is the sum, over a family of differences, of the products of its coefficients at the two cells. One law for any
-- row, order and stride; a line, the columns and the rows of a grid are its instances.
use Rattle.std.proofs.Common.{◌≡◌, ℕ, zero, suc, ◌+◌, ◌-◌, ◌*◌, ◌/◌, ◌%◌, ◌<◌, ◌≤◌, Bool, true, false, ◌&&◌, eqb, ltb, leb, ℤ, pos, ◌+ℤ◌, ◌*ℤ◌, sym, refl, ap, ◌∙◌, subst, ap₂, arith, ltb-false, ltb-true, eq-eqb, ne_eqb, eqb-true, leb-false, leb-true}
use native.Mathlib.Nat as N
use borrow.Author.Tests.{eqb-false}
use lib.Ieee.{binary64, of_int}
use lib.IntN.{*ℤ_comm, *ℤ-zero}
use Rattle.std.specs.Prelude.{if◌then◌else◌}
use Rattle.whole.specs.Sum.{sum, only}
use Rattle.whole.proofs.Sums.{sum_cong, sum_ext, sum_vanish}
use Rattle.whole.proofs.Parts.{sum_one}
use Rattle.whole.proofs.Rows.{only_same, only_other}
use Rattle.rows.specs.Rows.{row_of}
use Rattle.jobs.specs.Job.{Job}
use Rattle.certificate.specs.Differences.{Family, along, cell_of, coefficient, used_with}
use Rattle.certificate.proofs.Differences.{coefficient_at_place, coefficient_elsewhere, returned_by_row}
use Rattle.house.specs.Band.{uses_both, squares_at}
use Rattle.house.specs.Grid.{reach, down_squares, across_squares, weight_at, grid_entry}
use Rattle.house.specs.Squares.{products_of, across_of, down_family, across_family, LineSquares, DownSquares, AcrossSquares, GridEntries, GridBand}
use Rattle.house.proofs.Spread.{squares_far, squares_before, neither}

-- ---- one law

-- The cell i stands at the place p of a line of `len` cells of the family: a difference uses it with its coefficient m just where the line has room
-- for one that starts m places before p, and then there is one only.
pub record Stands (F : Family) (i p len : ℕ) : Type 0 where
  pub stride : 1 ≤ F.stride
  pub found : (m : ℕ) → m ≤ F.order → m ≤ p → p - m + F.order < len → (f : ℕ) × (f < F.count) × (F.start f + m * F.stride ≡ i)
  pub room : (f m : ℕ) → f < F.count → m ≤ F.order → F.start f + m * F.stride ≡ i → (m ≤ p) × (p - m + F.order < len)
  pub one : (f h : ℕ) → f < F.count → h < F.count → F.start f ≡ F.start h → f ≡ h

module _ (F : Family) (i p len o : ℕ) (st : Stands F i p len) (within : o ≤ i) where
  abbrev s : ℕ
  s = F.stride

  abbrev q : ℕ → ℤ
  q f = coefficient F f (i - o)

  -- the other coefficient of a difference that uses the cell i with its coefficient m
  module _ (f m : ℕ) (e : F.start f + m * s ≡ i) where
    other_at : (t : ℕ) → t * s ≡ o → t ≤ m → m ≤ F.order → q f ≡ F.row (m - t)
    other_at t et h l =
        let split : (m - t) * s + t * s ≡ m * s = sym (N.add-mul (m - t) t s) ∙ ap (λ (k : ℕ). k * s) (N.sub-add_cancel h) in
        let place : i - o ≡ F.start f + (m - t) * s = omega arith in
        ap (coefficient F f) place ∙ coefficient_at_place F f (m - t) st.stride (omega arith)

    other_before : (t : ℕ) → t * s ≡ o → m < t → q f ≡ pos 0
    other_before t et h =
        let more : suc m * s ≤ t * s = N.mul-le-mul_right s h in
        let step : suc m * s ≡ m * s + s = N.suc-mul m s in
        coefficient_elsewhere F f (i - o) (λ k l c. omega (arith, st.stride))

    other_apart : (o % s ≡ 0 → ⊥) → q f ≡ pos 0
    other_apart a = coefficient_elsewhere F f (i - o) (λ k l c. a (go k c (leb k m) refl))
      where
        go : (k : ℕ) → i - o ≡ F.start f + k * s → (b : Bool) → leb k m ≡ b → o % s ≡ 0
        go k c true h =
            let split : (m - k) * s + k * s ≡ m * s = sym (N.add-mul (m - k) k s) ∙ ap (λ (x : ℕ). x * s) (N.sub-add_cancel (leb-true k m h)) in
            let whole : o ≡ (m - k) * s = omega arith in
            ap (λ (x : ℕ). x % s) whole ∙ N.mul-mod_left (m - k) s
        go k c false h =
            let more : m * s ≤ k * s = N.mul-le-mul_right s (N.le_of_lt (leb-false k m h)) in
            let none : o ≡ 0 = omega arith in
            ap (λ (x : ℕ). x % s) none ∙ N.zero-mod s

  -- what comes from the differences that use the cell i with their coefficient m
  none_used : (m : ℕ) → ((f : ℕ) → f < F.count → F.start f + m * s ≡ i → q f ≡ pos 0) → used_with F q i m ≡ pos 0
  none_used m h = sum_vanish F.count (λ f l. go f l (eqb (cell_of F f m) i) refl)
    where
      go : (f : ℕ) → f < F.count → (b : Bool) → eqb (cell_of F f m) i ≡ b → (if b then q f else pos 0) ≡ pos 0
      go f l true e = h f l (eqb-true (cell_of F f m) i e)
      go f l false e = refl

  one_used : (m f : ℕ) → f < F.count → F.start f + m * s ≡ i → used_with F q i m ≡ q f
  one_used m f l e =
      sum_one F.count f {f = λ f. only (cell_of F f m) (q f) i} l (λ h k n. only_other (cell_of F h m) (q h) i (λ c. n (st.one h f k l (omega arith))))
      ∙ ap (λ (k : ℕ). only k (q f) i) e ∙ only_same i (q f)

  abbrev term : (t m : ℕ) → ℤ
  term t m = if uses_both len F.order p t m then F.row m *ℤ F.row (m - t) else pos 0

  -- a whole number of strides before
  module _ (t : ℕ) (et : t * s ≡ o) (m : ℕ) (l : m ≤ F.order) where
    used : (a b c : Bool) → leb t m ≡ a → leb m p ≡ b → ltb (p - m + F.order) len ≡ c
        → F.row m *ℤ used_with F q i m ≡ (if a && (b && c) then F.row m *ℤ F.row (m - t) else pos 0)
    used a true true ea eb ec =
        let d = st.found m l (leb-true m p eb) (ltb-true (p - m + F.order) len ec) in
        ap (λ (x : ℤ). F.row m *ℤ x) (one_used m d.0 d.1 d.2) ∙ go a ea d.0 d.2
      where
        go : (a : Bool) → leb t m ≡ a → (f : ℕ) → F.start f + m * s ≡ i → F.row m *ℤ q f ≡ (if a && true then F.row m *ℤ F.row (m - t) else pos 0)
        go true ea f e = ap (λ (x : ℤ). F.row m *ℤ x) (other_at f m e t et (leb-true t m ea) l)
        go false ea f e = ap (λ (x : ℤ). F.row m *ℤ x) (other_before f m e t et (leb-false t m ea)) ∙ *ℤ-zero (F.row m)
    used a true false ea eb ec =
        ap (λ (x : ℤ). F.row m *ℤ x) (none_used m (λ f k e. absurd (omega (arith, (st.room f m k l e).1, ltb-false (p - m + F.order) len ec))))
        ∙ *ℤ-zero (F.row m) ∙ nothing a
      where
        nothing : (a : Bool) → pos 0 ≡ (if a && false then F.row m *ℤ F.row (m - t) else pos 0)
        nothing true = refl
        nothing false = refl
    used a false c ea eb ec =
        ap (λ (x : ℤ). F.row m *ℤ x) (none_used m (λ f k e. absurd (omega (arith, (st.room f m k l e).0, leb-false m p eb))))
        ∙ *ℤ-zero (F.row m) ∙ nothing a
      where
        nothing : (a : Bool) → pos 0 ≡ (if a && false then F.row m *ℤ F.row (m - t) else pos 0)
        nothing true = refl
        nothing false = refl

  by_row : products_of F i (i - o) ≡ sum (suc F.order) (λ m. F.row m *ℤ used_with F q i m)
  by_row = sum_ext F.count (λ f. *ℤ_comm (coefficient F f i) (q f)) ∙ returned_by_row F q i

  squares_aligned : (t : ℕ) → t * s ≡ o → products_of F i (i - o) ≡ sum (suc F.order) (term t)
  squares_aligned t et =
      by_row ∙ sum_cong (suc F.order) (λ m l. used t et m (N.le_of_suc-le-suc l) (leb t m) (leb m p) (ltb (p - m + F.order) len) refl refl refl)

  squares_apart : (o % s ≡ 0 → ⊥) → products_of F i (i - o) ≡ pos 0
  squares_apart a =
      by_row
      ∙ sum_vanish (suc F.order) (λ m l. ap (λ (x : ℤ). F.row m *ℤ x) (none_used m (λ f k e. other_apart f m e a)) ∙ *ℤ-zero (F.row m))

  pub squares_by_differences : (if eqb (o % s) 0 then sum (suc F.order) (term (o / s)) else pos 0) ≡ products_of F i (i - o)
  squares_by_differences = go (eqb (o % s) 0) refl
    where
      go : (b : Bool) → eqb (o % s) 0 ≡ b → (if b then sum (suc F.order) (term (o / s)) else pos 0) ≡ products_of F i (i - o)
      go true e = sym (squares_aligned (o / s) (omega (arith, N.div-add-mod' o s, eqb-true (o % s) 0 e)))
      go false e = sym (squares_apart (eqb-false (o % s) 0 e))

-- ---- a line

line_stands : (n z i : ℕ) → Stands (along (row_of z) z 1 (n - z)) i i n
line_stands n z i =
    record {
      stride = omega arith;
      found = λ m l h r. (i - m, omega arith, omega (arith, N.mul-one m));
      room = λ f m k l e. (omega (arith, N.mul-one m), omega (arith, N.mul-one m));
      one = λ f h k l e. e;
    }

pub line_squares : LineSquares
line_squares n z i o h =
    let e : eqb (o % 1) 0 ≡ true = eq-eqb (o % 1) 0 (N.mod-one o) in
    sym (rw (e, N.div-one o) at (sym (squares_by_differences (along (row_of z) z 1 (n - z)) i i n o (line_stands n z i) h)))

-- ---- down the columns

module _ (c : ℕ) (some : 1 ≤ c) (rows z i : ℕ) (inside : i < rows * c) where
  down_found : (m : ℕ) → m ≤ i / c → i / c - m + z < rows → (f : ℕ) × (f < rows * c - z * c) × (f + m * c ≡ i)
  down_found m h r =
      let q = i / c in
      let low : m * c ≤ q * c = N.mul-le-mul_right c h in
      let split : (q - m) * c + m * c ≡ q * c = sym (N.add-mul (q - m) m c) ∙ ap (λ (k : ℕ). k * c) (N.sub-add_cancel h) in
      let high : suc (q - m + z) * c ≤ rows * c = N.mul-le-mul_right c r in
      let opened : suc (q - m + z) * c ≡ (q - m) * c + z * c + c = N.suc-mul (q - m + z) c ∙ ap (λ (k : ℕ). k + c) (N.add-mul (q - m) z c) in
      let whole = N.div-add-mod' i c in
      let rest : i % c < c = N.mod-lt i some in
      (i - m * c, omega arith, omega arith)

  down_room : (f m : ℕ) → f < rows * c - z * c → f + m * c ≡ i → (m ≤ i / c) × (i / c - m + z < rows)
  down_room f m k e =
      let q = i / c in
      let h : m ≤ q = (N.le-div_iff_mul-le some).1 (omega arith) in
      let split : (q - m) * c + m * c ≡ q * c = sym (N.add-mul (q - m) m c) ∙ ap (λ (k : ℕ). k * c) (N.sub-add_cancel h) in
      let opened : (q - m + z) * c ≡ (q - m) * c + z * c = N.add-mul (q - m) z c in
      let whole = N.div-add-mod' i c in
      let less : (q - m + z) * c < rows * c = omega arith in
      (h, N.lt_of_mul-lt-mul_right c less)

  down_stands : Stands (along (row_of z) z c (rows * c - z * c)) i (i / c) rows
  down_stands =
      record {
        stride = some;
        found = λ m l h r. down_found m h r;
        room = λ f m k l e. down_room f m k e;
        one = λ f h k l e. e;
      }

pub down_squares_lem : DownSquares
down_squares_lem g some j o h l = squares_by_differences (down_family g) j (j / g.columns) g.rows o (down_stands g.columns some g.rows g.order j h) l

-- ---- along the rows

module _ (c : ℕ) (some : 1 ≤ c) (rows z i : ℕ) (inside : i < rows * c) where
  abbrev wide : ℕ
  wide = c - z

  abbrev from : ℕ → ℕ
  from f = f / wide * c + f % wide

  -- a row and a place in it say the cell, and the difference
  cell_place : (r x : ℕ) → x < c → (r * c + x) % c ≡ x
  cell_place r x h = N.mul-add-mod_self_right r c x ∙ N.mod-eq_of_lt h

  cell_row : (r x : ℕ) → x < c → (r * c + x) / c ≡ r
  cell_row r x h = N.mul-add-div_right some r x ∙ ap (λ (k : ℕ). r + k) (N.div-eq_of_lt h) ∙ N.add-zero r

  across_found : (m : ℕ) → m ≤ i % c → i % c - m + z < c → (f : ℕ) × (f < rows * wide) × (from f + m * 1 ≡ i)
  across_found m h r =
      let x = i % c - m in
      let some_wide : 1 ≤ wide = omega arith in
      let short : x < wide = omega arith in
      let d : (i / c * wide + x) / wide ≡ i / c = N.mul-add-div_right some_wide (i / c) x ∙ ap (λ (k : ℕ). i / c + k) (N.div-eq_of_lt short) ∙ N.add-zero (i / c) in
      let e : (i / c * wide + x) % wide ≡ x = N.mul-add-mod_self_right (i / c) wide x ∙ N.mod-eq_of_lt short in
      let row : suc (i / c) ≤ rows = (N.div-lt_iff_lt-mul some).1 inside in
      let high : suc (i / c) * wide ≤ rows * wide = N.mul-le-mul_right wide row in
      let opened : suc (i / c) * wide ≡ i / c * wide + wide = N.suc-mul (i / c) wide in
      let whole = N.div-add-mod' i c in
      (i / c * wide + x, omega arith, rw (d, e) (omega (arith, N.mul-one m)))

  some_wide : (f : ℕ) → f < rows * wide → 1 ≤ wide
  some_wide f k = go wide refl
    where
      go : (w : ℕ) → wide ≡ w → 1 ≤ wide
      go zero e = absurd (omega (arith, ap (λ (w : ℕ). rows * w) e, N.mul-zero rows))
      go (suc w) e = omega arith

  across_room : (f m : ℕ) → f < rows * wide → m ≤ z → from f + m * 1 ≡ i → (m ≤ i % c) × (i % c - m + z < c)
  across_room f m k l e =
      let short : f % wide < wide = N.mod-lt f (some_wide f k) in
      let cell : f / wide * c + (f % wide + m) ≡ i = omega (arith, N.mul-one m) in
      let place : i % c ≡ f % wide + m = ap (λ (k : ℕ). k % c) (sym cell) ∙ cell_place (f / wide) (f % wide + m) (omega arith) in
      (omega arith, omega arith)

  across_one : (f h : ℕ) → f < rows * wide → h < rows * wide → from f ≡ from h → f ≡ h
  across_one f h k l e =
      let fs : f % wide < c = N.lt_of_lt_of_le (N.mod-lt f (some_wide f k)) (N.sub-le c z) in
      let hs : h % wide < c = N.lt_of_lt_of_le (N.mod-lt h (some_wide h l)) (N.sub-le c z) in
      let r : f / wide ≡ h / wide = sym (cell_row (f / wide) (f % wide) fs) ∙ ap (λ (k : ℕ). k / c) e ∙ cell_row (h / wide) (h % wide) hs in
      let x : f % wide ≡ h % wide = sym (cell_place (f / wide) (f % wide) fs) ∙ ap (λ (k : ℕ). k % c) e ∙ cell_place (h / wide) (h % wide) hs in
      sym (N.div-add-mod' f wide) ∙ ap₂ (λ (a b : ℕ). a * wide + b) r x ∙ N.div-add-mod' h wide

  across_stands : Stands (across_of (row_of z) z rows c) i (i % c) c
  across_stands =
      record {
        stride = omega arith;
        found = λ m l h r. across_found m h r;
        room = λ f m k l e. across_room f m k l e;
        one = across_one;
      }

pub across_squares_lem : AcrossSquares
across_squares_lem g some j o h l =
    let e : eqb (o % 1) 0 ≡ true = eq-eqb (o % 1) 0 (N.mod-one o) in
    sym (rw (e, N.div-one o) at (sym (squares_by_differences (across_family g) j (j % g.columns) g.columns o (across_stands g.columns some g.rows g.across j h) l)))

-- ---- A

pub grid_entries : GridEntries
unfolding grid_entry
grid_entries g some j o h l =
    ap₂ (λ (x y : ℤ). of_int binary64 (weight_at g j o +ℤ g.constant *ℤ x +ℤ g.second *ℤ y)) (down_squares_lem g some j o h l) (across_squares_lem g some j o h l)

module _ (g : Job) (some : 1 ≤ g.columns) (order : 1 ≤ g.order) (j o : ℕ) (far : reach g < o) where
  past : g.columns < o
  past = N.lt_of_le_of_lt (subst (λ (k : ℕ). k ≤ reach g) (N.one-mul g.columns) (N.mul-le-mul_right g.columns order)) far

  down_ends : down_squares g j o ≡ pos 0
  down_ends = go (eqb (o % g.columns) 0) refl
    where
      go : (b : Bool) → eqb (o % g.columns) 0 ≡ b → (if b then squares_at g.rows g.order (j / g.columns) (o / g.columns) else pos 0) ≡ pos 0
      go true e =
          let turns : o / g.columns * g.columns ≡ o = omega (arith, N.div-add-mod' o g.columns, eqb-true (o % g.columns) 0 e) in
          let less : g.order * g.columns < o / g.columns * g.columns = omega arith in
          squares_far g.rows g.order (j / g.columns) (o / g.columns) (N.lt_of_mul-lt-mul_right g.columns less)
      go false e = refl

  whole_ends : weight_at g j o +ℤ g.constant *ℤ down_squares g j o +ℤ g.second *ℤ across_squares g j o ≡ pos 0
  whole_ends =
      rw (ne_eqb o 0 (λ e. omega (arith, past)), down_ends, squares_before g.columns g.across (j % g.columns) o (omega (arith, past, N.mod-lt j some)))
      (sym (neither g.constant g.second))

pub grid_band : GridBand
unfolding grid_entry of_int
grid_band g some order j o far = ap (of_int binary64) (whole_ends g some order j o far)
