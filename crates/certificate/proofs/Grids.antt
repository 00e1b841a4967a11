-- The differences of a grid whose rows and columns are turned about: those down its columns are carried if those of a line of its rows are, and those along
-- its rows if those of a line of its columns are. With `backwards_carried` and `still_carried` for the lines these are all three ways.
use Prim.Native.Nat.{ℕ, suc, ◌+◌, ◌-◌, ◌*◌, ◌≤◌, ◌<◌}
use mathlib.Core.Path.{◌≡◌, refl, sym, ap, ap₂, subst, ◌∙◌}
use mathlib.Core.Bool.{Bool, true, false, cond}
use native.Mathlib.Nat as N
use native.Mathlib.Omega.{arith}
use borrow.Author.Tests.{ltb-true, ltb-false, lt-ltb}
use lib.Dec.{ltb}
use lib.IntN.{ℤ}
use Rattle.whole.specs.Turned.{grid_map}
use Rattle.whole.proofs.Turned.{Involution}
use Rattle.whole.proofs.Grids.{column_of, map_at, cell_inside, by_rows, grid_turned}
use Rattle.certificate.specs.Differences.{along, in_row}
use Rattle.certificate.proofs.Turned.{each, Carried}

-- ---- down the columns

module _ (row : ℕ → ℤ) (order rows columns : ℕ) (α β : ℕ → ℕ) (C : Carried (along row order 1 (rows - order)) each α) where
  -- the line's own rule
  line : (r m : ℕ) → r < rows - order → m ≤ order → C.φ r + m ≡ α (r + C.ρ m)
  line r m p l = ap (λ (x : ℕ). C.φ r + x) (sym (N.mul-one m)) ∙ C.cells r m p refl l ∙ ap (λ (x : ℕ). α (r + x)) (N.mul-one (C.ρ m))

  down_meets : (m : ℕ) → m ≤ order → (r c : ℕ) → r < rows - order → c < columns
      → grid_map columns C.φ β (r * columns + c) + m * columns ≡ grid_map columns α β (r * columns + c + C.ρ m * columns)
  down_meets m l r c p q =
      ap (λ (x : ℕ). x + m * columns) (map_at columns C.φ β r c q)
      ∙ moved (C.φ r) (β c) m
      ∙ ap (λ (x : ℕ). x * columns + β c) (line r m p l)
      ∙ sym (ap (grid_map columns α β) (moved r c (C.ρ m)) ∙ map_at columns α β (r + C.ρ m) c q)
    where
      moved : (x y m : ℕ) → x * columns + y + m * columns ≡ (x + m) * columns + y
      moved x y m = omega (arith, N.add-mul x m columns)

  pub grid_down_carried : Involution columns β → Carried (along row order columns (rows * columns - order * columns)) each (grid_map columns α β)
  grid_down_carried J = record {
    φ = grid_map columns C.φ β;
    ρ = C.ρ;
    s = C.s;
    sign = C.sign;
    differences = grid_turned (rows - order) columns many C.φ β C.differences J;
    coefficients = C.coefficients;
    row = C.row;
    alike = λ f h. refl;
    cells = λ f m h e l.
        by_rows (rows - order) columns (λ f. grid_map columns C.φ β f + m * columns ≡ grid_map columns α β (f + C.ρ m * columns))
        (down_meets m l) f (subst (λ (k : ℕ). f < k) (sym many) h);
  }
    where
      many : (rows - order) * columns ≡ rows * columns - order * columns
      many = go (ltb rows order) refl
        where
          go : (b : Bool) → ltb rows order ≡ b → (rows - order) * columns ≡ rows * columns - order * columns
          go true e =
              let none : rows - order ≡ 0 = omega (arith, ltb-true rows order e) in
              omega (arith, ap (λ (k : ℕ). k * columns) none, N.zero-mul columns, N.mul-le-mul_right columns (N.le_of_lt (ltb-true rows order e)))
          go false e =
              let all : rows - order + order ≡ rows = omega (arith, ltb-false rows order e) in
              omega (arith, N.add-mul (rows - order) order columns, ap (λ (k : ℕ). k * columns) all)

-- ---- along the rows

module _ (row : ℕ → ℤ) (order rows columns : ℕ) (α β : ℕ → ℕ) (I : Involution rows α) (C : Carried (along row order 1 (columns - order)) each β) where
  -- a difference that stays in its row goes over into one that does; the others, which stand as 0, stay where they are
  abbrev over : ℕ → ℕ
  over f = cond (in_row columns order 1 f) (grid_map columns α C.φ f) f

  seen : (r c : ℕ) → c < columns → in_row columns order 1 (r * columns + c) ≡ ltb (c + order * 1) columns
  seen r c k = ap (λ (x : ℕ). ltb (x + order * 1) columns) (column_of columns r c k)

  within : (r c : ℕ) → c < columns → ltb (c + order * 1) columns ≡ true → over (r * columns + c) ≡ α r * columns + C.φ c
  within r c k e =
      ap (λ (b : Bool). cond b (grid_map columns α C.φ (r * columns + c)) (r * columns + c)) (seen r c k ∙ e) ∙ map_at columns α C.φ r c k

  beyond : (r c : ℕ) → c < columns → ltb (c + order * 1) columns ≡ false → over (r * columns + c) ≡ r * columns + c
  beyond r c k e = ap (λ (b : Bool). cond b (grid_map columns α C.φ (r * columns + c)) (r * columns + c)) (seen r c k ∙ e)

  -- the column that a difference goes over into has room for it too
  roomy : (c : ℕ) → ltb (c + order * 1) columns ≡ true → C.φ c + order < columns
  roomy c e = omega (arith, ltb-true (c + order * 1) columns e, C.differences.stays c (omega (arith, ltb-true (c + order * 1) columns e)))

  still_in : (c : ℕ) → ltb (c + order * 1) columns ≡ true → ltb (C.φ c + order * 1) columns ≡ true
  still_in c e = lt-ltb (C.φ c + order * 1) columns (omega (arith, roomy c e))

  near : (c : ℕ) → ltb (c + order * 1) columns ≡ true → C.φ c < columns
  near c e = omega (arith, roomy c e)

  over_stays : (r c : ℕ) → r < rows → c < columns → r * columns + c < rows * columns - order * 1 → over (r * columns + c) < rows * columns - order * 1
  over_stays r c h k l = go (ltb (c + order * 1) columns) refl
    where
      go : (b : Bool) → ltb (c + order * 1) columns ≡ b → over (r * columns + c) < rows * columns - order * 1
      go true e =
          subst (λ (x : ℕ). x < rows * columns - order * 1) (sym (within r c k e))
          (omega (arith, cell_inside rows columns (α r) (C.φ c + order) (I.stays r h) (roomy c e)))
      go false e = subst (λ (x : ℕ). x < rows * columns - order * 1) (sym (beyond r c k e)) l

  over_twice : (r c : ℕ) → r < rows → c < columns → over (over (r * columns + c)) ≡ r * columns + c
  over_twice r c h k = go (ltb (c + order * 1) columns) refl
    where
      go : (b : Bool) → ltb (c + order * 1) columns ≡ b → over (over (r * columns + c)) ≡ r * columns + c
      go true e =
          ap over (within r c k e) ∙ within (α r) (C.φ c) (near c e) (still_in c e)
          ∙ ap₂ (λ (x y : ℕ). x * columns + y) (I.twice r h) (C.differences.twice c (omega (arith, ltb-true (c + order * 1) columns e)))
      go false e = ap over (beyond r c k e) ∙ beyond r c k e

  over_alike : (r c : ℕ) → r < rows → c < columns → in_row columns order 1 (over (r * columns + c)) ≡ in_row columns order 1 (r * columns + c)
  over_alike r c h k = go (ltb (c + order * 1) columns) refl
    where
      go : (b : Bool) → ltb (c + order * 1) columns ≡ b → in_row columns order 1 (over (r * columns + c)) ≡ in_row columns order 1 (r * columns + c)
      go true e = ap (in_row columns order 1) (within r c k e) ∙ seen (α r) (C.φ c) (near c e) ∙ still_in c e ∙ sym (seen r c k ∙ e)
      go false e = ap (in_row columns order 1) (beyond r c k e)

  across_meets : (m : ℕ) → m ≤ order → (r c : ℕ) → r < rows → c < columns → in_row columns order 1 (r * columns + c) ≡ true
      → over (r * columns + c) + m * 1 ≡ grid_map columns α β (r * columns + c + C.ρ m * 1)
  across_meets m l r c h k e =
      let t : ltb (c + order * 1) columns ≡ true = sym (seen r c k) ∙ e in
      let roomfor : c + order < columns = omega (arith, ltb-true (c + order * 1) columns t) in
      let few : C.ρ m < suc order = C.coefficients.stays m (N.lt_of_le_of_lt l (N.le_refl (suc order))) in
      ap (λ (x : ℕ). x + m * 1) (within r c k t) ∙ N.add_assoc (α r * columns) (C.φ c) (m * 1)
      ∙ ap (λ (x : ℕ). α r * columns + x) (C.cells c m (omega (arith, roomfor)) refl l)
      ∙ sym
      (ap (grid_map columns α β) (N.add_assoc (r * columns) c (C.ρ m * 1))
      ∙ map_at columns α β r (c + C.ρ m * 1) (omega (arith, roomfor, few)))

  pub grid_across_carried : Carried (along row order 1 (rows * columns - order * 1)) (in_row columns order 1) (grid_map columns α β)
  grid_across_carried = record {
    φ = over;
    ρ = C.ρ;
    s = C.s;
    sign = C.sign;
    differences = record {
      stays = λ f h.
          by_rows rows columns (λ f. f < rows * columns - order * 1 → over f < rows * columns - order * 1) over_stays f (omega arith) h;
      twice = λ f h. by_rows rows columns (λ f. over (over f) ≡ f) over_twice f (omega arith);
    };
    coefficients = C.coefficients;
    row = C.row;
    alike = λ f h. by_rows rows columns (λ f. in_row columns order 1 (over f) ≡ in_row columns order 1 f) over_alike f (omega arith);
    cells = λ f m h e l.
        by_rows rows columns (λ f. in_row columns order 1 f ≡ true → over f + m * 1 ≡ grid_map columns α β (f + C.ρ m * 1)) (across_meets m l) f (omega arith) e;
  }
