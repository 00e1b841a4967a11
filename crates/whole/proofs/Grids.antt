-- The cells of a grid, by rows and columns: r · columns + c stands in the row r and the column c. So a map of rows and one of columns make one of cells, and what holds
-- of every row and column holds of every cell.
use Prim.Native.Nat.{ℕ, suc, ◌+◌, ◌*◌, ◌/◌, ◌%◌, ◌<◌, zero-le}
use mathlib.Core.Path.{◌≡◌, sym, ap, ap₂, subst, ◌∙◌}
use mathlib.Core.Logic.{◌⊎◌, inl, inr}
use native.Mathlib.Nat as N
use native.Mathlib.Omega.{arith}
use Rattle.whole.specs.Turned.{from_last, grid_map}
use Rattle.whole.proofs.Turned.{Involution}

pub row_of_lem : (columns r c : ℕ) → c < columns → (r * columns + c) / columns ≡ r
row_of_lem columns r c h =
    N.mul-add-div_right (N.lt_of_le_of_lt zero-le h) r c ∙ ap (λ (x : ℕ). r + x) (N.div-eq_of_lt h) ∙ N.add-zero r

pub column_of : (columns r c : ℕ) → c < columns → (r * columns + c) % columns ≡ c
column_of columns r c h = N.mul-add-mod_self_right r columns c ∙ N.mod-eq_of_lt h

-- the map at a cell given by its row and column
pub map_at : (columns : ℕ) (α β : ℕ → ℕ) (r c : ℕ) → c < columns → grid_map columns α β (r * columns + c) ≡ α r * columns + β c
map_at columns α β r c h = ap₂ (λ (x y : ℕ). α x * columns + β y) (row_of_lem columns r c h) (column_of columns r c h)

-- a row and a column make a cell of the grid
pub cell_inside : (rows columns r c : ℕ) → r < rows → c < columns → r * columns + c < rows * columns
cell_inside rows columns r c h k = omega (arith, N.suc-mul r columns, N.mul-le-mul_right columns h)

-- what holds of every cell by its row and column
module _ (rows columns : ℕ) (P : ℕ → Type 0) (each-cell : (r c : ℕ) → r < rows → c < columns → P (r * columns + c)) where
  pub by_rows : (i : ℕ) → i < rows * columns → P i
  by_rows i h =
      subst P (N.div-add-mod' i columns)
      (each-cell (i / columns) (i % columns) ((N.div-lt_iff_lt-mul some).1 h) (N.mod-lt i some))
    where
      some : 0 < columns
      some = go (N.eq-zero-or-pos columns)
        where
          go : (columns ≡ 0) ⊎ (0 < columns) → 0 < columns
          go (inl e) = absurd (N.not-suc-le-zero (subst (λ (x : ℕ). i < x) (ap (λ (x : ℕ). rows * x) e ∙ N.mul-zero rows) h))
          go (inr l) = l

-- the n cells are turned about if rows and columns are
pub grid_turned : {n : ℕ} (rows columns : ℕ) → rows * columns ≡ n → (α β : ℕ → ℕ) → Involution rows α → Involution columns β
    → Involution n (grid_map columns α β)
grid_turned rows columns e α β I J =
    subst (λ (n : ℕ). Involution n (grid_map columns α β)) e record {
      stays = by_rows rows columns (λ i. grid_map columns α β i < rows * columns)
          (λ r c h k. subst (λ (x : ℕ). x < rows * columns) (sym (map_at columns α β r c k)) (cell_inside rows columns (α r) (β c) (I.stays r h) (J.stays c k)));
      twice = by_rows rows columns (λ i. grid_map columns α β (grid_map columns α β i) ≡ i)
          (λ r c h k.
          ap (grid_map columns α β) (map_at columns α β r c k) ∙ map_at columns α β (α r) (β c) (J.stays c k)
          ∙ ap₂ (λ (x y : ℕ). x * columns + y) (I.twice r h) (J.twice c k));
    }

-- both from the last to the first is every cell from the last to the first
pub grid_backwards : (rows columns i : ℕ) → i < rows * columns → grid_map columns (from_last rows) (from_last columns) i ≡ from_last (rows * columns) i
grid_backwards rows columns =
    by_rows rows columns (λ i. grid_map columns (from_last rows) (from_last columns) i ≡ from_last (rows * columns) i)
    (λ r c h k. map_at columns (from_last rows) (from_last columns) r c k ∙ last r c k (from_last rows r) (omega arith))
  where
    last : (r c : ℕ) → c < columns → (d : ℕ) → d + suc r ≡ rows → d * columns + from_last columns c ≡ from_last (rows * columns) (r * columns + c)
    last r c k d e = omega (arith, ap (λ (x : ℕ). x * columns) (sym e), N.add-mul d (suc r) columns, N.suc-mul r columns)
