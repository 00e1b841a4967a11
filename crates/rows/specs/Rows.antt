-- Document 01, "Loss and gap": "The rows s are: order 1: -1 1; order 2: 1 -2 1; order 3: -1 3 -3 1; order 4: 1 -4 6 -4 1."
use Rattle.std.specs.Prelude.{ℕ, ◌≡◌, List, [], ◌∷◌, ℤ, pos, negsuc, get_or}

-- One row an order, with zeros after its last coefficient. The row of order 0 leaves a table as it is; no job has that order.
abbrev pub rows : List (List ℤ)
rows =
    (pos 1 ∷ pos 0 ∷ pos 0 ∷ pos 0 ∷ pos 0 ∷ [])
    ∷ (negsuc 0 ∷ pos 1 ∷ pos 0 ∷ pos 0 ∷ pos 0 ∷ [])
    ∷ (pos 1 ∷ negsuc 1 ∷ pos 1 ∷ pos 0 ∷ pos 0 ∷ [])
    ∷ (negsuc 0 ∷ pos 3 ∷ negsuc 2 ∷ pos 1 ∷ pos 0 ∷ [])
    ∷ (pos 1 ∷ negsuc 3 ∷ pos 6 ∷ negsuc 3 ∷ pos 1 ∷ [])
    ∷ []

-- s(m) of the order z
unfoldable pub row_of : (z m : ℕ) → ℤ
row_of z m = get_or (get_or rows z []) m (pos 0)

-- A list of words is the row of the order z: s(m) stands at m.
pub record IsRow (z : ℕ) (s : List ℤ) : Type 0 where
  pub at : (m : ℕ) → get_or s m (pos 0) ≡ row_of z m
