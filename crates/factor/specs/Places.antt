-- What the functions of this crate count on: where rows start among the multipliers, and that there is room for them. Nothing promised rests on this
-- file.
use Rattle.std.specs.Prelude.{ℕ, ◌≤◌, ◌≡◌, List, length, get_or, Float}
use Rattle.std.specs.Coded.{Coded-set, coded_ℕ, le_prop}
use Rattle.factor.specs.Factor.{start_of}

-- A list with the starts of n rows, and the end of the last.
pub record Starts (z n : ℕ) (starts : List ℕ) : Type 0 where
  pub at : (i : ℕ) → i ≤ n → get_or starts i 0 ≡ start_of z i

-- With it, a list with room for the multipliers of n rows.
pub record Placed (z n : ℕ) (starts : List ℕ) (l : List Float) : Type 0 where
  pub listed : Starts z n starts
  pub room : start_of z n ≤ length l

-- The second holds in one way only, so a struct may keep it.
pub Placed-prop : (z n : ℕ) (starts : List ℕ) (l : List Float) → IsProp (Placed z n starts l)
Placed-prop z n starts l a b = λ t. record {
  listed = record { at = λ i h. Coded-set coded_ℕ _ _ (a.listed.at i h) (b.listed.at i h) t };
  room = le_prop a.room b.room t;
}
