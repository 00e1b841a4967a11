-- Document 02, W-202: the largest of n terms, by its place.
use Rattle.std.specs.Prelude.{ℕ, zero, suc, ◌<◌, ℤ, ◌≤ℤ◌, ◌<ℤ◌}
use Rattle.std.specs.Int.Signed.{lt_z}
use Rattle.std.specs.Prelude.{if◌then◌else◌}

-- Of n terms the place of the largest, "the lowest place if several are equal": a later one takes it only if it is larger.
unfoldable pub largest_of : (t : ℕ → ℤ) → (n : ℕ) → ℕ
largest_of t zero = zero
largest_of t (suc n) = if lt_z (t (largest_of t n)) (t n) then n else largest_of t n

-- What a place says that is the largest of n terms: no term is above its own, and every term of a lower place is below it.
pub record Largest (t : ℕ → ℤ) (n place : ℕ) : Type 0 where
  pub among : place < n
  pub highest : (i : ℕ) → i < n → t i ≤ℤ t place
  pub lowest : (i : ℕ) → i < place → t i <ℤ t place
