-- What the functions that put a part of a text say: the bytes stand at the offset, the rest is untouched, and the answer is the offset after them.
use Rattle.std.specs.Prelude.{ℕ, ◌+◌, ◌≤◌, ◌≡◌, List, length}
use Rattle.std.proofs.lemmas.List.Edits.{sets}

pub record Puts (bytes : List ℕ) (out : List ℕ) (at r : ℕ) (after : List ℕ) : Type 0 where
  pub next : r ≡ at + length bytes
  pub stored : after ≡ sets out at bytes

-- What they ask for: room for the bytes.
pub record Room (bytes : List ℕ) (at : ℕ) (out : List ℕ) : Type 0 where
  pub fits : at + length bytes ≤ length out
