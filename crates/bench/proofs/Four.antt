-- A list of four elements, written whole.
use Rattle.std.proofs.Common.{◌≡◌, ℕ, List, [], ◌∷◌, length, set, refl, arith}

pub four : (l : List ℕ) (a b c d : ℕ) → length l ≡ 4 → set (set (set (set l 0 a) 1 b) 2 c) 3 d ≡ a ∷ b ∷ c ∷ d ∷ []
four [] a b c d e = absurd (omega arith)
four (x ∷ []) a b c d e = absurd (omega arith)
four (x ∷ y ∷ []) a b c d e = absurd (omega arith)
four (x ∷ y ∷ z ∷ []) a b c d e = absurd (omega arith)
four (x ∷ y ∷ z ∷ w ∷ []) a b c d e = refl
four (x ∷ y ∷ z ∷ w ∷ v ∷ l) a b c d e = absurd (omega arith)
