-- Inequalities by a code of their witness: l ≤ r holds where r - l is a sum of products of hypotheses, squares and natural numbers, which the
-- solver of `Solve` checks. The hypotheses stand before the conclusion and are numbered from 0:
--
--     mul_mono : (a b c d : ℤ) → a ≤ℤ b → c ≤ℤ d → pos 0 ≤ℤ a → pos 0 ≤ℤ d → (a *ℤ c) ≤ℤ (b *ℤ d)
--     mul_mono = ineq 4 (λ a b c d. a ⊑ b ⇒ c ⊑ d ⇒ num 0 ⊑ a ⇒ num 0 ⊑ d ⇒ a ⊗ c ⊑ b ⊗ d by hyp 0 ⊠ hyp 3 ⊞ hyp 2 ⊠ hyp 1) tt
use mathlib.Core.Path.{subst}
use mathlib.Core.List.{List, [], ◌∷◌}
use mathlib.Core.Bool.{Bool}
use Prim.Native.Nat.{ℕ, zero, suc}
use lib.Dec.{T}
use lib.IntN.{ℤ, pos, ◌+ℤ◌, ◌*ℤ◌}
use lib.Signed.{◌≤ℤ◌, ≤ℤ_refl}
use Rattle.whole.proofs.Solve.{Expr, num, ◌⊕◌, ◌⊖◌, ◌⊗◌, eval, at, same, sides_equal, Code, named, Each, for_each}
use Rattle.whole.proofs.Order.{≤ℤ-of-sub, ≤ℤ-sub, +ℤ-nonneg, *ℤ-nonneg, sq_nonneg, pos_nonneg}

-- a ≤ b
infix 5 ◌⊑◌
pub data Bound : Type 0 where
  ◌⊑◌ : Expr → Expr → Bound

-- what is not negative: b - a of the hypothesis k, a natural number, a square, a sum, a product
infixl 6 ◌⊞◌
infixl 7 ◌⊠◌
pub data Witness : Type 0 where
  hyp : ℕ → Witness
  nat : ℕ → Witness
  sqr : Expr → Witness
  ◌⊞◌ : Witness → Witness → Witness
  ◌⊠◌ : Witness → Witness → Witness

-- hypotheses, a conclusion, and its witness
infixr 3 ◌⇒◌
infix 4 ◌by◌
pub data Inequality : Type 0 where
  ◌⇒◌ : Bound → Inequality → Inequality
  ◌by◌ : Bound → Witness → Inequality

-- the hypotheses
abbrev pub facts : Inequality → List Bound
facts (h ⇒ i) = h ∷ facts i
facts (g by p) = []

-- b - a of the hypothesis k
abbrev pub room : List Bound → ℕ → Expr
room [] k = num 0
room ((a ⊑ b) ∷ hs) zero = b ⊖ a
room ((a ⊑ b) ∷ hs) (suc k) = room hs k

-- the witness as an expression
abbrev pub comes_to : List Bound → Witness → Expr
comes_to hs (hyp k) = room hs k
comes_to hs (nat n) = num n
comes_to hs (sqr e) = e ⊗ e
comes_to hs (p ⊞ q) = comes_to hs p ⊕ comes_to hs q
comes_to hs (p ⊠ q) = comes_to hs p ⊗ comes_to hs q

-- the test: the witness is r - l
abbrev pub witnessed : List Bound → Inequality → Bool
witnessed hs (h ⇒ i) = witnessed hs i
witnessed hs ((l ⊑ r) by p) = same (comes_to hs p) (r ⊖ l)

-- ---- what it means

abbrev pub Above : Bound → List ℤ → Type 0
Above (a ⊑ b) xs = eval (at xs) a ≤ℤ eval (at xs) b

abbrev pub Follows : Inequality → List ℤ → Type 0
Follows (h ⇒ i) xs = Above h xs → Follows i xs
Follows (g by p) xs = Above g xs

abbrev Given : List Bound → List ℤ → Type 0
Given [] xs = Unit {0}
Given (h ∷ hs) xs = Above h xs × Given hs xs

module _ (xs : List ℤ) where
  room_ok : (hs : List Bound) → Given hs xs → (k : ℕ) → pos 0 ≤ℤ eval (at xs) (room hs k)
  room_ok [] g k = ≤ℤ_refl (pos 0)
  room_ok ((a ⊑ b) ∷ hs) g zero = ≤ℤ-sub g.0
  room_ok ((a ⊑ b) ∷ hs) g (suc k) = room_ok hs g.1 k

  comes_to_ok : (hs : List Bound) → Given hs xs → (p : Witness) → pos 0 ≤ℤ eval (at xs) (comes_to hs p)
  comes_to_ok hs g (hyp k) = room_ok hs g k
  comes_to_ok hs g (nat n) = pos_nonneg n
  comes_to_ok hs g (sqr e) = sq_nonneg (eval (at xs) e)
  comes_to_ok hs g (p ⊞ q) = +ℤ-nonneg (comes_to_ok hs g p) (comes_to_ok hs g q)
  comes_to_ok hs g (p ⊠ q) = *ℤ-nonneg (comes_to_ok hs g p) (comes_to_ok hs g q)

  -- hs are all hypotheses, i what is left of the inequality
  conclude : (hs : List Bound) (i : Inequality) → (Given (facts i) xs → Given hs xs) → T (witnessed hs i) → Follows i xs
  conclude hs (h ⇒ i) f t = λ k. conclude hs i (λ g. f (k, g)) t
  conclude hs ((l ⊑ r) by p) f t =
      ≤ℤ-of-sub (subst (λ (x : ℤ). pos 0 ≤ℤ x) (sides_equal (at xs) (comes_to hs p) (r ⊖ l) t) (comes_to_ok hs (f tt) p))

pub ineq : (n : ℕ) (c : Code Inequality n) → T (witnessed (facts (named n c)) (named n c)) → Each n (Follows (named n c)) []
ineq n c t = for_each n (λ xs. conclude xs (facts (named n c)) (named n c) (λ g. g) t) []

-- ---- two inequalities

-- 2ab ≤ a² + b²
pub two_products : (a b : ℤ) → (pos 2 *ℤ a *ℤ b) ≤ℤ (a *ℤ a +ℤ b *ℤ b)
two_products = ineq 2 (λ a b. num 2 ⊗ a ⊗ b ⊑ a ⊗ a ⊕ b ⊗ b by sqr (a ⊖ b)) tt

-- a c ≤ b d
pub mul_mono : (a b c d : ℤ) → a ≤ℤ b → c ≤ℤ d → pos 0 ≤ℤ a → pos 0 ≤ℤ d → (a *ℤ c) ≤ℤ (b *ℤ d)
mul_mono = ineq 4 (λ a b c d. a ⊑ b ⇒ c ⊑ d ⇒ num 0 ⊑ a ⇒ num 0 ⊑ d ⇒ a ⊗ c ⊑ b ⊗ d by hyp 0 ⊠ hyp 3 ⊞ hyp 2 ⊠ hyp 1) tt
