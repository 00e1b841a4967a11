-- Differences of a table whose cells are turned about. A sum over all differences or over all coefficients does not see in which order it is taken
-- (`sum_turned`), and the sign, which is its own inverse, meets itself.
use Prim.Native.Nat.{ℕ, suc, ◌+◌, ◌-◌, ◌*◌, ◌≤◌, ◌<◌}
use mathlib.Core.Path.{◌≡◌, refl, sym, ap, ap₂, ◌∙◌}
use mathlib.Core.Bool.{Bool, true, false, cond}
use native.Mathlib.Nat as N
use native.Mathlib.Omega.{arith}
use lib.IntN.{ℤ, pos, ◌*ℤ◌, zero-*ℤ, *ℤ-zero}
use Rattle.whole.specs.Sum.{sum, only}
use Rattle.whole.specs.Turned.{from_last}
use Rattle.whole.proofs.Ring.{*ℤ-assoc, pos1-*ℤ}
use Rattle.whole.proofs.Solve.{◌⊗◌, ◌≗◌, ring}
use Rattle.whole.proofs.Sums.{sum_cong, sum-*l}
use Rattle.whole.proofs.Rows.{only_times}
use Rattle.whole.proofs.Turned.{Involution, backwards, still, sum_turned, only_turned}
use Rattle.certificate.specs.Problem.{squared}
use Rattle.certificate.specs.Differences.{Family, Inside, along, cell_of, difference, coefficient, returned}

-- of a family's differences some may not count, and stand as 0: in a grid those along its rows that would run over a row's end
abbrev pub counted : Family → (counts : ℕ → Bool) → (x : ℕ → ℤ) → (f : ℕ) → ℤ
counted F counts x f = cond (counts f) (difference F x f) (pos 0)

abbrev pub each : ℕ → Bool
each f = true

-- the difference f goes over into the difference φ f and its coefficient m into the coefficient ρ m, which is s times it: the cells that φ f uses are those of f,
-- turned by τ
pub record Carried (F : Family) (counts : ℕ → Bool) (τ : ℕ → ℕ) : Type 0 where
  pub φ : ℕ → ℕ
  pub ρ : ℕ → ℕ
  pub s : ℤ
  pub sign : s *ℤ s ≡ pos 1
  pub differences : Involution F.count φ
  pub coefficients : Involution (suc F.order) ρ
  pub row : (m : ℕ) → m ≤ F.order → F.row (ρ m) ≡ s *ℤ F.row m
  pub alike : (f : ℕ) → f < F.count → counts (φ f) ≡ counts f
  pub cells : (f m : ℕ) → f < F.count → counts f ≡ true → m ≤ F.order → cell_of F (φ f) m ≡ τ (cell_of F f (ρ m))

module _ (F : Family) (n : ℕ) (τ : ℕ → ℕ) (counts : ℕ → Bool) (I : Involution n τ) (within : Inside F n) (C : Carried F counts τ) where
  -- the cells of a difference, and of the one that it goes over into
  used : (f m : ℕ) → f < F.count → m < suc F.order → cell_of F f m < n
  used f m h l = omega (arith, within f h, N.mul-le-mul_right F.stride (N.le_of_suc-le-suc l))

  moved : (f m : ℕ) → f < F.count → counts f ≡ true → m < suc F.order → cell_of F (C.φ f) (C.ρ m) ≡ τ (cell_of F f m)
  moved f m h c l =
      C.cells f (C.ρ m) h c (N.le_of_suc-le-suc (C.coefficients.stays m l)) ∙ ap (λ (k : ℕ). τ (cell_of F f k)) (C.coefficients.twice m l)

  carried_difference : (x : ℕ → ℤ) (f : ℕ) → f < F.count → counts f ≡ true → difference F (λ i. x (τ i)) (C.φ f) ≡ C.s *ℤ difference F x f
  carried_difference x f h c =
      sym (sum_turned C.coefficients (λ m. F.row m *ℤ x (τ (cell_of F (C.φ f) m))))
      ∙ sum_cong (suc F.order)
      (λ m l.
      ap₂ ◌*ℤ◌ (C.row m (N.le_of_suc-le-suc l)) (ap (λ (k : ℕ). x (τ k)) (moved f m h c l) ∙ ap x (I.twice (cell_of F f m) (used f m h l)))
      ∙ *ℤ-assoc C.s (F.row m) (x (cell_of F f m)))
      ∙ sum-*l (suc F.order) C.s (λ m. F.row m *ℤ x (cell_of F f m))

  -- the coefficient of a cell in the difference that f goes over into
  carried_coefficient : (f i : ℕ) → f < F.count → counts f ≡ true → i < n → coefficient F (C.φ f) i ≡ C.s *ℤ coefficient F f (τ i)
  carried_coefficient f i h c k =
      sym (sum_turned C.coefficients (λ m. only (cell_of F (C.φ f) m) (F.row m) i))
      ∙ sum_cong (suc F.order)
      (λ m l.
      ap₂ (λ (c : ℕ) (z : ℤ). only c z i) (moved f m h c l) (C.row m (N.le_of_suc-le-suc l))
      ∙ only_times (τ (cell_of F f m)) C.s (F.row m) i
      ∙ ap (λ (z : ℤ). C.s *ℤ z) (only_turned I (cell_of F f m) (F.row m) i (used f m h l) k))
      ∙ sum-*l (suc F.order) C.s (λ m. only (cell_of F f m) (F.row m) (τ i))

  -- the sign meets itself
  signs : (a b : ℤ) → (C.s *ℤ a) *ℤ (C.s *ℤ b) ≡ a *ℤ b
  signs a b =
      ring 3 (λ s a b. (s ⊗ a) ⊗ (s ⊗ b) ≗ s ⊗ s ⊗ (a ⊗ b)) tt C.s a b ∙ ap (λ (z : ℤ). z *ℤ (a *ℤ b)) C.sign ∙ pos1-*ℤ (a *ℤ b)

  -- a difference that counts, or 0
  carried_counted : (x : ℕ → ℤ) (f : ℕ) → f < F.count → counted F counts (λ i. x (τ i)) (C.φ f) ≡ C.s *ℤ counted F counts x f
  carried_counted x f h = ap (λ (b : Bool). cond b (difference F (λ i. x (τ i)) (C.φ f)) (pos 0)) (C.alike f h) ∙ go (counts f) refl
    where
      go : (b : Bool) → counts f ≡ b → cond b (difference F (λ i. x (τ i)) (C.φ f)) (pos 0) ≡ C.s *ℤ cond b (difference F x f) (pos 0)
      go true e = carried_difference x f h e
      go false e = sym (*ℤ-zero C.s)

  -- times the coefficient of a cell in it
  carried_product : (x : ℕ → ℤ) (i : ℕ) → i < n → (f : ℕ) → f < F.count
      → counted F counts (λ k. x (τ k)) (C.φ f) *ℤ coefficient F (C.φ f) i ≡ counted F counts x f *ℤ coefficient F f (τ i)
  carried_product x i k f h =
      ap (λ (z : ℤ). z *ℤ coefficient F (C.φ f) i) (ap (λ (b : Bool). cond b (difference F (λ i. x (τ i)) (C.φ f)) (pos 0)) (C.alike f h))
      ∙ go (counts f) refl
    where
      go : (b : Bool) → counts f ≡ b → cond b (difference F (λ i. x (τ i)) (C.φ f)) (pos 0) *ℤ coefficient F (C.φ f) i
          ≡ cond b (difference F x f) (pos 0) *ℤ coefficient F f (τ i)
      go true e = ap₂ ◌*ℤ◌ (carried_difference x f h e) (carried_coefficient f i h e k) ∙ signs (difference F x f) (coefficient F f (τ i))
      go false e = zero-*ℤ (coefficient F (C.φ f) i) ∙ sym (zero-*ℤ (coefficient F f (τ i)))

-- the squares of all differences come to the same
pub turned_squares : (F : Family) (n : ℕ) (τ : ℕ → ℕ) (counts : ℕ → Bool) → Involution n τ → Inside F n → Carried F counts τ → (x : ℕ → ℤ)
    → sum F.count (λ f. squared (counted F counts (λ i. x (τ i)) f)) ≡ sum F.count (λ f. squared (counted F counts x f))
turned_squares F n τ counts I within C x =
    sym (sum_turned C.differences (λ f. squared (counted F counts (λ i. x (τ i)) f)))
    ∙ sum_cong F.count
    (λ f h. ap squared (carried_counted F n τ counts I within C x f h) ∙ signs F n τ counts I within C (counted F counts x f) (counted F counts x f))

-- a cell gets back what the cell got back that it was turned from
pub turned_returned : (F : Family) (n : ℕ) (τ : ℕ → ℕ) (counts : ℕ → Bool) → Involution n τ → Inside F n → Carried F counts τ → (x : ℕ → ℤ) (i : ℕ) → i < n
    → returned F (counted F counts (λ k. x (τ k))) i ≡ returned F (counted F counts x) (τ i)
turned_returned F n τ counts I within C x i h =
    sym (sum_turned C.differences (λ f. counted F counts (λ k. x (τ k)) f *ℤ coefficient F f i))
    ∙ sum_cong F.count (carried_product F n τ counts I within C x i h)

-- ---- which families are carried

-- a row of order + 1 coefficients that, read backwards, is itself or itself with every sign changed: "1 -2 1" and "-1 3 -3 1"
pub record Palindrome (row : ℕ → ℤ) (order : ℕ) : Type 0 where
  pub s : ℤ
  pub sign : s *ℤ s ≡ pos 1
  pub read : (m : ℕ) → m ≤ order → row (from_last (suc order) m) ≡ s *ℤ row m

-- differences of such a row that start at one cell after another are carried where all their cells are read backwards
pub backwards_carried : (row : ℕ → ℤ) (order stride count : ℕ) → Palindrome row order
    → Carried (along row order stride count) each (from_last (count + order * stride))
backwards_carried row order stride count P = record {
  φ = from_last count;
  ρ = from_last (suc order);
  s = P.s;
  sign = P.sign;
  differences = backwards count;
  coefficients = backwards (suc order);
  row = P.read;
  alike = λ f h. refl;
  cells = λ f m h c l. meet f m h l (from_last (suc order) m) (omega arith);
}
  where
    meet : (f m : ℕ) → f < count → m ≤ order → (r : ℕ) → r + m ≡ order → from_last count f + m * stride ≡ from_last (count + order * stride) (f + r * stride)
    meet f m h l r e = omega (arith, sym (N.add-mul r m stride) ∙ ap (λ (k : ℕ). k * stride) e)

-- every family is where the cells stay
pub still_carried : (F : Family) (counts : ℕ → Bool) → Carried F counts (λ i. i)
still_carried F counts = record {
  φ = λ f. f;
  ρ = λ m. m;
  s = pos 1;
  sign = refl;
  differences = still F.count;
  coefficients = still (suc F.order);
  row = λ m h. sym (pos1-*ℤ (F.row m));
  alike = λ f h. refl;
  cells = λ f m h c l. refl;
}
