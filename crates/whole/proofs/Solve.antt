-- A solver for equations of the commutative ring ℤ. An equation is written as a code of its n variables, and the test of it computes:
--
--     square-of-sum : (a b : ℤ) → (a +ℤ b) *ℤ (a +ℤ b) ≡ a *ℤ a +ℤ pos 2 *ℤ a *ℤ b +ℤ b *ℤ b
--     square-of-sum = ring 2 (λ a b. (a ⊕ b) ⊗ (a ⊕ b) ≗ a ⊗ a ⊕ num 2 ⊗ a ⊗ b ⊕ b ⊗ b) tt
--
-- `tt` is refused where the equation does not hold. What is no variable, sum, difference, product, negation or number is passed as a variable.
-- The test computes the polynomial of the sides' difference, coefficients with sorted lists of variables, and asks that every coefficient is 0.
-- Nothing is proved of the lists' order: were they unsorted, fewer equations would be found.
use mathlib.Core.Path.{◌≡◌, refl, sym, ap, ap₂, ◌∙◌, subst}
use mathlib.Core.List.{List, [], ◌∷◌}
use mathlib.Core.Bool.{Bool, true, false}
use Prim.Native.Nat.{ℕ, zero, suc, compare, Ordering}
use lib.IntN.{ℤ, pos, negsuc, neg_ℤ, ◌+ℤ◌, ◌-ℤ◌, ◌*ℤ◌, +ℤ_assoc, +ℤ_idl, +ℤ_idr, zero-*ℤ, *ℤ-zero}
use lib.Dec.{T, leb, eqb→eq, compare_is_eq}
use Rattle.whole.proofs.Ring.{+ℤ-*ℤ, *ℤ-+ℤ, *ℤ-assoc, *ℤ-lcomm, *ℤ-swap4, +ℤ-lcomm, pos1-*ℤ, *ℤ-pos1, neg_one_*ℤ, eq_of_sub}

-- an expression of numbers and variables
infixl 6 ◌⊕◌ ◌⊖◌
infixl 7 ◌⊗◌
pub data Expr : Type 0 where
  con : ℤ → Expr
  var : ℕ → Expr
  neg : Expr → Expr
  ◌⊕◌ : Expr → Expr → Expr
  ◌⊖◌ : Expr → Expr → Expr
  ◌⊗◌ : Expr → Expr → Expr

-- a number as an expression
abbrev pub num : ℕ → Expr
num n = con (pos n)

-- what an expression comes to, with the values ρ of its variables
abbrev pub eval : (ℕ → ℤ) → Expr → ℤ
eval ρ (con c) = c
eval ρ (var i) = ρ i
eval ρ (neg e) = neg_ℤ (eval ρ e)
eval ρ (l ⊕ r) = eval ρ l +ℤ eval ρ r
eval ρ (l ⊖ r) = eval ρ l -ℤ eval ρ r
eval ρ (l ⊗ r) = eval ρ l *ℤ eval ρ r

-- coefficients, each with its monomial: a list of variables
pub data Poly : Type 0 where
  nil : Poly
  term : ℤ → List ℕ → Poly → Poly

-- ---- the normal form

-- a monomial with one variable more
abbrev with_var : ℕ → List ℕ → List ℕ
with_var x [] = x ∷ []
with_var x (y ∷ ys) = elim (leb x y) [ true ↦ x ∷ (y ∷ ys) | false ↦ y ∷ with_var x ys ]

-- the product of two monomials
abbrev joined : List ℕ → List ℕ → List ℕ
joined [] ys = ys
joined (x ∷ xs) ys = with_var x (joined xs ys)

-- the order of monomials in a polynomial
abbrev ordered : List ℕ → List ℕ → Ordering
ordered [] [] = Ordering.eq
ordered [] (y ∷ ys) = Ordering.lt
ordered (x ∷ xs) [] = Ordering.gt
ordered (x ∷ xs) (y ∷ ys) = elim (compare x y) [ Ordering.lt ↦ Ordering.lt | Ordering.eq ↦ ordered xs ys | Ordering.gt ↦ Ordering.gt ]

-- one term more; the sum; a term times a polynomial; the product
abbrev plus_term : ℤ → List ℕ → Poly → Poly
plus_term c m nil = term c m nil
plus_term c m (term c' m' p) =
    elim (ordered m m') [ Ordering.lt ↦ term c m (term c' m' p) | Ordering.eq ↦ term (c +ℤ c') m' p | Ordering.gt ↦ term c' m' (plus_term c m p) ]

abbrev plus : Poly → Poly → Poly
plus nil q = q
plus (term c m p) q = plus_term c m (plus p q)

abbrev times_term : ℤ → List ℕ → Poly → Poly
times_term c m nil = nil
times_term c m (term c' m' p) = plus_term (c *ℤ c') (joined m m') (times_term c m p)

abbrev times : Poly → Poly → Poly
times nil q = nil
times (term c m p) q = plus (times_term c m q) (times p q)

-- the polynomial of an expression
abbrev polynomial : Expr → Poly
polynomial (con c) = term c [] nil
polynomial (var i) = term (pos 1) (i ∷ []) nil
polynomial (neg e) = times_term (negsuc 0) [] (polynomial e)
polynomial (l ⊕ r) = plus (polynomial l) (polynomial r)
polynomial (l ⊖ r) = plus (polynomial l) (times_term (negsuc 0) [] (polynomial r))
polynomial (l ⊗ r) = times (polynomial l) (polynomial r)

abbrev is_zero : Poly → Bool
is_zero nil = true
is_zero (term (pos zero) m p) = is_zero p
is_zero (term (pos (suc n)) m p) = false
is_zero (term (negsuc n) m p) = false

-- the test: the polynomial of the difference has only coefficients 0
abbrev pub same : Expr → Expr → Bool
same l r = is_zero (polynomial (l ⊖ r))

-- ---- what it means

-- a monomial, and a polynomial
abbrev value_m : (ℕ → ℤ) → List ℕ → ℤ
value_m ρ [] = pos 1
value_m ρ (x ∷ xs) = ρ x *ℤ value_m ρ xs

abbrev value_p : (ℕ → ℤ) → Poly → ℤ
value_p ρ nil = pos 0
value_p ρ (term c m p) = c *ℤ value_m ρ m +ℤ value_p ρ p

ordered_eq : (m m' : List ℕ) → T (compare_is_eq (ordered m m')) → m ≡ m'
ordered_eq [] [] t = refl
ordered_eq [] (y ∷ ys) t = absurd t
ordered_eq (x ∷ xs) [] t = absurd t
ordered_eq (x ∷ xs) (y ∷ ys) t = go (compare x y) refl (ordered_eq xs ys) t
  where
    go : (o : Ordering) → compare x y ≡ o → (T (compare_is_eq (ordered xs ys)) → xs ≡ ys)
        → T (compare_is_eq (elim o [ Ordering.lt ↦ Ordering.lt | Ordering.eq ↦ ordered xs ys | Ordering.gt ↦ Ordering.gt ])) → x ∷ xs ≡ y ∷ ys
    go Ordering.lt e ih h = absurd h
    go Ordering.eq e ih h = ap₂ ◌∷◌ (eqb→eq x y (subst (λ (o : Ordering). T (compare_is_eq o)) (sym e) tt)) (ih h)
    go Ordering.gt e ih h = absurd h

module _ (ρ : ℕ → ℤ) where
  with_var_ok : (x : ℕ) (ys : List ℕ) → value_m ρ (with_var x ys) ≡ ρ x *ℤ value_m ρ ys
  with_var_ok x [] = refl
  with_var_ok x (y ∷ ys) = go (leb x y) (with_var_ok x ys)
    where
      go : (b : Bool) → value_m ρ (with_var x ys) ≡ ρ x *ℤ value_m ρ ys
          → value_m ρ (elim b [ true ↦ x ∷ (y ∷ ys) | false ↦ y ∷ with_var x ys ]) ≡ ρ x *ℤ (ρ y *ℤ value_m ρ ys)
      go true h = refl
      go false h = ap (λ (z : ℤ). ρ y *ℤ z) h ∙ *ℤ-lcomm (ρ y) (ρ x) (value_m ρ ys)

  joined_ok : (xs ys : List ℕ) → value_m ρ (joined xs ys) ≡ value_m ρ xs *ℤ value_m ρ ys
  joined_ok [] ys = sym (pos1-*ℤ (value_m ρ ys))
  joined_ok (x ∷ xs) ys = with_var_ok x (joined xs ys) ∙ ap (λ (z : ℤ). ρ x *ℤ z) (joined_ok xs ys) ∙ sym (*ℤ-assoc (ρ x) (value_m ρ xs) (value_m ρ ys))

  plus_term_ok : (c : ℤ) (m : List ℕ) (p : Poly) → value_p ρ (plus_term c m p) ≡ c *ℤ value_m ρ m +ℤ value_p ρ p
  plus_term_ok c m nil = refl
  plus_term_ok c m (term c' m' p) = go (ordered m m') refl (plus_term_ok c m p)
    where
      go : (o : Ordering) → ordered m m' ≡ o → value_p ρ (plus_term c m p) ≡ c *ℤ value_m ρ m +ℤ value_p ρ p
          → value_p ρ (elim o [ Ordering.lt ↦ term c m (term c' m' p) | Ordering.eq ↦ term (c +ℤ c') m' p | Ordering.gt ↦ term c' m' (plus_term c m p) ])
          ≡ c *ℤ value_m ρ m +ℤ (c' *ℤ value_m ρ m' +ℤ value_p ρ p)
      go Ordering.lt e ih = refl
      go Ordering.eq e ih =
          ap (λ (z : ℤ). z +ℤ value_p ρ p)
          (+ℤ-*ℤ c c' (value_m ρ m')
          ∙ ap (λ (z : List ℕ). c *ℤ value_m ρ z +ℤ c' *ℤ value_m ρ m') (sym (ordered_eq m m' (subst (λ (o : Ordering). T (compare_is_eq o)) (sym e) tt))))
          ∙ +ℤ_assoc (c *ℤ value_m ρ m) (c' *ℤ value_m ρ m') (value_p ρ p)
      go Ordering.gt e ih = ap (λ (z : ℤ). c' *ℤ value_m ρ m' +ℤ z) ih ∙ +ℤ-lcomm (c' *ℤ value_m ρ m') (c *ℤ value_m ρ m) (value_p ρ p)

  plus_ok : (p q : Poly) → value_p ρ (plus p q) ≡ value_p ρ p +ℤ value_p ρ q
  plus_ok nil q = sym (+ℤ_idl (value_p ρ q))
  plus_ok (term c m p) q =
      plus_term_ok c m (plus p q) ∙ ap (λ (z : ℤ). c *ℤ value_m ρ m +ℤ z) (plus_ok p q) ∙ sym (+ℤ_assoc (c *ℤ value_m ρ m) (value_p ρ p) (value_p ρ q))

  times_term_ok : (c : ℤ) (m : List ℕ) (p : Poly) → value_p ρ (times_term c m p) ≡ (c *ℤ value_m ρ m) *ℤ value_p ρ p
  times_term_ok c m nil = sym (*ℤ-zero (c *ℤ value_m ρ m))
  times_term_ok c m (term c' m' p) =
      plus_term_ok (c *ℤ c') (joined m m') (times_term c m p)
      ∙ ap₂ ◌+ℤ◌ (ap (λ (z : ℤ). (c *ℤ c') *ℤ z) (joined_ok m m') ∙ *ℤ-swap4 c c' (value_m ρ m) (value_m ρ m')) (times_term_ok c m p)
      ∙ sym (*ℤ-+ℤ (c *ℤ value_m ρ m) (c' *ℤ value_m ρ m') (value_p ρ p))

  times_ok : (p q : Poly) → value_p ρ (times p q) ≡ value_p ρ p *ℤ value_p ρ q
  times_ok nil q = sym (zero-*ℤ (value_p ρ q))
  times_ok (term c m p) q =
      plus_ok (times_term c m q) (times p q) ∙ ap₂ ◌+ℤ◌ (times_term_ok c m q) (times_ok p q) ∙ sym (+ℤ-*ℤ (c *ℤ value_m ρ m) (value_p ρ p) (value_p ρ q))

  minus_ok : (p : Poly) → value_p ρ (times_term (negsuc 0) [] p) ≡ neg_ℤ (value_p ρ p)
  minus_ok p = times_term_ok (negsuc 0) [] p ∙ neg_one_*ℤ (value_p ρ p)

  polynomial_ok : (e : Expr) → value_p ρ (polynomial e) ≡ eval ρ e
  polynomial_ok (con c) = +ℤ_idr (c *ℤ pos 1) ∙ *ℤ-pos1 c
  polynomial_ok (var i) = +ℤ_idr (pos 1 *ℤ (ρ i *ℤ pos 1)) ∙ pos1-*ℤ (ρ i *ℤ pos 1) ∙ *ℤ-pos1 (ρ i)
  polynomial_ok (neg e) = minus_ok (polynomial e) ∙ ap neg_ℤ (polynomial_ok e)
  polynomial_ok (l ⊕ r) = plus_ok (polynomial l) (polynomial r) ∙ ap₂ ◌+ℤ◌ (polynomial_ok l) (polynomial_ok r)
  polynomial_ok (l ⊖ r) = plus_ok (polynomial l) (times_term (negsuc 0) [] (polynomial r)) ∙ ap₂ ◌+ℤ◌ (polynomial_ok l) (minus_ok (polynomial r) ∙ ap neg_ℤ (polynomial_ok r))
  polynomial_ok (l ⊗ r) = times_ok (polynomial l) (polynomial r) ∙ ap₂ ◌*ℤ◌ (polynomial_ok l) (polynomial_ok r)

  is_zero_ok : (p : Poly) → T (is_zero p) → value_p ρ p ≡ pos 0
  is_zero_ok nil t = refl
  is_zero_ok (term (pos zero) m p) t = ap (λ (z : ℤ). z +ℤ value_p ρ p) (zero-*ℤ (value_m ρ m)) ∙ +ℤ_idl (value_p ρ p) ∙ is_zero_ok p t
  is_zero_ok (term (pos (suc n)) m p) t = absurd t
  is_zero_ok (term (negsuc n) m p) t = absurd t

  pub sides_equal : (l r : Expr) → T (same l r) → eval ρ l ≡ eval ρ r
  sides_equal l r t = eq_of_sub (eval ρ l) (eval ρ r) (sym (polynomial_ok (l ⊖ r)) ∙ is_zero_ok (polynomial (l ⊖ r)) t)

-- ---- how it is used

-- an equation, by its two sides
infix 4 ◌≗◌
pub data Equation : Type 0 where
  ◌≗◌ : Expr → Expr → Equation

-- an A that names n variables
abbrev pub Code : Type 0 → ℕ → Type 0
Code A zero = A
Code A (suc n) = Expr → Code A n

-- the code at its variables; the last has the number 0
abbrev pub named : {A : Type 0} (n : ℕ) → Code A n → A
named zero e = e
named (suc n) f = named n (f (var n))

-- the number i of a list
abbrev pub at : List ℤ → ℕ → ℤ
at [] i = pos 0
at (x ∷ xs) zero = x
at (x ∷ xs) (suc i) = at xs i

-- for every value of n further variables
abbrev pub Each : ℕ → (List ℤ → Type 0) → List ℤ → Type 0
Each zero P xs = P xs
Each (suc n) P xs = (x : ℤ) → Each n P (x ∷ xs)

pub for_each : (n : ℕ) {P : List ℤ → Type 0} → ((xs : List ℤ) → P xs) → (xs : List ℤ) → Each n P xs
for_each zero h xs = h xs
for_each (suc n) h xs = λ x. for_each n h (x ∷ xs)

-- what an equation says of the values xs, the last variable's first
abbrev pub Means : Equation → List ℤ → Type 0
Means (l ≗ r) xs = eval (at xs) l ≡ eval (at xs) r

-- the test of an equation
abbrev pub balanced : Equation → Bool
balanced (l ≗ r) = same l r

by_test : (e : Equation) → T (balanced e) → (xs : List ℤ) → Means e xs
by_test (l ≗ r) t xs = sides_equal (at xs) l r t

pub ring : (n : ℕ) (c : Code Equation n) → T (balanced (named n c)) → Each n (Means (named n c)) []
ring n c t = for_each n (by_test (named n c) t) []
