-- Numbers that are added to the words of a list, one word at a time: y times a coefficient goes to the cell that a term names, and in the end every cell
-- has got y times its coefficient. The terms are a link's, with its multiplier, or those of a difference.
use Prim.Native.Nat.{ℕ, suc, ◌+◌, ◌*◌, ◌≤◌, ◌<◌, zero-le}
use mathlib.Core.Path.{◌≡◌, refl, sym, ap, ap₂, subst, ◌∙◌}
use mathlib.Core.Bool.{Bool, true, false, cond}
use mathlib.Core.List.{List}
use native.Mathlib.Nat as N
use native.Mathlib.Omega.{arith}
use native.Mathlib.Decide.{ℕ_discrete}
use lib.Dec.{lit<, eqb}
use lib.IntN.{ℤ, pos, nat_abs, ◌+ℤ◌, ◌*ℤ◌, +ℤ_assoc, +ℤ_idr}
use lib.ListN.{length, set, length-set}
use lib.Seq.{get_or-set_same, get_or-set_other}
use mir.Syntax.{w64}
use mir.Val.{SFits}
use Rattle.whole.specs.Sum.{sum, only, coefficient_of}
use Rattle.whole.proofs.Sums.{sum_zero, sum_step, sum_bound}
use Rattle.whole.proofs.Rows.{only_same, only_other, coefficient_times}
use Rattle.whole.proofs.Magnitude.{bound-+, bound-*}
use Rattle.whole.proofs.Fits.{small_fits, gives}
use Rattle.jobs.specs.Words.{word_at, count_at}
use Rattle.jobs.specs.Allowed.{Upto}
use Rattle.tally.proofs.Locals.{read}
use Rattle.measure.specs.Given.{LinkAt, Adding, Scattering, GivesBack}
use Rattle.measure.specs.Running.{Added, part_at}

-- ---- one word

module _ {parts : List ℤ} {cell : ℕ} {y c : ℤ} (h : Adding parts cell y c) where
  product : nat_abs (y *ℤ c) ≤ 20000000000000
  product = bound-* y c h.y_small h.c_small

  pub product_is : read y *ℤ read c ≡ y *ℤ c
  product_is = ap₂ ◌*ℤ◌ (gives refl (small_fits y h.y_small (lit< tt))) (gives refl (small_fits c h.c_small (lit< tt)))

  pub added_product_fits : SFits w64 (y *ℤ c)
  added_product_fits = small_fits (y *ℤ c) product (lit< tt)

  pub added_is : read (word_at parts cell) +ℤ read (read y *ℤ read c) ≡ word_at parts cell +ℤ y *ℤ c
  added_is = ap₂ ◌+ℤ◌ (gives refl (small_fits (word_at parts cell) h.now_small (lit< tt))) (gives product_is added_product_fits)

  pub added_fits : SFits w64 (word_at parts cell +ℤ y *ℤ c)
  added_fits = small_fits (word_at parts cell +ℤ y *ℤ c) (bound-+ (word_at parts cell) (y *ℤ c) h.now_small product) (lit< tt)

pub added_none : {g : ℕ → ℤ} (l : List ℤ) → ((i : ℕ) → g i ≡ pos 0) → Added g l l
added_none l h = record { long = refl; at = λ i. sym (ap (λ (x : ℤ). word_at l i +ℤ x) (h i) ∙ +ℤ_idr (word_at l i)) }

pub added_by : {f g : ℕ → ℤ} {l₀ l : List ℤ} → ((i : ℕ) → f i ≡ g i) → Added f l₀ l → Added g l₀ l
added_by {f} {g} {l₀} h A = record { long = A.long; at = λ i. A.at i ∙ ap (λ (x : ℤ). word_at l₀ i +ℤ x) (h i) }

pub added_then : {f g : ℕ → ℤ} {l₀ l₁ l₂ : List ℤ} → Added f l₀ l₁ → Added g l₁ l₂ → Added (λ i. f i +ℤ g i) l₀ l₂
added_then {f} {g} {l₀} A B = record {
  long = B.long ∙ A.long;
  at = λ i. B.at i ∙ ap (λ (x : ℤ). x +ℤ g i) (A.at i) ∙ +ℤ_assoc (word_at l₀ i) (f i) (g i);
}

added_one : {l : List ℤ} (cell : ℕ) (x : ℤ) → cell < length l → Added (only cell x) l (set l cell (word_at l cell +ℤ x))
added_one {l} cell x h = record {
  long = length-set l cell (word_at l cell +ℤ x);
  at = λ i. go i (ℕ_discrete i cell);
}
  where
    go : (i : ℕ) → Dec (i ≡ cell) → word_at (set l cell (word_at l cell +ℤ x)) i ≡ word_at l i +ℤ only cell x i
    go i (yes e) =
        ap (word_at (set l cell (word_at l cell +ℤ x))) e
        ∙ get_or-set_same l cell (word_at l cell +ℤ x) (pos 0) h
        ∙ ap₂ ◌+ℤ◌ (ap (word_at l) (sym e)) (sym (ap (only cell x) e ∙ only_same cell x))
    go i (no n) =
        get_or-set_other l cell i (word_at l cell +ℤ x) (pos 0) n
        ∙ sym (ap (λ (z : ℤ). word_at l i +ℤ z) (only_other cell x i n) ∙ +ℤ_idr (word_at l i))

-- ---- terms: the term m adds y times `coef m` to the cell `cell m`

-- what the first m of them add to the cell i
abbrev pub terms_of : (cell : ℕ → ℕ) (coef : ℕ → ℤ) → (y : ℤ) → (m i : ℕ) → ℤ
terms_of cell coef y m i = sum m (λ m. only (cell m) (y *ℤ coef m) i)

only_small : (k : ℕ) (z : ℤ) (i : ℕ) {c : ℕ} → nat_abs z ≤ c → nat_abs (only k z i) ≤ c
only_small k z i {c} h = go (eqb k i)
  where
    go : (b : Bool) → nat_abs (cond b z (pos 0)) ≤ c
    go true = h
    go false = zero-le

pub terms_small : (cell : ℕ → ℕ) (coef : ℕ → ℤ) (y : ℤ) (m i : ℕ) {a b : ℕ} → nat_abs y ≤ a → ((k : ℕ) → k < m → nat_abs (coef k) ≤ b)
    → nat_abs (terms_of cell coef y m i) ≤ m * (a * b)
terms_small cell coef y m i {a} {b} h each =
    sum_bound m (λ m. only (cell m) (y *ℤ coef m) i) (a * b) (λ k l. only_small (cell k) (y *ℤ coef k) i (bound-* y (coef k) h (each k l)))

-- k terms, and the parts of the cells that they name
pub record Spread (k : ℕ) (cell : ℕ → ℕ) (coef : ℕ → ℤ) (y : ℤ) (parts : List ℤ) : Type 0 where
  pub few : k ≤ 5
  pub inside : (m : ℕ) → m < k → cell m < length parts
  pub y_small : nat_abs y ≤ 20000000000
  pub coef_small : (m : ℕ) → m < k → nat_abs (coef m) ≤ 1000
  pub small : (m : ℕ) → m < k → nat_abs (word_at parts (cell m)) ≤ 100000000000000000

module _ {k : ℕ} {cell : ℕ → ℕ} {coef : ℕ → ℤ} {y : ℤ} {parts₀ : List ℤ} (S : Spread k cell coef y parts₀) where
  pub terms_start : Added (terms_of cell coef y 0) parts₀ parts₀
  terms_start = added_none parts₀ (λ i. sum_zero (λ m. only (cell m) (y *ℤ coef m) i))

  pub terms_end : {m : ℕ} {parts : List ℤ} → m ≡ k → Added (terms_of cell coef y m) parts₀ parts → Added (λ i. y *ℤ coefficient_of k cell coef i) parts₀ parts
  terms_end e A = added_by (λ i. ap (λ (m : ℕ). terms_of cell coef y m i) e ∙ coefficient_times k cell coef y i) A

  -- the round m of a loop over the terms, with the cell and the coefficient that the code has
  module _ {m : ℕ} {parts : List ℤ} (h : m < k) (A : Added (terms_of cell coef y m) parts₀ parts) {to : ℕ} {c : ℤ} (e : to ≡ cell m) (q : c ≡ coef m) where
    term_inside : to < length parts
    term_inside = omega (arith, S.inside m h, A.long)

    pub term_adding : Adding parts to y c
    term_adding = record {
      inside = term_inside;
      now_small =
          subst (λ (x : ℤ). nat_abs x ≤ 200000000000000000) (sym (ap (word_at parts) e ∙ A.at (cell m)))
          (N.le_trans
          (bound-+ (word_at parts₀ (cell m)) (terms_of cell coef y m (cell m)) (S.small m h)
          (terms_small cell coef y m (cell m) S.y_small (λ j l. S.coef_small j (N.lt_trans l h))))
          (omega (arith, S.few)));
      y_small = S.y_small;
      c_small = subst (λ (x : ℤ). nat_abs x ≤ 1000) (sym q) (S.coef_small m h);
    }

    pub term_next : {parts' : List ℤ} → parts' ≡ set parts to (word_at parts to +ℤ y *ℤ c) → Added (terms_of cell coef y (m + 1)) parts₀ parts'
    term_next {parts'} o =
        subst (λ (l : List ℤ). Added (terms_of cell coef y (m + 1)) parts₀ l) (sym o)
        (added_by
        (λ i. ap₂ (λ (k : ℕ) (z : ℤ). terms_of cell coef y m i +ℤ only k (y *ℤ z) i) e q ∙ sym (sum_step m (λ m. only (cell m) (y *ℤ coef m) i)))
        (added_then A (added_one to (y *ℤ c) term_inside)))

-- ---- the terms of a difference

pub gives_by : {row : List ℤ} {z stride i : ℕ} {y y' : ℤ} {parts : List ℤ} → y ≡ y' → GivesBack row z stride i y parts → GivesBack row z stride i y' parts
gives_by {row} {z} {stride} {i} {parts = parts} e G = subst (λ (x : ℤ). GivesBack row z stride i x parts) e G

pub back_spread : {row : List ℤ} {z stride i : ℕ} {y : ℤ} {parts : List ℤ} → GivesBack row z stride i y parts
    → Spread (suc z) (λ m. i + m * stride) (word_at row) y parts
back_spread {row} {z} {stride} {i} {y} {parts} G = record {
  few = omega (arith, G.coefficients.few);
  inside = λ m h. omega (arith, N.mul-le-mul_right stride (N.le_of_suc-le-suc h), G.inside);
  y_small = G.y_small;
  coef_small = λ m h. G.coefficients.small m (N.le_of_suc-le-suc h);
  small = λ m h. G.small m (N.le_of_suc-le-suc h);
}

-- ---- the terms of a link

-- what the first m terms of the link at s add to the cell i, with the multiplier y
abbrev pub link_terms : List ℤ → (s : ℕ) → (y : ℤ) → (m i : ℕ) → ℤ
link_terms ws s y m i = terms_of (λ m. count_at ws (s + 1 + 2 * m)) (λ m. word_at ws (s + 2 + 2 * m)) y m i

module _ {ws : List ℤ} {s : ℕ} (L : LinkAt ws s) where
  pub coefficient_read : (m : ℕ) → m < count_at ws s → read (word_at ws (s + 2 + 2 * m)) ≡ word_at ws (s + 2 + 2 * m)
  coefficient_read m h = gives refl (small_fits (word_at ws (s + 2 + 2 * m)) (L.coefficient m h) (lit< tt))

  pub part_small : {y : ℤ} → Upto 1000000000 y → (i : ℕ) → nat_abs (part_at ws s y i) ≤ 40000000000
  unfolding part_at
  part_small {y} u i =
      subst (λ (x : ℤ). nat_abs x ≤ 40000000000) (coefficient_times (count_at ws s) (λ m. count_at ws (s + 1 + 2 * m)) (λ m. word_at ws (s + 2 + 2 * m)) y i)
      (N.le_trans (terms_small (λ m. count_at ws (s + 1 + 2 * m)) (λ m. word_at ws (s + 2 + 2 * m)) y (count_at ws s) i u.small L.coefficient)
      (omega (arith, L.terms.small)))

pub scattering_by : {ws : List ℤ} {s : ℕ} {y y' : ℤ} {parts : List ℤ} → y ≡ y' → Scattering ws s y parts → Scattering ws s y' parts
scattering_by {ws} {s} {y} {y'} {parts} e S = subst (λ (x : ℤ). Scattering ws s x parts) e S

module _ {ws : List ℤ} {s : ℕ} {y : ℤ} {parts₀ : List ℤ} (S : Scattering ws s y parts₀) where
  pub link_spread : Spread (count_at ws s) (λ m. count_at ws (s + 1 + 2 * m)) (λ m. word_at ws (s + 2 + 2 * m)) y parts₀
  link_spread = record {
    few = omega (arith, S.link.terms.small);
    inside = λ m h. omega (arith, S.link.cell_inside m h, S.room);
    y_small = omega (arith, S.y_in.small);
    coef_small = λ m h. omega (arith, S.link.coefficient m h);
    small = λ m h. omega (arith, S.small (count_at ws (s + 1 + 2 * m)) (S.link.cell_inside m h));
  }

  pub link_end : {m : ℕ} {parts : List ℤ} → m ≡ count_at ws s → Added (link_terms ws s y m) parts₀ parts → Added (part_at ws s y) parts₀ parts
  unfolding part_at
  link_end e A = terms_end link_spread e A
