-- The terms of a link by its coefficients. `terms_of_lem` says that the terms read off the coefficients of a link whose cells rise are the link's own, and
-- `coefficient_back` that terms read off any coefficients have just these; how many there are does not see that the cells are turned about
-- (`named_turned`). So a link and its coefficients say the same.
use Prim.Native.Nat.{ℕ, zero, suc, ◌+◌, ◌*◌, ◌≤◌, ◌<◌, zero-le}
use mathlib.Core.Path.{◌≡◌, refl, sym, ap, ap₂, subst, ◌∙◌}
use mathlib.Core.Logic.{◌⊎◌, inl, inr}
use mathlib.Core.Bool.{Bool, true, false}
use mathlib.Core.List.{List, [], ◌∷◌, ◌++◌}
use native.Mathlib.Nat as N
use native.Mathlib.Omega.{arith}
use borrow.Author.Tests.{ltb-true, ltb-false, lt-ltb, eqb-true, eqb-false}
use lib.Dec.{ltb, eqb}
use lib.IntN.{ℤ, pos, negsuc, nat_abs, ◌+ℤ◌, +ℤ_idl, +ℤ_idr}
use lib.ListN.{length}
use Rattle.std.specs.Prelude.{if◌then◌else◌}
use Rattle.whole.specs.Sum.{only, coefficient_of}
use Rattle.whole.proofs.Sums.{sum_zero, sum_suc, sum_ext}
use Rattle.whole.proofs.Parts.{sum_head}
use Rattle.whole.proofs.Rows.{only_same, only_other, coefficient_at, coefficient_off}
use Rattle.whole.proofs.Turned.{Involution}
use Rattle.jobs.specs.Words.{word_at}
use Rattle.turned.specs.Words.{in_turn, names, named_from, terms_from, link_block}
use Rattle.turned.proofs.Blocks.{Every}
use Rattle.turned.proofs.Tallies.{Tally, tally_turned}

-- ---- what is named

unnamed : (c : ℤ) → names c ≡ false → c ≡ pos 0
unnamed (pos zero) e = refl
unnamed (pos (suc n)) e = absurd (omega (arith, ltb-false 0 (suc n) e))
unnamed (negsuc n) e = absurd (omega (arith, ltb-false 0 (suc n) e))

named : (c : ℤ) → names c ≡ true → 1 ≤ nat_abs c
named c e = ltb-true 0 (nat_abs c) e

-- equal coefficients
pub named_same : (a b : ℕ → ℤ) (k i : ℕ) → ((x : ℕ) → i ≤ x → x < i + k → a x ≡ b x) → named_from a i k ≡ named_from b i k
named_same a b zero i h = refl
named_same a b (suc k) i h =
    ap₂ (λ (c : ℤ) (n : ℕ). if names c then suc n else n) (h i (N.le_refl i) (omega arith))
    (named_same a b k (suc i) (λ x p q. h x (omega arith) (omega arith)))

pub terms_same : (a b : ℕ → ℤ) (k i : ℕ) → ((x : ℕ) → i ≤ x → x < i + k → a x ≡ b x) → terms_from a i k ≡ terms_from b i k
terms_same a b zero i h = refl
terms_same a b (suc k) i h =
    ap₂ (λ (c : ℤ) (t : List ℤ). if names c then pos i ∷ c ∷ t else t) (h i (N.le_refl i) (omega arith))
    (terms_same a b k (suc i) (λ x p q. h x (omega arith) (omega arith)))

pub link_same_block : (n : ℕ) (a b : ℕ → ℤ) (c d : ℤ) → ((x : ℕ) → x < n → a x ≡ b x) → c ≡ d → link_block n a c ≡ link_block n b d
link_same_block n a b c d h e =
    ap₂ (λ (k : ℕ) (t : List ℤ). pos k ∷ t) (named_same a b n 0 (λ x p q. h x (omega arith)))
    (ap₂ (λ (t : List ℤ) (z : ℤ). t ++ (z ∷ [])) (terms_same a b n 0 (λ x p q. h x (omega arith))) e)

-- ---- how many

named_tally : (a : ℕ → ℤ) → Tally (λ i. names (a i)) (named_from a)
named_tally a = record { none = λ i. refl; more = λ i k. go (names (a i)) (named_from a (suc i) k) }
  where
    go : (b : Bool) (n : ℕ) → (if b then suc n else n) ≡ (if b then 1 else 0) + n
    go true n = omega arith
    go false n = sym (N.zero-add n)

pub named_turned : {n : ℕ} {τ : ℕ → ℕ} → Involution n τ → (a : ℕ → ℤ) → named_from (λ i. a (τ i)) 0 n ≡ named_from a 0 n
named_turned {n} {τ} I a = tally_turned I (named_tally (λ i. a (τ i))) (named_tally a) (λ i h. refl)

-- ---- the terms of any coefficients

module _ (a : ℕ → ℤ) where
  pub length_terms : (k i : ℕ) → length (terms_from a i k) ≡ 2 * named_from a i k
  length_terms zero i = refl
  length_terms (suc k) i = go (names (a i)) (length_terms k (suc i))
    where
      go : (b : Bool) → length (terms_from a (suc i) k) ≡ 2 * named_from a (suc i) k
          → length (if b then pos i ∷ a i ∷ terms_from a (suc i) k else terms_from a (suc i) k) ≡ 2 * (if b then suc (named_from a (suc i) k) else named_from a (suc i) k)
      go true ih = omega (arith, ih)
      go false ih = ih

  -- the term m of a list of terms
  abbrev cell_at : List ℤ → (m : ℕ) → ℕ
  cell_at t m = nat_abs (word_at t (2 * m))

  abbrev coef_at : List ℤ → (m : ℕ) → ℤ
  coef_at t m = word_at t (1 + 2 * m)

  later_cell : (x y : ℤ) (t : List ℤ) (m : ℕ) → word_at (x ∷ y ∷ t) (2 * suc m) ≡ word_at t (2 * m)
  later_cell x y t m = let e : 2 * suc m ≡ suc (suc (2 * m)) = omega arith in ap (word_at (x ∷ y ∷ t)) e

  later_coef : (x y : ℤ) (t : List ℤ) (m : ℕ) → word_at (x ∷ y ∷ t) (1 + 2 * suc m) ≡ word_at t (1 + 2 * m)
  later_coef x y t m = let e : 1 + 2 * suc m ≡ suc (suc (1 + 2 * m)) = omega arith in ap (word_at (x ∷ y ∷ t)) e

  -- what a term is: a cell of the range with its coefficient, which is not 0
  pub record Term (i k : ℕ) (t : List ℤ) (m : ℕ) : Type 0 where
    pub cell : ℕ
    pub low : i ≤ cell
    pub high : cell < i + k
    pub is : word_at t (2 * m) ≡ pos cell
    pub has : coef_at t m ≡ a cell
    pub some : 1 ≤ nat_abs (a cell)

  pub term_at_lem : (k i m : ℕ) → m < named_from a i k → Term i k (terms_from a i k) m
  term_at_lem zero i m h = absurd (omega arith)
  term_at_lem (suc k) i m h = go (names (a i)) refl (term_at_lem k (suc i)) m h
    where
      go : (b : Bool) → names (a i) ≡ b → ((m : ℕ) → m < named_from a (suc i) k → Term (suc i) k (terms_from a (suc i) k) m)
          → (m : ℕ) → m < (if b then suc (named_from a (suc i) k) else named_from a (suc i) k)
          → Term i (suc k) (if b then pos i ∷ a i ∷ terms_from a (suc i) k else terms_from a (suc i) k) m
      go false e onward m l =
          let t = onward m (omega arith) in
          record { cell = t.cell; low = omega (arith, t.low); high = omega (arith, t.high); is = t.is; has = t.has; some = t.some }
      go true e onward zero l = record { cell = i; low = N.le_refl i; high = omega arith; is = refl; has = refl; some = named (a i) e }
      go true e onward (suc m) l =
          let t = onward m (omega arith) in
          record {
            cell = t.cell;
            low = omega (arith, t.low);
            high = omega (arith, t.high);
            is = later_cell (pos i) (a i) (terms_from a (suc i) k) m ∙ t.is;
            has = later_coef (pos i) (a i) (terms_from a (suc i) k) m ∙ t.has;
            some = t.some;
          }

  pub terms_rise : (k i m : ℕ) → suc m < named_from a i k → cell_at (terms_from a i k) m < cell_at (terms_from a i k) (suc m)
  terms_rise zero i m h = absurd (omega arith)
  terms_rise (suc k) i m h = go (names (a i)) (terms_rise k (suc i)) m h
    where
      t : List ℤ
      t = terms_from a (suc i) k

      go : (b : Bool) → ((m : ℕ) → suc m < named_from a (suc i) k → cell_at t m < cell_at t (suc m)) → (m : ℕ) → suc m < (if b then suc (named_from a (suc i) k) else named_from a (suc i) k)
          → cell_at (if b then pos i ∷ a i ∷ t else t) m < cell_at (if b then pos i ∷ a i ∷ t else t) (suc m)
      go false ih m l = ih m (omega arith)
      go true ih zero l =
          let f : Term (suc i) k t 0 = term_at_lem k (suc i) 0 (omega arith) in
          omega (arith, ap nat_abs (later_cell (pos i) (a i) t 0 ∙ f.is), f.low)
      go true ih (suc m) l =
          omega (arith, ap nat_abs (later_cell (pos i) (a i) t m), ap nat_abs (later_cell (pos i) (a i) t (suc m)), ih m (omega arith))

  -- ---- and back to the coefficients

  abbrev back_from : (i k x : ℕ) → ℤ
  back_from i k x = coefficient_of (named_from a i k) (cell_at (terms_from a i k)) (coef_at (terms_from a i k)) x

  -- one term, then the terms of the cells after it
  one_more : (k i x : ℕ) → names (a i) ≡ true → back_from i (suc k) x ≡ only i (a i) x +ℤ back_from (suc i) k x
  one_more k i x e = go (names (a i)) e
    where
      t : List ℤ
      t = terms_from a (suc i) k

      go : (b : Bool) → b ≡ true
          → coefficient_of (if b then suc (named_from a (suc i) k) else named_from a (suc i) k) (cell_at (if b then pos i ∷ a i ∷ t else t)) (coef_at (if b then pos i ∷ a i ∷ t else t)) x
          ≡ only i (a i) x +ℤ coefficient_of (named_from a (suc i) k) (cell_at t) (coef_at t) x
      go true e =
          sum_head (named_from a (suc i) k) (λ m. only (cell_at (pos i ∷ a i ∷ t) m) (coef_at (pos i ∷ a i ∷ t) m) x)
          ∙ ap (λ (z : ℤ). only i (a i) x +ℤ z)
          (sum_ext (named_from a (suc i) k) (λ m. ap₂ (λ (c d : ℤ). only (nat_abs c) d x) (later_cell (pos i) (a i) t m) (later_coef (pos i) (a i) t m)))
      go false e = absurd (N.suc-ne-zero 0 (sym (ap (λ (b : Bool). if b then 1 else 0) e)))

  none_more : (k i x : ℕ) → names (a i) ≡ false → back_from i (suc k) x ≡ back_from (suc i) k x
  none_more k i x e = rw e

  before : (k i x : ℕ) → x < i → back_from i k x ≡ pos 0
  before k i x h =
      coefficient_off (named_from a i k) (cell_at (terms_from a i k)) (coef_at (terms_from a i k)) x
      (λ m l q. let t = term_at_lem k i m l in N.lt_irrefl x (N.lt_of_lt_of_le h (N.le_trans t.low (N.le_of_eq (sym (q ∙ ap nat_abs t.is))))))

  pub coefficient_back : (k i x : ℕ) → i ≤ x → x < i + k → back_from i k x ≡ a x
  coefficient_back zero i x p q = absurd (omega arith)
  coefficient_back (suc k) i x p q = go (names (a i)) refl (coefficient_back k (suc i) x) (N.eq-or-lt_of_le p)
    where
      go : (b : Bool) → names (a i) ≡ b → (suc i ≤ x → x < suc i + k → back_from (suc i) k x ≡ a x) → (i ≡ x) ⊎ (i < x) → back_from i (suc k) x ≡ a x
      go true e ih (inl s) =
          one_more k i x e ∙ ap₂ ◌+ℤ◌ (ap (λ (y : ℕ). only i (a i) y) (sym s) ∙ only_same i (a i)) (before k (suc i) x (omega arith))
          ∙ +ℤ_idr (a i) ∙ ap a s
      go true e ih (inr s) =
          one_more k i x e ∙ ap₂ ◌+ℤ◌ (only_other i (a i) x (N.ne_of_gt s)) (ih s (omega arith)) ∙ +ℤ_idl (a x)
      go false e ih (inl s) = none_more k i x e ∙ before k (suc i) x (omega arith) ∙ sym (ap a (sym s) ∙ unnamed (a i) e)
      go false e ih (inr s) = none_more k i x e ∙ ih s (omega arith)

-- ---- the coefficients of a link whose cells rise

module _ (k : ℕ) (cell : ℕ → ℕ) (coef : ℕ → ℤ) (n : ℕ) (below : (m : ℕ) → m < k → cell m < n) (some : (m : ℕ) → m < k → 1 ≤ nat_abs (coef m))
    (rises : (m : ℕ) → suc m < k → cell m < cell (suc m)) where
  climbs : (q m : ℕ) → suc m + q < k → cell m < cell (suc m + q)
  climbs zero m h = subst (λ (p : ℕ). cell m < cell p) (sym (N.add-zero (suc m))) (rises m (omega arith))
  climbs (suc q) m h =
      subst (λ (p : ℕ). cell m < cell p) (sym (N.add-suc (suc m) q))
      (N.lt_trans (climbs q m (omega arith)) (rises (suc m + q) (omega arith)))

  apart : (m p : ℕ) → m < p → p < k → cell m < cell p
  apart m p h l = let d = N.le_dest h in subst (λ (x : ℕ). cell m < cell x) d.1 (climbs d.0 m (omega (arith, d.1)))

  alone : (m p : ℕ) → m < k → p < k → cell p ≡ cell m → p ≡ m
  alone m p h l e = go (ltb m p) (ltb p m) refl refl
    where
      go : (s t : Bool) → ltb m p ≡ s → ltb p m ≡ t → p ≡ m
      go true t s u = absurd (N.ne_of_lt (apart m p (ltb-true m p s) l) (sym e))
      go false true s u = absurd (N.ne_of_lt (apart p m (ltb-true p m u) h) e)
      go false false s u = N.le_antisymm (ltb-false m p s) (ltb-false p m u)

  abbrev A : ℕ → ℤ
  A x = coefficient_of k cell coef x

  abbrev term_block : ℕ → List ℤ
  term_block m = pos (cell m) ∷ coef m ∷ []

  -- the terms from m on are those of the cells from i on
  pub record Between (i m : ℕ) : Type 0 where
    pub after : (p : ℕ) → m ≤ p → p < k → i ≤ cell p
    pub until : (p : ℕ) → p < m → p < k → cell p < i

  pub record Own (i r m q : ℕ) : Type 0 where
    pub count : named_from A i r ≡ q
    pub terms : terms_from A i r ≡ in_turn term_block m q

  skipped : (i r m q : ℕ) → A i ≡ pos 0 → Own (suc i) r m q → Own i (suc r) m q
  skipped i r m q z o = record {
    count = ap (λ (c : ℤ). if names c then suc (named_from A (suc i) r) else named_from A (suc i) r) z ∙ o.count;
    terms = ap (λ (c : ℤ). if names c then pos i ∷ c ∷ terms_from A (suc i) r else terms_from A (suc i) r) z ∙ o.terms;
  }

  taken : (i r m q : ℕ) → m < k → cell m ≡ i → Own (suc i) r (suc m) q → Own i (suc r) m (suc q)
  taken i r m q h e o = record {
    count = ap (λ (b : Bool). if b then suc (named_from A (suc i) r) else named_from A (suc i) r) is_named ∙ ap suc o.count;
    terms =
        ap (λ (b : Bool). if b then pos i ∷ A i ∷ terms_from A (suc i) r else terms_from A (suc i) r) is_named
        ∙ ap₂ (λ (c : ℤ) (t : List ℤ). c ∷ t) (ap pos (sym e)) (ap₂ (λ (c : ℤ) (t : List ℤ). c ∷ t) value o.terms);
  }
    where
      value : A i ≡ coef m
      value = ap A (sym e) ∙ coefficient_at k cell coef m h (λ p l s. alone m p h l s)

      is_named : names (A i) ≡ true
      is_named = lt-ltb 0 (nat_abs (A i)) (subst (λ (c : ℤ). 1 ≤ nat_abs c) (sym value) (some m h))

  own : (r i m q : ℕ) → i + r ≡ n → m + q ≡ k → Between i m → Own i r m q
  own zero i m zero e s B = record { count = refl; terms = refl }
  own zero i m (suc q) e s B = absurd (omega (arith, B.after m (N.le_refl m) (omega arith), below m (omega arith)))
  own (suc r) i m zero e s B =
      skipped i r m zero
      (coefficient_off k cell coef i (λ p l z. N.ne_of_lt (B.until p (omega arith) l) (sym z)))
      (own r (suc i) m zero (omega arith) s record { after = λ p a l. absurd (omega arith); until = λ p a l. N.le_step (B.until p a l) })
  own (suc r) i m (suc q) e s B = go (own r (suc i)) (N.eq-or-lt_of_le (B.after m (N.le_refl m) h))
    where
      h : m < k
      h = omega arith

      later : i ≡ cell m → (p : ℕ) → suc m ≤ p → p < k → suc i ≤ cell p
      later z p a l = omega (arith, apart m p a l)

      go : ((m q : ℕ) → suc i + r ≡ n → m + q ≡ k → Between (suc i) m → Own (suc i) r m q) → (i ≡ cell m) ⊎ (i < cell m) → Own i (suc r) m (suc q)
      go ih (inl z) =
          taken i r m q h (sym z)
          (ih (suc m) q (omega arith) (omega arith) record { after = later z; until = λ p a l. until z p (N.eq-or-lt_of_le (N.le_of_suc-le-suc a)) l })
        where
          until : i ≡ cell m → (p : ℕ) → (p ≡ m) ⊎ (p < m) → p < k → cell p < suc i
          until z p (inl t) l = N.le_of_eq (ap (λ (x : ℕ). suc (cell x)) t ∙ ap suc (sym z))
          until z p (inr t) l = N.le_step (B.until p t l)
      go ih (inr z) =
          skipped i r m (suc q) (coefficient_off k cell coef i (λ p l t. off p l t (ltb p m) refl))
          (ih m (suc q) (omega arith) s record { after = λ p a l. above p a l; until = λ p a l. N.le_step (B.until p a l) })
        where
          above : (p : ℕ) → m ≤ p → p < k → suc i ≤ cell p
          above p a l = at (N.eq-or-lt_of_le a)
            where
              at : (m ≡ p) ⊎ (m < p) → suc i ≤ cell p
              at (inl t) = subst (λ (x : ℕ). suc i ≤ cell x) t z
              at (inr t) = N.le_trans z (N.le_of_lt (apart m p t l))

          off : (p : ℕ) → p < k → i ≡ cell p → (b : Bool) → ltb p m ≡ b → ⊥
          off p l t true u = N.ne_of_lt (B.until p (ltb-true p m u) l) (sym t)
          off p l t false u = N.ne_of_lt (above p (ltb-false p m u) l) t

  pub terms_of_lem : Own 0 n 0 k
  terms_of_lem = own n 0 0 k (N.zero-add n) (N.zero-add k) record { after = λ p a l. zero-le; until = λ p a l. absurd (omega arith) }

  -- no coefficient of a cell is larger than those of the terms
  pub coefficient_most : (c : ℕ) → ((m : ℕ) → m < k → nat_abs (coef m) ≤ c) → (x : ℕ) → nat_abs (A x) ≤ c
  coefficient_most c small x = go k (N.le_refl k)
    where
      go : (q : ℕ) → q ≤ k → nat_abs (coefficient_of q cell coef x) ≤ c
      go zero h = subst (λ (z : ℤ). nat_abs z ≤ c) (sym (sum_zero (λ m. only (cell m) (coef m) x))) zero-le
      go (suc q) h = at (eqb (cell q) x) refl (go q (N.le_of_suc-le h))
        where
          at : (b : Bool) → eqb (cell q) x ≡ b → nat_abs (coefficient_of q cell coef x) ≤ c → nat_abs (coefficient_of (suc q) cell coef x) ≤ c
          at true e ih =
              let s : cell q ≡ x = eqb-true (cell q) x e in
              subst (λ (z : ℤ). nat_abs z ≤ c)
              (sym
              (sum_suc q (λ m. only (cell m) (coef m) x)
              ∙ ap₂ ◌+ℤ◌ (coefficient_off q cell coef x (λ p l t. N.ne_of_lt (apart p q l h) (sym t ∙ sym s)))
              (ap (λ (y : ℕ). only (cell q) (coef q) y) (sym s) ∙ only_same (cell q) (coef q)) ∙ +ℤ_idl (coef q)))
              (small q h)
          at false e ih =
              subst (λ (z : ℤ). nat_abs z ≤ c)
              (sym
              (sum_suc q (λ m. only (cell m) (coef m) x)
              ∙ ap (λ (z : ℤ). coefficient_of q cell coef x +ℤ z) (only_other (cell q) (coef q) x (λ t. eqb-false (cell q) x e (sym t)))
              ∙ +ℤ_idr (coefficient_of q cell coef x)))
              ih

-- what holds of every cell's number and every coefficient holds of every word of the terms
pub every_term : (P : ℤ → Type 0) (a : ℕ → ℤ) (k i : ℕ) → ((x : ℕ) → i ≤ x → x < i + k → P (pos x) × P (a x)) → Every P (terms_from a i k)
every_term P a zero i h = tt
every_term P a (suc k) i h = go (names (a i)) (every_term P a k (suc i) (λ x p q. h x (omega arith) (omega arith)))
  where
    go : (b : Bool) → Every P (terms_from a (suc i) k) → Every P (if b then pos i ∷ a i ∷ terms_from a (suc i) k else terms_from a (suc i) k)
    go true ih = let q = h i (N.le_refl i) (omega arith) in (q.0, (q.1, ih))
    go false ih = ih
