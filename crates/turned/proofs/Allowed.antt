-- An allowed job whose rows and columns are turned about is allowed, and its words lie as a pack's numbers do.
use Prim.Native.Nat.{ℕ, zero, suc, ◌+◌, ◌*◌, ◌≤◌, ◌<◌}
use mathlib.Core.Path.{◌≡◌, sym, ap, subst, subst₂, ◌∙◌}
use mathlib.Core.Bool.{Bool, true, false}
use mathlib.Core.List.{List}
use native.Mathlib.Nat as N
use native.Mathlib.Omega.{arith}
use lib.IntN.{ℤ, pos, nat_abs}
use lib.ListN.{length}
use lib.Signed.{◌≤ℤ◌}
use Rattle.whole.specs.Turned.{grid_map}
use Rattle.whole.proofs.Turned.{Involution}
use Rattle.whole.proofs.Grids.{grid_turned}
use Rattle.jobs.specs.Job.{Job, link_coefficient}
use Rattle.jobs.specs.Words.{word_at, head_words, cells_of, rows_of, columns_of, links_of, start_of, job_of}
use Rattle.jobs.specs.Allowed.{Upto, CellAllowed, TermAllowed, LinkAllowed, rows_held, ShapeAllowed, Allowed, Counted, Laid}
use Rattle.jobs.proofs.Places.{start_zero, start_suc}
use Rattle.turned.specs.Words.{turned_words}
use Rattle.turned.specs.About.{TurnedAbout}
use Rattle.turned.proofs.Named.{term_at_lem, terms_rise, coefficient_most}
use Rattle.turned.proofs.Words.{coefficients, count, same_head, links_word, ends_there, terms_word, turned_terms, cell_there, coefficient_there}
use Rattle.turned.proofs.Shape.{counted_first, grid_laid}
use Rattle.turned.proofs.Held.{same_held}
use Rattle.turned.proofs.About.{turned_about}

counted_of : (ws : List ℤ) (at c : ℕ) → word_at ws at ≡ pos c → Counted ws at
counted_of ws at c e = e ∙ ap pos (sym (ap nat_abs e))

-- ---- any map of the cells

module _ (ws : List ℤ) (L : Laid ws) (A : Allowed (job_of ws)) (τ : ℕ → ℕ) (I : Involution (cells_of ws) τ) where
  abbrev j : Job
  j = job_of ws

  abbrev ws' : List ℤ
  ws' = turned_words τ ws

  abbrev r : Job
  r = job_of ws'

  T : TurnedAbout τ j r
  T = turned_about ws L A τ I

  among : (l : ℕ) → l < links_of ws' → l < links_of ws
  among l h = subst (λ (n : ℕ). l < n) T.links h

  pub turned_laid : Laid ws'
  turned_laid = record {
    society = counted_first ws L τ 0 (omega arith) L.society;
    number = counted_first ws L τ 1 (omega arith) L.number;
    cells = counted_first ws L τ 2 (omega arith) L.cells;
    order = counted_first ws L τ 3 (omega arith) L.order;
    grid = grid_laid ws L τ;
    links = counted_of ws' (head_words ws' + 4 * cells_of ws') (links_of ws) (links_word ws L τ);
    terms = λ l h. counted_of ws' (start_of ws' l) (count ws L τ l) (terms_word ws L τ l (among l h));
    cell = λ l m h k.
        let q = subst (λ (n : ℕ). m < n) (turned_terms ws L τ l (among l h)) k in
        let t = term_at_lem (coefficients ws L τ l) (cells_of ws) 0 m q in
        counted_of ws' (start_of ws' l + 1 + 2 * m) t.cell (cell_there ws L τ l (among l h) m q ∙ t.is);
    ends = ends_there ws L τ;
  }

  -- as many words
  same_start : (l : ℕ) → l ≤ links_of ws → start_of ws' l ≡ start_of ws l
  same_start zero h = omega (arith, start_zero ws', start_zero ws, same_head ws L τ, T.cells)
  same_start (suc l) h = omega (arith, start_suc ws' l, start_suc ws l, same_start l (N.le_of_suc-le h), T.terms l h)

  pub same_length : length ws' ≡ length ws
  same_length =
      sym (ends_there ws L τ) ∙ ap (start_of ws') T.links ∙ same_start (links_of ws) (N.le_refl (links_of ws)) ∙ L.ends

  cell_allowed : (i : ℕ) → i < cells_of ws → CellAllowed r i
  cell_allowed i h =
      let a = A.cell (τ i) (I.stays i h) in
      record {
        crude = subst (Upto 1000000) (sym (T.crude i h)) a.crude;
        weight = subst (Upto 1000) (sym (T.weight i h)) a.weight;
        floor = subst (Upto 1000000) (sym (T.floor i h)) a.floor;
        ceiling = subst (Upto 1000000) (sym (T.ceiling i h)) a.ceiling;
        box = subst₂ (λ (x z : ℤ). x ≤ℤ z) (sym (T.floor i h)) (sym (T.ceiling i h)) a.box;
      }

  module _ (l : ℕ) (h : l < links_of ws) where
    pub small : (x : ℕ) → nat_abs (link_coefficient j l x) ≤ 10
    small x =
        coefficient_most (j.terms l) (j.cell l) (j.coefficient l) (cells_of ws) (λ m k. ((A.link l h).term m k).cell)
        (λ m k. ((A.link l h).term m k).coefficient_some) (λ m k. ((A.link l h).term m (N.le_of_suc-le k)).rising k) 10
        (λ m k. ((A.link l h).term m k).coefficient_small) x

    term_allowed : (m : ℕ) → m < count ws L τ l → TermAllowed r l m
    term_allowed m k =
        let t = term_at_lem (coefficients ws L τ l) (cells_of ws) 0 m k in
        let c = coefficient_there ws L τ l h m k ∙ t.has in
        record {
          cell = omega (arith, T.cells, ap nat_abs (cell_there ws L τ l h m k ∙ t.is), t.high);
          coefficient_small = subst (λ (z : ℤ). nat_abs z ≤ 10) (sym c) (small (τ t.cell));
          coefficient_some = subst (λ (z : ℤ). 1 ≤ nat_abs z) (sym c) t.some;
          rising = λ q. rise (subst (λ (n : ℕ). suc m < n) (turned_terms ws L τ l h) q);
        }
      where
        rise : suc m < count ws L τ l → r.cell l m < r.cell l (suc m)
        rise q =
            subst₂ (λ (x z : ℕ). x < z) (sym (ap nat_abs (cell_there ws L τ l h m k))) (sym (ap nat_abs (cell_there ws L τ l h (suc m) q)))
            (terms_rise (coefficients ws L τ l) (cells_of ws) 0 m q)

    link_allowed : LinkAllowed r l
    link_allowed = record {
      terms_some = subst (λ (n : ℕ). 1 ≤ n) (sym (T.terms l h)) (A.link l h).terms_some;
      terms_few = subst (λ (n : ℕ). n ≤ 4) (sym (T.terms l h)) (A.link l h).terms_few;
      term = λ m k. term_allowed m (subst (λ (n : ℕ). m < n) (turned_terms ws L τ l h) k);
      bound = subst (λ (z : ℤ). nat_abs z ≤ 1000000000) (sym (T.bound l h)) (A.link l h).bound;
    }

  shape_allowed : (t : Bool) → ShapeAllowed j t → ShapeAllowed r t
  shape_allowed true G = record {
    rows_some = subst (λ (n : ℕ). 2 ≤ n) (sym T.rows) G.rows_some;
    columns_some = subst (λ (n : ℕ). 2 ≤ n) (sym T.columns) G.columns_some;
    across_less = subst₂ (λ (m n : ℕ). m < n) (sym T.across) (sym T.columns) G.across_less;
    second_some = subst (λ (z : ℤ). 1 ≤ nat_abs z) (sym T.second) G.second_some;
  }
  shape_allowed false S = record {
    columns_one = T.columns ∙ S.columns_one;
    across_one = T.across ∙ S.across_one;
    second_none = T.second ∙ S.second_none;
  }

  -- all but the positive weights
  allowed_if : j.order ≤ rows_held r 0 j.rows → Allowed r
  allowed_if w = record {
    society = subst (λ (n : ℕ). n ≤ 7) (sym T.society) A.society;
    number = subst (λ (n : ℕ). n ≤ 4294967295) (sym T.number) A.number;
    cells_some = subst (λ (n : ℕ). 2 ≤ n) (sym T.cells) A.cells_some;
    cells_few = subst (λ (n : ℕ). n ≤ 120) (sym T.cells) A.cells_few;
    shape = subst (ShapeAllowed r) (sym T.grid) (shape_allowed j.grid A.shape);
    cells_are = rw (T.rows, T.columns, T.cells) A.cells_are;
    order_some = subst (λ (n : ℕ). 1 ≤ n) (sym T.order) A.order_some;
    order_few = subst (λ (n : ℕ). n ≤ 4) (sym T.order) A.order_few;
    order_less = subst₂ (λ (m n : ℕ). m < n) (sym T.order) (sym T.rows) A.order_less;
    across_some = subst (λ (n : ℕ). 1 ≤ n) (sym T.across) A.across_some;
    across_few = subst (λ (n : ℕ). n ≤ 4) (sym T.across) A.across_few;
    second = subst (Upto 999) (sym T.second) A.second;
    constant = subst (Upto 1000) (sym T.constant) A.constant;
    constant_some = subst (λ (z : ℤ). 1 ≤ nat_abs z) (sym T.constant) A.constant_some;
    constants = subst₂ (λ (x z : ℤ). nat_abs x + nat_abs z ≤ 1000) (sym T.constant) (sym T.second) A.constants;
    tolerance = subst (Upto 1000000000000000) (sym T.tolerance) A.tolerance;
    cell = λ i h. cell_allowed i (subst (λ (n : ℕ). i < n) T.cells h);
    weights = subst₂ (λ (m n : ℕ). m ≤ rows_held r 0 n) (sym T.order) (sym T.rows) w;
    links_few = subst (λ (n : ℕ). n ≤ 160) (sym T.links) A.links_few;
    link = λ l h. link_allowed l (among l h);
  }

-- ---- rows and columns

module _ (ws : List ℤ) (L : Laid ws) (A : Allowed (job_of ws)) (α β : ℕ → ℕ) (I : Involution (rows_of ws) α) (J : Involution (columns_of ws) β) where
  abbrev rows_and_columns : ℕ → ℕ
  rows_and_columns = grid_map (columns_of ws) α β

  K : Involution (cells_of ws) rows_and_columns
  K = grid_turned (rows_of ws) (columns_of ws) A.cells_are α β I J

  R : TurnedAbout rows_and_columns (job_of ws) (job_of (turned_words rows_and_columns ws))
  R = turned_about ws L A rows_and_columns K

  pub turned_allowed : Allowed (job_of (turned_words rows_and_columns ws))
  turned_allowed =
      allowed_if ws L A rows_and_columns K
      (subst (λ (n : ℕ). (job_of ws).order ≤ n)
      (sym
      (same_held (job_of ws) (job_of (turned_words rows_and_columns ws)) R.columns R.across (rows_of ws) α β I J
      (λ i h. R.weight i (subst (λ (n : ℕ). i < n) A.cells_are h))))
      A.weights)
