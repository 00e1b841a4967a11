-- A job's words with its cells turned about: where each stands, and so what the job is that they make. `own_words` says that turning nothing changes nothing.
use Prim.Native.Nat.{ℕ, zero, suc, ◌+◌, ◌*◌, ◌≤◌, ◌<◌, zero-le}
use mathlib.Core.Path.{◌≡◌, refl, sym, ap, ap₂, subst, ◌∙◌}
use mathlib.Core.Bool.{Bool}
use mathlib.Core.List.{List, [], ◌∷◌, ◌++◌, append_assoc, append-nil}
use native.Mathlib.Nat as N
use native.Mathlib.Omega.{arith}
use lib.Dec.{eqb}
use lib.IntN.{ℤ, pos, nat_abs}
use lib.ListN.{length, take, drop, length-append, length-drop, drop_of_length-le, take-append-drop, get_or-append}
use lib.Seq.{drop-cons, drop-drop, drop-append_seam, get_or-drop, get_or_at, get_or-take, length-take-le}
use Rattle.std.specs.Prelude.{if◌then◌else◌}
use Rattle.whole.specs.Sum.{only, coefficient_of}
use Rattle.whole.proofs.Sums.{sum_cong}
use Rattle.fields.specs.Table.{grid_field}
use Rattle.jobs.specs.Job.{Job, link_coefficient}
use Rattle.jobs.specs.Words.{word_at, count_at, head_words, is_grid, cells_of, links_of, start_of, job_of}
use Rattle.jobs.specs.Allowed.{Allowed, Laid}
use Rattle.jobs.proofs.Places.{head_some, start_zero, start_suc, cells_inside, link_inside}
use Rattle.turned.specs.Words.{in_turn, cell_block, named_from, terms_from, link_block, turned_cell, turned_link, turned_words}
use Rattle.turned.proofs.Blocks.{lies, laid_out, Stands, Reached, reach}
use Rattle.turned.proofs.Named.{Own, terms_of_lem, length_terms, coefficient_back}

-- ---- the job's own words

module _ (ws : List ℤ) (L : Laid ws) (A : Allowed (job_of ws)) where
  abbrev j : Job
  j = job_of ws

  abbrev n : ℕ
  n = cells_of ws

  abbrev head : ℕ
  head = head_words ws

  cell_at : (i c : ℕ) → c < 4 → word_at ws (head + 4 * i + c) ≡ word_at (cell_block j i) c
  cell_at i zero h = ap (word_at ws) (omega arith)
  cell_at i (suc zero) h = ap (word_at ws) (omega arith)
  cell_at i (suc (suc zero)) h = ap (word_at ws) (omega arith)
  cell_at i (suc (suc (suc zero))) h = ap (word_at ws) (omega arith)
  cell_at i (suc (suc (suc (suc c)))) h = absurd (omega arith)

  own_cells : drop head ws ≡ in_turn (cell_block j) 0 n ++ drop (head + 4 * n) ws
  own_cells =
      ap (λ (p : ℕ). drop p ws) from
      ∙ laid_out (cell_block j) (λ i. head + 4 * i) ws n 0
      (λ l a b.
      lies (cell_block j l) (head + 4 * l) ws (omega (arith, cells_inside L)) (cell_at l) ∙ ap (λ (p : ℕ). cell_block j l ++ drop p ws) (next l))
      ∙ ap (λ (k : ℕ). in_turn (cell_block j) 0 n ++ drop (head + 4 * k) ws) (N.zero-add n)
    where
      from : head ≡ head + 4 * 0
      from = omega arith

      next : (l : ℕ) → head + 4 * l + 4 ≡ head + 4 * suc l
      next l = omega arith

  -- a link
  module _ (l : ℕ) (h : l < links_of ws) where
    abbrev S : ℕ
    S = start_of ws l

    abbrev t : ℕ
    t = j.terms l

    abbrev term_block : ℕ → List ℤ
    term_block m = pos (j.cell l m) ∷ j.coefficient l m ∷ []

    pub own_terms : Own (j.terms l) (j.cell l) (j.coefficient l) n (λ m k. ((A.link l h).term m k).cell) (λ m k. ((A.link l h).term m k).coefficient_some)
        (λ m k. ((A.link l h).term m (N.le_of_suc-le k)).rising k) 0 n 0 (j.terms l)
    own_terms =
        terms_of_lem (j.terms l) (j.cell l) (j.coefficient l) n (λ m k. ((A.link l h).term m k).cell) (λ m k. ((A.link l h).term m k).coefficient_some)
        (λ m k. ((A.link l h).term m (N.le_of_suc-le k)).rising k)

    term_word : (m : ℕ) → m < t → (c : ℕ) → c < 2 → word_at ws (S + 1 + 2 * m + c) ≡ word_at (term_block m) c
    term_word m k zero q = ap (word_at ws) (N.add-zero (S + 1 + 2 * m)) ∙ L.cell l m h k
    term_word m k (suc zero) q = ap (word_at ws) (omega arith)
    term_word m k (suc (suc c)) q = absurd (omega arith)

    own_link : drop S ws ≡ link_block n (link_coefficient j l) (j.bound l) ++ drop (start_of ws (suc l)) ws
    own_link =
        drop-cons ws S (pos 0) (omega (arith, link_inside L l h))
        ∙ ap₂ (λ (x : ℤ) (xs : List ℤ). x ∷ xs) (L.terms l h ∙ ap pos (sym own_terms.count))
        (ap (λ (p : ℕ). drop p ws) first
        ∙ laid_out term_block (λ m. S + 1 + 2 * m) ws t 0
        (λ m a b.
        lies (term_block m) (S + 1 + 2 * m) ws (omega (arith, link_inside L l h)) (term_word m (omega arith))
        ∙ ap (λ (p : ℕ). term_block m ++ drop p ws) (next m))
        ∙ ap₂ (λ (xs ys : List ℤ). xs ++ ys) (sym own_terms.terms)
        (ap (λ (k : ℕ). drop (S + 1 + 2 * k) ws) (N.zero-add t)
        ∙ drop-cons ws (S + 1 + 2 * t) (pos 0) (omega (arith, link_inside L l h))
        ∙ ap (λ (p : ℕ). j.bound l ∷ drop p ws) after)
        ∙ sym (append_assoc (terms_from (link_coefficient j l) 0 n) (j.bound l ∷ []) (drop (start_of ws (suc l)) ws)))
      where
        first : suc S ≡ S + 1 + 2 * 0
        first = omega arith

        next : (m : ℕ) → S + 1 + 2 * m + 2 ≡ S + 1 + 2 * suc m
        next m = omega arith

        after : suc (S + 1 + 2 * t) ≡ start_of ws (suc l)
        after = omega (arith, start_suc ws l)

  own_links : drop (start_of ws 0) ws ≡ in_turn (λ l. link_block n (link_coefficient j l) (j.bound l)) 0 (links_of ws)
  own_links =
      laid_out (λ l. link_block n (link_coefficient j l) (j.bound l)) (start_of ws) ws (links_of ws) 0 (λ l a b. own_link l (omega arith))
      ∙ ap (λ (xs : List ℤ). in_turn (λ l. link_block n (link_coefficient j l) (j.bound l)) 0 (links_of ws) ++ xs)
      (ap (λ (k : ℕ). drop (start_of ws k) ws) (N.zero-add (links_of ws)) ∙ drop_of_length-le ws {i = start_of ws (links_of ws)} (N.le_of_eq (sym L.ends)))
      ∙ append-nil (in_turn (λ l. link_block n (link_coefficient j l) (j.bound l)) 0 (links_of ws))

  link_count : suc (head + 4 * n) ≡ start_of ws 0
  link_count = omega (arith, start_zero ws)

  pub own_words : turned_words (λ i. i) ws ≡ ws
  unfolding turned_words
  own_words =
      ap (λ (xs : List ℤ). take head ws ++ xs)
      (sym
      (own_cells
      ∙ ap (λ (xs : List ℤ). in_turn (cell_block j) 0 n ++ xs)
      (drop-cons ws (head + 4 * n) (pos 0) (omega (arith, cells_inside L))
      ∙ ap₂ (λ (x : ℤ) (xs : List ℤ). x ∷ xs) L.links (ap (λ (p : ℕ). drop p ws) link_count ∙ own_links))))
      ∙ take-append-drop head ws

-- ---- the turned words

module _ (ws : List ℤ) (L : Laid ws) (τ : ℕ → ℕ) where
  abbrev ws' : List ℤ
  ws' = turned_words τ ws

  abbrev pub coefficients : (l : ℕ) → ℕ → ℤ
  coefficients l i = link_coefficient (job_of ws) l (τ i)

  abbrev pub links_list : List ℤ
  links_list = pos (links_of ws) ∷ in_turn (turned_link τ ws) 0 (links_of ws)

  abbrev pub body : List ℤ
  body = in_turn (turned_cell τ ws) 0 (cells_of ws) ++ links_list

  pub head_long : length (take (head_words ws) ws) ≡ head_words ws
  head_long = length-take-le (head_words ws) ws (omega (arith, cells_inside L))

  -- ---- the head

  pub same_word : (p : ℕ) → p < head_words ws → word_at ws' p ≡ word_at ws p
  unfolding turned_words
  same_word p h =
      get_or-append (take (head_words ws) ws) body (pos 0) p (subst (λ (k : ℕ). p < k) (sym head_long) h) ∙ get_or-take (head_words ws) ws p (pos 0) h

  early : {p : ℕ} → p < 6 → p < head_words ws
  early h = N.lt_of_lt_of_le h (head_some ws)

  pub same_cells : cells_of ws' ≡ cells_of ws
  same_cells = ap nat_abs (same_word 2 (early (omega arith)))

  pub same_grid : is_grid ws' ≡ is_grid ws
  same_grid = ap (λ (z : ℤ). eqb (nat_abs z) grid_field) (same_word 3 (early (omega arith)))

  pub same_head : head_words ws' ≡ head_words ws
  unfolding head_words
  same_head = ap (λ (t : Bool). if t then 11 else 6) same_grid

  -- ---- the cells

  pub body_there : drop (head_words ws) ws' ≡ body
  unfolding turned_words
  body_there = ap (λ (k : ℕ). drop k ws') (sym head_long) ∙ drop-append_seam (take (head_words ws) ws) body

  head_inside : head_words ws ≤ length ws'
  unfolding turned_words
  head_inside = omega (arith, length-append (take (head_words ws) ws) body, head_long)

  cells_reached : Reached (turned_cell τ ws) (λ i. head_words ws + 4 * i) ws' links_list 0 (cells_of ws)
  cells_reached =
      reach (turned_cell τ ws) (λ i. head_words ws + 4 * i) ws' links_list (cells_of ws) 0 (ap (λ (p : ℕ). drop p ws') from ∙ body_there)
      (omega (arith, head_inside)) (λ l a b s. next l)
    where
      from : head_words ws + 4 * 0 ≡ head_words ws
      from = omega arith

      next : (l : ℕ) → head_words ws + 4 * suc l ≡ head_words ws + 4 * l + 4
      next l = omega arith

  after_cells : drop (head_words ws + 4 * cells_of ws) ws' ≡ links_list
  after_cells = ap (λ (k : ℕ). drop (head_words ws + 4 * k) ws') (sym (N.zero-add (cells_of ws))) ∙ cells_reached.last

  pub links_word : word_at ws' (head_words ws' + 4 * cells_of ws') ≡ pos (links_of ws)
  links_word =
      ap (word_at ws') (ap₂ (λ (a b : ℕ). a + 4 * b) same_head same_cells ∙ sym (N.add-zero (head_words ws + 4 * cells_of ws)))
      ∙ sym (get_or-drop (head_words ws + 4 * cells_of ws) ws' 0 (pos 0)) ∙ ap (λ (xs : List ℤ). word_at xs 0) after_cells

  pub same_links : links_of ws' ≡ links_of ws
  same_links = ap nat_abs links_word

  -- a cell's words
  cell_word : (i c p : ℕ) → p ≡ head_words ws' + c + 4 * i → i < cells_of ws → c < 4 → word_at ws' p ≡ word_at (turned_cell τ ws i) c
  cell_word i c p e h k =
      let q : p ≡ head_words ws + 4 * i + c = omega (arith, same_head) in ap (word_at ws') q ∙ (cells_reached.each i zero-le (omega arith)).at c k

  module _ (i : ℕ) (h : i < cells_of ws) where
    pub turned_crude : (job_of ws').crude i ≡ (job_of ws).crude (τ i)
    turned_crude = cell_word i 0 (head_words ws' + 4 * i) (omega arith) h (omega arith)

    pub turned_weight : (job_of ws').weight i ≡ (job_of ws).weight (τ i)
    turned_weight = cell_word i 1 (head_words ws' + 1 + 4 * i) refl h (omega arith)

    pub turned_floor : (job_of ws').floor i ≡ (job_of ws).floor (τ i)
    turned_floor = cell_word i 2 (head_words ws' + 2 + 4 * i) refl h (omega arith)

    pub turned_ceiling : (job_of ws').ceiling i ≡ (job_of ws).ceiling (τ i)
    turned_ceiling = cell_word i 3 (head_words ws' + 3 + 4 * i) refl h (omega arith)

  -- ---- links

  abbrev pub count : (l : ℕ) → ℕ
  count l = named_from (coefficients l) 0 (cells_of ws)

  abbrev pub terms : (l : ℕ) → List ℤ
  terms l = terms_from (coefficients l) 0 (cells_of ws)

  long : (l : ℕ) → length (terms l) ≡ 2 * count l
  long l = length_terms (coefficients l) (cells_of ws) 0

  long_link : (l : ℕ) → length (turned_link τ ws l) ≡ 2 + 2 * count l
  long_link l = omega (arith, length-append (terms l) ((job_of ws).bound l ∷ []), long l)

  first_word : (l : ℕ) → Stands (turned_link τ ws) (start_of ws') ws' l → word_at ws' (start_of ws' l) ≡ pos (count l)
  first_word l s = ap (word_at ws') (sym (N.add-zero (start_of ws' l))) ∙ s.at 0 (omega (arith, long_link l))

  links_reached : Reached (turned_link τ ws) (start_of ws') ws' [] 0 (links_of ws)
  links_reached = reach (turned_link τ ws) (start_of ws') ws' [] (links_of ws) 0 first inside next
    where
      from : start_of ws' 0 ≡ head_words ws + 4 * cells_of ws + 1
      from = omega (arith, start_zero ws', same_head, same_cells)

      first : drop (start_of ws' 0) ws' ≡ in_turn (turned_link τ ws) 0 (links_of ws) ++ []
      first =
          ap (λ (p : ℕ). drop p ws') from ∙ sym (drop-drop 1 (head_words ws + 4 * cells_of ws) ws') ∙ ap (drop 1) after_cells
          ∙ sym (append-nil (in_turn (turned_link τ ws) 0 (links_of ws)))

      inside : start_of ws' 0 ≤ length ws'
      inside = omega (arith, from, length-drop (head_words ws + 4 * cells_of ws) ws', ap length after_cells)

      next : (l : ℕ) → 0 ≤ l → l < 0 + links_of ws → Stands (turned_link τ ws) (start_of ws') ws' l → start_of ws' (suc l) ≡ start_of ws' l + length (turned_link τ ws l)
      next l a b s = omega (arith, start_suc ws' l, ap nat_abs (first_word l s), long_link l)

  pub ends_there : start_of ws' (links_of ws') ≡ length ws'
  ends_there =
      let e : start_of ws' (0 + links_of ws) ≡ start_of ws' (links_of ws') = ap (start_of ws') (N.zero-add (links_of ws) ∙ sym same_links) in
      omega (arith, e, links_reached.inside, length-drop (start_of ws' (0 + links_of ws)) ws', ap length links_reached.last)

  module _ (l : ℕ) (h : l < links_of ws) where
    stands : Stands (turned_link τ ws) (start_of ws') ws' l
    stands = links_reached.each l zero-le (omega arith)

    pub terms_word : word_at ws' (start_of ws' l) ≡ pos (count l)
    terms_word = first_word l stands

    pub turned_terms : (job_of ws').terms l ≡ count l
    turned_terms = ap nat_abs terms_word

    -- a word of the terms
    term_of : (c p : ℕ) → p ≡ start_of ws' l + suc c → c < 2 * count l → word_at ws' p ≡ word_at (terms l) c
    term_of c p e k =
        ap (word_at ws') e ∙ stands.at (suc c) (omega (arith, long_link l)) ∙ get_or-append (terms l) ((job_of ws).bound l ∷ []) (pos 0) c (omega (arith, long l))

    pub cell_there : (m : ℕ) → m < count l → word_at ws' (start_of ws' l + 1 + 2 * m) ≡ word_at (terms l) (2 * m)
    cell_there m k = term_of (2 * m) (start_of ws' l + 1 + 2 * m) (omega arith) (omega arith)

    pub coefficient_there : (m : ℕ) → m < count l → (job_of ws').coefficient l m ≡ word_at (terms l) (1 + 2 * m)
    coefficient_there m k = term_of (1 + 2 * m) (start_of ws' l + 2 + 2 * m) (omega arith) (omega arith)

    pub turned_bound : (job_of ws').bound l ≡ (job_of ws).bound l
    turned_bound =
        ap (word_at ws') place ∙ stands.at (suc (2 * count l)) (omega (arith, long_link l))
        ∙ get_or_at (terms l) ((job_of ws).bound l) [] (pos 0) (2 * count l) (long l)
      where
        place : start_of ws' l + 1 + 2 * count_at ws' (start_of ws' l) ≡ start_of ws' l + suc (2 * count l)
        place = omega (arith, turned_terms)

    pub turned_coefficient : (i : ℕ) → i < cells_of ws → link_coefficient (job_of ws') l i ≡ link_coefficient (job_of ws) l (τ i)
    turned_coefficient i k =
        ap (λ (t : ℕ). coefficient_of t ((job_of ws').cell l) ((job_of ws').coefficient l) i) turned_terms
        ∙ sum_cong (count l) (λ m q. ap₂ (λ (c d : ℤ). only (nat_abs c) d i) (cell_there m q) (coefficient_there m q))
        ∙ coefficient_back (coefficients l) (cells_of ws) 0 i zero-le (omega arith)
