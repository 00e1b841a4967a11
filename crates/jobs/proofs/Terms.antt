-- The terms of a link that was read, one after another up to its bound: each is allowed, and their cells rise.
use Prim.Native.Nat.{ℕ, zero, suc, ◌+◌, ◌-◌, ◌*◌, ◌≤◌, ◌<◌}
use mathlib.Core.Path.{◌≡◌, refl}
use mathlib.Core.Bool.{Bool, true, false}
use mathlib.Core.List.{List}
use native.Mathlib.Numerals.{add-one}
use native.Mathlib.Omega.{arith}
use borrow.Author.Tests.{ltb-true, ltb-false, leb-true, eqb-false}
use lib.Dec.{ltb, leb, eqb}
use lib.IntN.{ℤ, nat_abs}
use Rattle.std.specs.Prelude.{if◌then◌else◌}
use Rattle.numbers.specs.Zigzag.{signed_of}
use Rattle.numbers.proofs.Clash.{clash}
use Rattle.numbers.proofs.Signs.{signs_written_back, stored_most}
use Rattle.fields.specs.declared.links.Links.{Links}
use Rattle.fields.specs.declared.Field.TheVariants.{Cell, Coefficient, Bound}
use Rattle.fields.specs.Table.{with_least, after_coefficient, links_from, step_of}
use Rattle.jobs.specs.Words.{word_at, count_at, cells_of, start_of, job_of}
use Rattle.jobs.specs.Allowed.{TermAllowed, Counted}
use Rattle.jobs.proofs.Taken.{At, at_place, at_field, row, next_is, SignedRow, signed_row, here_on}
use Rattle.std.specs.Prelude.{Ok, Err}
use Rattle.refusals.specs.declared.Refusal.TheVariants.{BadTerm}
use Rattle.fields.specs.declared.Barred.TheVariants.{Other}

-- only 0 is stored as 0
signed_some : (raw : ℕ) → (raw ≡ 0 → ⊥) → 1 ≤ nat_abs (signed_of raw)
signed_some raw h = go (ltb 0 (nat_abs (signed_of raw))) refl
  where
    go : (t : Bool) → ltb 0 (nat_abs (signed_of raw)) ≡ t → 1 ≤ nat_abs (signed_of raw)
    go true e = ltb-true 0 (nat_abs (signed_of raw)) e
    go false e = absurd (h (omega (arith, stored_most (signed_of raw) 0 (ltb-false 0 (nat_abs (signed_of raw)) e), signs_written_back raw)))

-- the link with a term less to come
abbrev fewer : Links → Links
fewer l = record { n = l.n; links = l.links; link = l.link; terms = l.terms - 1; least = l.least }

-- after a coefficient: the next term, or the bound
data After (ws : List ℤ) (l : Links) (p : ℕ) : Type 0 where
  another : 1 < l.terms → At ws (Cell (fewer l)) p → After ws l p
  last : l.terms ≤ 1 → At ws (Bound l) p → After ws l p

-- what a coefficient that lets the walk go on tells: it is not 0, and the term's cell rises
record Risen (ws : List ℤ) (l : Links) (p : ℕ) : Type 0 where
  pub some : 1 ≤ nat_abs (word_at ws p)
  pub up : l.least ≡ 0 → ⊥
  pub after : After ws l (p + 1)

risen : {ws : List ℤ} {p most : ℕ} (l : Links) → SignedRow ws p most (after_coefficient l) → Risen ws l p
risen {ws} {p} l r = go (eqb r.raw 0) (eqb l.least 0) (ltb 1 l.terms) refl refl refl r.next
  where
    some : eqb r.raw 0 ≡ false → 1 ≤ nat_abs (word_at ws p)
    some q = rw r.is (signed_some r.raw (eqb-false r.raw 0 q))

    go : (a b d : Bool) → eqb r.raw 0 ≡ a → eqb l.least 0 ≡ b → ltb 1 l.terms ≡ d
        → (if a then Err (Other (BadTerm l.link)) else if b then Err (Other (BadTerm l.link)) else if d then Ok (Cell (fewer l)) else Ok (Bound l)) ≡ Ok r.g
        → Risen ws l p
    go true b d q u m e = clash (cc)
    go false true d q u m e = clash (cc)
    go false false true q u m e = record {
      some = some q;
      up = eqb-false l.least 0 u;
      after = another (ltb-true 1 l.terms m) (at_field (next_is e) r.rest);
    }
    go false false false q u m e = record {
      some = some q;
      up = eqb-false l.least 0 u;
      after = last (ltb-false 1 l.terms m) (at_field (next_is e) r.rest);
    }

-- a term whose cell stands at p
record OneTerm (ws : List ℤ) (l : Links) (p : ℕ) : Type 0 where
  pub counted : Counted ws p
  pub cell : count_at ws p < l.n
  pub rises : l.least ≤ count_at ws p
  pub small : nat_abs (word_at ws (p + 1)) ≤ 10
  pub some : 1 ≤ nat_abs (word_at ws (p + 1))
  pub after : After ws (with_least l (count_at ws p + 1)) (p + 1 + 1)

one_term : (ws : List ℤ) (l : Links) (p : ℕ) → At ws (Cell l) p → OneTerm ws l p
unfolding step_of
one_term ws l p t =
    let k = row (λ x. ltb x l.n) (λ x. Ok (Coefficient (with_least l (if leb l.least x then x + 1 else 0)))) refl refl (λ x. refl) t in
    go k.counted k.ok (leb l.least x) refl (at_field (next_is k.next) k.rest)
  where
    x : ℕ
    x = count_at ws p

    go : Counted ws p → ltb x l.n ≡ true → (b : Bool) → leb l.least x ≡ b → At ws (Coefficient (with_least l (if b then x + 1 else 0))) (p + 1)
        → OneTerm ws l p
    go n h true e t =
        let c = signed_row 10 (after_coefficient (with_least l (x + 1))) refl refl (λ x. refl) t in
        let w = risen (with_least l (x + 1)) c in
        record { counted = n; cell = ltb-true x l.n h; rises = leb-true l.least x e; small = c.small; some = w.some; after = w.after }
    go n h false e t = absurd ((risen (with_least l 0) (signed_row 10 (after_coefficient (with_least l 0)) refl refl (λ x. refl) t)).up refl)

-- the terms of the link j
module _ (ws : List ℤ) (j : ℕ) where
  abbrev cell_of : ℕ → ℕ
  cell_of m = start_of ws j + 1 + 2 * m

  abbrev terms_of : ℕ
  terms_of = count_at ws (start_of ws j)

  -- the term m, and that its cell is a count
  pub record TermRead (m : ℕ) : Type 0 where
    pub allowed : TermAllowed (job_of ws) j m
    pub counted : Counted ws (cell_of m)

  -- the terms from m on and the bound, up to the next link
  pub record AllTerms (l : Links) (m : ℕ) : Type 0 where
    pub each : (i : ℕ) → m ≤ i → i < terms_of → TermRead i
    pub first : l.least ≤ count_at ws (cell_of m)
    pub bound : nat_abs ((job_of ws).bound j) ≤ 1000000000
    pub rest : At ws (links_from l.n l.links (l.link + 1)) (cell_of terms_of + 1)

  module _ (l : Links) (m : ℕ) (cells_are : l.n ≡ cells_of ws) (left : l.terms + m ≡ terms_of) (o : OneTerm ws l (cell_of m)) where
    term_read : (suc m < terms_of → count_at ws (cell_of m) < count_at ws (cell_of (suc m))) → TermRead m
    term_read up =
        let q : cell_of m + 1 ≡ start_of ws j + 2 + 2 * m = omega arith in
        record {
          allowed = record {
            cell = omega (arith, o.cell);
            coefficient_small = rw q at o.small;
            coefficient_some = rw q at o.some;
            rising = up;
          };
          counted = o.counted;
        }

    -- one term, where those after it are known
    from_term : ((d : Links) → d.n ≡ cells_of ws → d.terms + (m + 1) ≡ terms_of → 1 ≤ d.terms → At ws (Cell d) (cell_of (m + 1)) → AllTerms d (m + 1))
        → 1 ≤ l.terms → AllTerms l m
    unfolding step_of
    from_term later some = go o.after
      where
        go : After ws (with_least l (count_at ws (cell_of m) + 1)) (cell_of m + 1 + 1) → AllTerms l m
        go (another h t) =
            let d = fewer (with_least l (count_at ws (cell_of m) + 1)) in
            let r = later d cells_are (omega arith) (omega arith) (at_place (cell_of (m + 1)) (omega arith) t) in
            record {
              each = here_on (term_read (λ u. rw (← add-one m) (omega (arith, r.first)))) r.each;
              first = o.rises;
              bound = r.bound;
              rest = r.rest;
            }
        go (last h t) =
            let onward = links_from l.n l.links (l.link + 1) in
            let b = signed_row 1000000000 (λ x. Ok onward) refl refl (λ x. refl) (at_place (cell_of terms_of) (omega arith) t) in
            record {
              each = here_on (term_read (λ u. absurd (omega arith))) (λ i a c. absurd (omega arith));
              first = o.rises;
              bound = b.small;
              rest = at_field (next_is b.next) b.rest;
            }

  pub all_terms : (k : ℕ) (l : Links) (m : ℕ) → l.n ≡ cells_of ws → l.terms + m ≡ terms_of → 1 ≤ l.terms → l.terms ≤ k
      → At ws (Cell l) (cell_of m) → AllTerms l m
  all_terms zero l m n e h f t = absurd (omega arith)
  all_terms (suc k) l m n e h f t =
      from_term l m n e (one_term ws l (cell_of m) t) (λ d same more some r. all_terms k d (m + 1) same more some (omega arith) r) h
