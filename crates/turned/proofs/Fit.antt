-- The turned words fit 64 bits: so they are written, and what is written reads back.
use Prim.Native.Nat.{ℕ, zero, suc, ◌+◌, ◌-◌, ◌≤◌, ◌<◌, zero-le}
use mathlib.Core.Path.{◌≡◌, refl, sym, ap, subst, ◌∙◌}
use mathlib.Core.Bool.{Bool, true, false}
use mathlib.Core.List.{List, [], ◌∷◌}
use native.Mathlib.Nat as N
use native.Mathlib.Omega.{arith}
use borrow.Author.Tests.{ltb-true, ltb-false}
use lib.Dec.{ltb, lit<}
use lib.IntN.{ℤ, pos, nat_abs}
use lib.Seq.{get_or-drop}
use Rattle.whole.proofs.Turned.{Involution}
use Rattle.whole.proofs.Fits.{small_fits}
use Rattle.packs.specs.Promises.{AllWords}
use Rattle.jobs.specs.Words.{word_at, head_words, is_grid, cells_of, links_of, rows_of, job_of}
use Rattle.jobs.specs.Allowed.{Allowed, Laid}
use Rattle.jobs.proofs.Places.{head_of_grid, head_of_line, columns_some}
use Rattle.jobs.proofs.Counts.{order_counts, columns_counts, down_counts, across_counts}
use Rattle.jobs.proofs.Shapes.{rows_grid, second_grid}
use Rattle.turned.specs.Words.{in_turn, turned_cell, turned_link, turned_words}
use Rattle.turned.proofs.Blocks.{Every, every_append, every_in_turn, every_at}
use Rattle.turned.proofs.Named.{every_term}
use Rattle.turned.proofs.Words.{coefficients, terms, links_list, body, body_there, same_word}
use Rattle.turned.proofs.About.{same_count}
use Rattle.turned.proofs.Allowed.{small}

abbrev Few : ℤ → Type 0
Few z = nat_abs z ≤ 1000000000000000

module _ (ws : List ℤ) (L : Laid ws) (A : Allowed (job_of ws)) where
  -- ---- the head

  rows_few : rows_of ws ≤ 120
  rows_few =
      omega (arith, N.mul-le-mul_left (rows_of ws) (columns_some L A), N.mul-one (rows_of ws), A.cells_are, A.cells_few)

  -- the words after the order field
  later_few : (t : Bool) → is_grid ws ≡ t → (p : ℕ) → suc (suc (suc (suc p))) < head_words ws → Few (word_at ws (suc (suc (suc (suc p)))))
  later_few true e zero h = omega (arith, rows_few, rows_grid ws e)
  later_few true e (suc zero) h = omega (arith, (columns_counts A L e).small)
  later_few true e (suc (suc zero)) h = omega (arith, (down_counts A L e).small)
  later_few true e (suc (suc (suc zero))) h = omega (arith, (across_counts A L e).small)
  later_few true e (suc (suc (suc (suc zero)))) h = omega (arith, subst (λ (z : ℤ). nat_abs z ≤ 999) (second_grid ws e) A.second.small)
  later_few true e (suc (suc (suc (suc (suc zero))))) h =
      omega (arith, subst (λ (k : ℕ). nat_abs (word_at ws (k - 2)) ≤ 1000) (head_of_grid ws e) A.constant.small)
  later_few true e (suc (suc (suc (suc (suc (suc zero)))))) h = subst (λ (k : ℕ). Few (word_at ws (k - 1))) (head_of_grid ws e) A.tolerance.small
  later_few true e (suc (suc (suc (suc (suc (suc (suc p))))))) h = absurd (omega (arith, head_of_grid ws e))
  later_few false e zero h = omega (arith, subst (λ (k : ℕ). nat_abs (word_at ws (k - 2)) ≤ 1000) (head_of_line ws e) A.constant.small)
  later_few false e (suc zero) h = subst (λ (k : ℕ). Few (word_at ws (k - 1))) (head_of_line ws e) A.tolerance.small
  later_few false e (suc (suc p)) h = absurd (omega (arith, head_of_line ws e))

  head_few : (p : ℕ) → p < head_words ws → Few (word_at ws p)
  head_few zero h = omega (arith, A.society)
  head_few (suc zero) h = omega (arith, A.number)
  head_few (suc (suc zero)) h = omega (arith, A.cells_few)
  head_few (suc (suc (suc zero))) h = omega (arith, (order_counts A L).small)
  head_few (suc (suc (suc (suc p)))) h = later_few (is_grid ws) refl p h

  -- ---- cells and links

  module _ (τ : ℕ → ℕ) (I : Involution (cells_of ws) τ) where
    few_cell : (i : ℕ) → i < cells_of ws → Every Few (turned_cell τ ws i)
    few_cell i h =
        let c = A.cell (τ i) (I.stays i h) in
        (omega (arith, c.crude.small), (omega (arith, c.weight.small), (omega (arith, c.floor.small), (omega (arith, c.ceiling.small), tt))))

    few_link : (l : ℕ) → l < links_of ws → Every Few (turned_link τ ws l)
    few_link l h = (
      omega (arith, same_count ws L A τ I l h, (A.link l h).terms_few),
      every_append Few (terms ws L τ l) ((job_of ws).bound l ∷ [])
          (every_term Few (coefficients ws L τ l) (cells_of ws) 0 (λ x p q. (omega (arith, A.cells_few), omega (arith, small ws L A τ I l h (τ x)))))
          (omega (arith, (A.link l h).bound), tt),
    )

    few_body : Every Few (body ws L τ)
    few_body =
        every_append Few (in_turn (turned_cell τ ws) 0 (cells_of ws)) (links_list ws L τ)
        (every_in_turn Few (turned_cell τ ws) (cells_of ws) 0 (λ i a b. few_cell i (omega arith)))
        (omega (arith, A.links_few), every_in_turn Few (turned_link τ ws) (links_of ws) 0 (λ l a b. few_link l (omega arith)))

    few_words : (p : ℕ) → Few (word_at (turned_words τ ws) p)
    few_words p = go (ltb p (head_words ws)) refl
      where
        go : (t : Bool) → ltb p (head_words ws) ≡ t → Few (word_at (turned_words τ ws) p)
        go true e = let h = ltb-true p (head_words ws) e in subst Few (sym (same_word ws L τ p h)) (head_few p h)
        go false e =
            let q : head_words ws + (p - head_words ws) ≡ p = omega (arith, ltb-false p (head_words ws) e) in
            subst Few
            (ap (λ (xs : List ℤ). word_at xs (p - head_words ws)) (sym (body_there ws L τ)) ∙ get_or-drop (head_words ws) (turned_words τ ws) (p - head_words ws) (pos 0)
            ∙ ap (word_at (turned_words τ ws)) q)
            (every_at Few (body ws L τ) zero-le few_body (p - head_words ws))

    pub words_fit : AllWords (turned_words τ ws)
    words_fit i = small_fits (word_at (turned_words τ ws) i) (few_words i) (lit< tt)
