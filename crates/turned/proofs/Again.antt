-- A job's words turned about and then turned about again are turned about once, by the two maps one after the other. So twice by one map is as they were.
use Prim.Native.Nat.{ℕ, ◌<◌}
use mathlib.Core.Path.{◌≡◌, sym, ap, ap₂, ◌∙◌}
use mathlib.Core.List.{List, [], ◌∷◌, ◌++◌}
use native.Mathlib.Omega.{arith}
use lib.IntN.{ℤ, pos}
use lib.ListN.{take}
use lib.Seq.{take-append_seam}
use Rattle.whole.proofs.Turned.{Involution}
use Rattle.jobs.specs.Job.{link_coefficient}
use Rattle.jobs.specs.Words.{head_words, cells_of, links_of, job_of}
use Rattle.jobs.specs.Allowed.{Allowed, Laid}
use Rattle.turned.specs.Words.{in_turn, link_block, turned_cell, turned_link, turned_words}
use Rattle.turned.proofs.Blocks.{same_in_turn}
use Rattle.turned.proofs.Named.{link_same_block}
use Rattle.turned.proofs.Words.{own_words, body, head_long, same_cells, same_head, same_links, turned_crude, turned_weight, turned_floor, turned_ceiling, turned_coefficient, turned_bound}

module _ (ws : List ℤ) (L : Laid ws) (σ τ ρ : ℕ → ℕ) (stays : (i : ℕ) → i < cells_of ws → τ i < cells_of ws)
    (meets : (i : ℕ) → i < cells_of ws → σ (τ i) ≡ ρ i) where
  abbrev ws' : List ℤ
  ws' = turned_words σ ws

  head_again : take (head_words ws') ws' ≡ take (head_words ws) ws
  unfolding turned_words
  head_again = ap (λ (k : ℕ). take k ws') (same_head ws L σ ∙ sym (head_long ws L σ)) ∙ take-append_seam (take (head_words ws) ws) (body ws L σ)

  cell_again : (i : ℕ) → i < cells_of ws → turned_cell τ ws' i ≡ turned_cell ρ ws i
  cell_again i h =
      let t = stays i h in
      let e = meets i h in
      ap₂ (λ (x : ℤ) (xs : List ℤ). x ∷ xs) (turned_crude ws L σ (τ i) t ∙ ap (job_of ws).crude e)
      (ap₂ (λ (x : ℤ) (xs : List ℤ). x ∷ xs) (turned_weight ws L σ (τ i) t ∙ ap (job_of ws).weight e)
      (ap₂ (λ (x z : ℤ). x ∷ z ∷ []) (turned_floor ws L σ (τ i) t ∙ ap (job_of ws).floor e) (turned_ceiling ws L σ (τ i) t ∙ ap (job_of ws).ceiling e)))

  link_again : (l : ℕ) → l < links_of ws → turned_link τ ws' l ≡ turned_link ρ ws l
  link_again l h =
      ap (λ (n : ℕ). link_block n (λ i. link_coefficient (job_of ws') l (τ i)) ((job_of ws').bound l)) (same_cells ws L σ)
      ∙ link_same_block (cells_of ws) (λ i. link_coefficient (job_of ws') l (τ i)) (λ i. link_coefficient (job_of ws) l (ρ i)) ((job_of ws').bound l) ((job_of ws).bound l)
      (λ i k. turned_coefficient ws L σ l h (τ i) (stays i k) ∙ ap (link_coefficient (job_of ws) l) (meets i k)) (turned_bound ws L σ l h)

  pub words_again : turned_words τ (turned_words σ ws) ≡ turned_words ρ ws
  unfolding turned_words
  words_again =
      ap₂ ◌++◌ head_again
      (ap₂ ◌++◌
      (ap (λ (n : ℕ). in_turn (turned_cell τ ws') 0 n) (same_cells ws L σ)
      ∙ same_in_turn (turned_cell τ ws') (turned_cell ρ ws) (cells_of ws) 0 (λ i a b. cell_again i (omega arith)))
      (ap (λ (k : ℕ). pos k ∷ in_turn (turned_link τ ws') 0 k) (same_links ws L σ)
      ∙ ap (λ (l : List ℤ). pos (links_of ws) ∷ l) (same_in_turn (turned_link τ ws') (turned_link ρ ws) (links_of ws) 0 (λ l a b. link_again l (omega arith)))))

pub words_twice : (ws : List ℤ) → Laid ws → Allowed (job_of ws) → (τ : ℕ → ℕ) → Involution (cells_of ws) τ → turned_words τ (turned_words τ ws) ≡ ws
words_twice ws L A τ I = words_again ws L τ τ (λ i. i) I.stays I.twice ∙ own_words ws L A
