-- The words of a job and of a proposal with their cells turned about by a map τ (W-213, "written in reverse with boxes, weights and link cells"): the cell i has
-- what the cell τ i had. Links, and so multipliers, keep their order; a link's terms are put in rising order again.
use Rattle.std.specs.Prelude.{ℕ, zero, suc, Bool, List, [], ◌∷◌, ◌++◌, ltb, ℤ, pos, nat_abs, take, drop}
use Rattle.std.specs.Prelude.{if◌then◌else◌}
use Rattle.jobs.specs.Job.{Job, link_coefficient}
use Rattle.jobs.specs.Words.{word_at, head_words, cells_of, links_of, job_of}

-- The blocks of words numbered i, i + 1, .., k of them, one after another.
abbrev pub in_turn : (block : ℕ → List ℤ) → (i k : ℕ) → List ℤ
in_turn block i zero = []
in_turn block i (suc k) = block i ++ in_turn block (suc i) k

-- "for each cell u, w, lo, hi"
abbrev pub cell_block : Job → (i : ℕ) → List ℤ
cell_block j i = j.crude i ∷ j.weight i ∷ j.floor i ∷ j.ceiling i ∷ []

-- A link names a cell if it has a coefficient there. Of the k cells from i on: how many it names, and "its terms (cell, coefficient)", cells rising.
abbrev pub names : ℤ → Bool
names c = ltb 0 (nat_abs c)

abbrev pub named_from : (coefficient : ℕ → ℤ) → (i k : ℕ) → ℕ
named_from c i zero = 0
named_from c i (suc k) = if names (c i) then suc (named_from c (suc i) k) else named_from c (suc i) k

abbrev pub terms_from : (coefficient : ℕ → ℤ) → (i k : ℕ) → List ℤ
terms_from c i zero = []
terms_from c i (suc k) = if names (c i) then pos i ∷ c i ∷ terms_from c (suc i) k else terms_from c (suc i) k

-- "for each link the term count, its terms (cell, coefficient), then b"
abbrev pub link_block : (n : ℕ) (coefficient : ℕ → ℤ) (bound : ℤ) → List ℤ
link_block n c b = pos (named_from c 0 n) ∷ (terms_from c 0 n ++ (b ∷ []))

-- A job's words turned about: its head, the cells, the link count, the links.
abbrev pub turned_cell : (τ : ℕ → ℕ) → List ℤ → (i : ℕ) → List ℤ
turned_cell τ ws i = cell_block (job_of ws) (τ i)

abbrev pub turned_link : (τ : ℕ → ℕ) → List ℤ → (l : ℕ) → List ℤ
turned_link τ ws l = link_block (cells_of ws) (λ i. link_coefficient (job_of ws) l (τ i)) ((job_of ws).bound l)

unfoldable pub turned_words : (τ : ℕ → ℕ) → List ℤ → List ℤ
turned_words τ ws =
    take (head_words ws) ws ++ (in_turn (turned_cell τ ws) 0 (cells_of ws) ++ (pos (links_of ws) ∷ in_turn (turned_link τ ws) 0 (links_of ws)))

-- A proposal's: "n values, then one multiplier per link".
abbrev pub turned_value : (τ : ℕ → ℕ) → List ℤ → (i : ℕ) → List ℤ
turned_value τ ps i = word_at ps (τ i) ∷ []

abbrev pub turned_values : (τ : ℕ → ℕ) (cells : ℕ) → List ℤ → List ℤ
turned_values τ cells ps = in_turn (turned_value τ ps) 0 cells ++ drop cells ps
