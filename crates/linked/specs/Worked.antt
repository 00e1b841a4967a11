-- Document 02, W-207: "01's u 0 5 0 with its link and T 0 gives 2 2 1, multiplier 2, count 1."
use Rattle.std.specs.Prelude.{ℕ, ◌≡◌, List, [], ◌∷◌}
use Rattle.linked.specs.Proposal.{offering, linked_of}

-- Society 3, job 7, n 3, order 2, k 1, T 0; the cells with weight 1 and box 0..100; one link of two terms, cell 0 with -1 (stored as 1) and cell 1 with 1
-- (stored as 2), and its bound 0.
abbrev pub worked_job : List ℕ
worked_job = 3 ∷ 7 ∷ 3 ∷ 2 ∷ 1 ∷ 0 ∷ 0 ∷ 1 ∷ 0 ∷ 100 ∷ 5 ∷ 1 ∷ 0 ∷ 100 ∷ 0 ∷ 1 ∷ 0 ∷ 100 ∷ 1 ∷ 2 ∷ 0 ∷ 1 ∷ 1 ∷ 2 ∷ 0 ∷ []

-- Four bytes after one pass: the values 2 2 1 and the multiplier 2, in an output that holds just them.
abbrev pub WorkedProposal : Type 0
WorkedProposal = linked_of 4 1 worked_job ≡ record { bytes = 2 ∷ 2 ∷ 1 ∷ 2 ∷ []; offer = offering 4 1 }
