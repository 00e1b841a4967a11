-- Document 01, "Tables worked by hand": the starred tables, each as the bytes of its two packs and the verdict that belongs to them; and tables of
-- document 02, worked by hand likewise.
use Rattle.std.specs.Prelude.{ℕ, List, [], ◌∷◌, ◌++◌, ℤ, pos, negsuc}
use Rattle.std.specs.Prelude.{Err}
use Rattle.refusals.specs.declared.Refusal.TheVariants.{BrokenLink, GapAbove}
use Rattle.measure.specs.Check.{accepting}
use Rattle.measure.specs.Check.{Verdict}

pub record WorkedTable : Type 0 where
  pub job : List ℕ
  pub proposal : List ℕ
  pub verdict : Verdict

abbrev table : (job proposal : List ℕ) → Verdict → WorkedTable
table job proposal verdict = record { job = job; proposal = proposal; verdict = verdict }

-- "All: n 3, order 2, k 1, box 0..100": society 3, job 7, then T by its bytes, the cells by their crude rates and weights, and the links.
abbrev job_pack : (tolerance first second third links : List ℕ) → List ℕ
job_pack tolerance first second third links = 3 ∷ 7 ∷ 3 ∷ 2 ∷ 1 ∷ (tolerance ++ first ++ second ++ third ++ links)

abbrev cell : (u w : ℕ) → List ℕ
cell u w = u ∷ w ∷ 0 ∷ 100 ∷ []

-- No link; and "link -v0+v1 <= 0": one link of two terms, cell 0 with -1 (stored as 1) and cell 1 with 1 (stored as 2), then its bound.
abbrev no_link : List ℕ
no_link = 0 ∷ []

abbrev one_link : List ℕ
one_link = 1 ∷ 2 ∷ 0 ∷ 1 ∷ 1 ∷ 2 ∷ 0 ∷ []

-- "weights 1 unless said": a job by T and its crude rates; the same with the link; and with the weights 1 0 1.
abbrev pub plain : (tolerance : List ℕ) (u₀ u₁ u₂ : ℕ) → List ℕ
plain tolerance u₀ u₁ u₂ = job_pack tolerance (cell u₀ 1) (cell u₁ 1) (cell u₂ 1) no_link

abbrev pub linked : (tolerance : List ℕ) (u₀ u₁ u₂ : ℕ) → List ℕ
linked tolerance u₀ u₁ u₂ = job_pack tolerance (cell u₀ 1) (cell u₁ 1) (cell u₂ 1) one_link

abbrev hollow : (tolerance : List ℕ) (u₀ u₁ u₂ : ℕ) → List ℕ
hollow tolerance u₀ u₁ u₂ = job_pack tolerance (cell u₀ 1) (cell u₁ 0) (cell u₂ 1) no_link

-- Where the document names no T it is the table's own G, the least that accepts it. 784 is 90 06 (hex), and 783 is 8F 06.
abbrev pub starred : List WorkedTable
starred =
    -- "u 0 7 0, v 2 3 2: F 28, G 0"; "v 2 3 3: F 30, G 9"
    table (plain (0 ∷ []) 0 7 0) (2 ∷ 3 ∷ 2 ∷ []) (accepting (pos 28) (pos 0))
    ∷ table (plain (9 ∷ []) 0 7 0) (2 ∷ 3 ∷ 3 ∷ []) (accepting (pos 30) (pos 9))
    -- "v 0 7 0: F 196, G 784; T 784 accepts, T 783 gives 9": the terms are 196, 392 and 196, so the place of 9 is 1
    ∷ table (plain (144 ∷ 6 ∷ []) 0 7 0) (0 ∷ 7 ∷ 0 ∷ []) (accepting (pos 196) (pos 784))
    ∷ table (plain (143 ∷ 6 ∷ []) 0 7 0) (0 ∷ 7 ∷ 0 ∷ []) (Err (GapAbove 1))
    -- "u 0 5 0, link -v0+v1 <= 0, v 2 2 1: multiplier 2 gives F 15, G 0; multiplier 0 gives G 2"
    ∷ table (linked (0 ∷ []) 0 5 0) (2 ∷ 2 ∷ 1 ∷ 2 ∷ []) (accepting (pos 15) (pos 0))
    ∷ table (linked (2 ∷ []) 0 5 0) (2 ∷ 2 ∷ 1 ∷ 0 ∷ []) (accepting (pos 15) (pos 2))
    -- "the same, v 3 2 1, multiplier 2: F 19, G 11. v 2 3 1 gives 8, link 0."
    ∷ table (linked (11 ∷ []) 0 5 0) (3 ∷ 2 ∷ 1 ∷ 2 ∷ []) (accepting (pos 19) (pos 11))
    ∷ table (linked (11 ∷ []) 0 5 0) (2 ∷ 3 ∷ 1 ∷ 2 ∷ []) (Err (BrokenLink 0))
    -- "weights 1 0 1, u 0 50 0, v 0 1 0: F 4, G 16"
    ∷ table (hollow (16 ∷ []) 0 50 0) (0 ∷ 1 ∷ 0 ∷ []) (accepting (pos 4) (pos 16))
    -- "u 0 1 0, v 0 0 0: F 1, G 1"
    ∷ table (plain (1 ∷ []) 0 1 0) (0 ∷ 0 ∷ 0 ∷ []) (accepting (pos 1) (pos 1))
    ∷ []

-- W-205, the select table of `docs/SELECT-TABLE.md`: 3 rows and 2 columns, the order down 2, the order across 1, the second constant 2, k 1, T by its
-- byte; the first cell's ceiling is 10. Both constants and both orders differ, so that none can stand for the other.
abbrev pub select_job : (tolerance : ℕ) → List ℕ
select_job tolerance =
    3 ∷ 7 ∷ 6 ∷ 5 ∷ 3 ∷ 2 ∷ 2 ∷ 1 ∷ 2 ∷ 1 ∷ tolerance
    ∷ 9 ∷ 1 ∷ 0 ∷ 10 ∷ (cell 18 1 ++ cell 8 2 ++ cell 19 1 ++ cell 18 1 ++ cell 28 2 ++ no_link)

abbrev pub grids : List WorkedTable
grids =
    table (select_job 0) (10 ∷ 12 ∷ 14 ∷ 17 ∷ 21 ∷ 24 ∷ []) (accepting (pos 211) (pos 0))
    ∷ table (select_job 40) (10 ∷ 12 ∷ 15 ∷ 17 ∷ 21 ∷ 24 ∷ []) (accepting (pos 219) (pos 40))
    ∷ table (select_job 39) (10 ∷ 12 ∷ 15 ∷ 17 ∷ 21 ∷ 24 ∷ []) (Err (GapAbove 2))
    ∷ []

-- The first of these tables is off from the second by 1 in the cell 2 alone.
abbrev pub select_off : List ℤ
select_off = pos 0 ∷ pos 0 ∷ negsuc 0 ∷ pos 0 ∷ pos 0 ∷ pos 0 ∷ []

-- W-208: u 4 4 4, weights 3 0 1, boxes 3..7, 2..4 and 0..1, T 3; the table 3 2 1, and the table 5 3 1, which is as far off from it as a table can be.
abbrev pub far_job : List ℕ
far_job = job_pack (3 ∷ []) (4 ∷ 3 ∷ 3 ∷ 7 ∷ []) (4 ∷ 0 ∷ 2 ∷ 4 ∷ []) (4 ∷ 1 ∷ 0 ∷ 1 ∷ []) no_link

abbrev pub far_table : List ℕ
far_table = 3 ∷ 2 ∷ 1 ∷ []

abbrev pub far_other : List ℤ
far_other = pos 5 ∷ pos 3 ∷ pos 1 ∷ []
