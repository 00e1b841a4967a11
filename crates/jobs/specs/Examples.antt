-- The examples of document 01, "Packs" and "Tables worked by hand", that speak of packs alone. Bytes are written in decimal: 7F is 127, 80 is 128, AC is 172.
use Rattle.std.specs.Prelude.{ℕ, ◌≡◌, List, [], ◌∷◌, ◌++◌, pos, negsuc, get_or}
use Rattle.numbers.specs.Plain.{number_at, bytes_of}
use Rattle.numbers.specs.Zigzag.{stored_of, signed_of}
use Rattle.jobs.specs.Packs.{read_job, read_proposal, write_job}
use Rattle.std.specs.Prelude.{None, Ok, Err}
use Rattle.refusals.specs.declared.Refusal.TheVariants.{Unreadable, NotAllowed, TooFewWeights}
use Rattle.numbers.specs.Plain.{found}

-- "Input `13 03 07 03 02 01 00 00 01 00 64 07 01 00 64 00 01 00 64 00 02 03 02`": its job pack, after the length 13, and its proposal pack.
abbrev pub worked_job : List ℕ
worked_job = 3 ∷ 7 ∷ 3 ∷ 2 ∷ 1 ∷ 0 ∷ 0 ∷ 1 ∷ 0 ∷ 100 ∷ 7 ∷ 1 ∷ 0 ∷ 100 ∷ 0 ∷ 1 ∷ 0 ∷ 100 ∷ 0 ∷ []

abbrev pub worked_proposal : List ℕ
worked_proposal = 2 ∷ 3 ∷ 2 ∷ []

-- The same job with 0 in its order field.
abbrev pub house_job : List ℕ
house_job = 3 ∷ 7 ∷ 3 ∷ 0 ∷ 1 ∷ 0 ∷ 0 ∷ 1 ∷ 0 ∷ 100 ∷ 7 ∷ 1 ∷ 0 ∷ 100 ∷ 0 ∷ 1 ∷ 0 ∷ 100 ∷ 0 ∷ []

-- W-205: a grid of 2 rows and 3 columns, the order down 1, the order across 2, the second constant 999, k 1, T 0, by its weights. Cells run along a row first.
abbrev cell : (weight : ℕ) → List ℕ
cell w = 0 ∷ w ∷ 0 ∷ 100 ∷ []

abbrev pub grid_job : (k a b c d e f : ℕ) → List ℕ
grid_job k a b c d e f = 3 ∷ 7 ∷ 6 ∷ 5 ∷ 2 ∷ 3 ∷ 1 ∷ 2 ∷ 231 ∷ 7 ∷ k ∷ 0 ∷ (cell a ++ cell b ++ cell c ++ cell d ++ cell e ++ cell f ++ (0 ∷ []))

pub record Examples : Type 0 where
  -- "127 is 7F, 128 is 80 01, 300 is AC 02; 80 00 is refused."
  pub one_group : bytes_of 127 ≡ 127 ∷ []
  pub two_groups : bytes_of 128 ≡ 128 ∷ 1 ∷ []
  pub three_hundred : bytes_of 300 ≡ 172 ∷ 2 ∷ []
  pub read_three_hundred : number_at (172 ∷ 2 ∷ []) 0 ≡ found 300 2
  pub not_shortest : number_at (128 ∷ 0 ∷ []) 0 ≡ None
  -- "-1 is 1, 10 is 20"
  pub minus_one : stored_of (negsuc 0) ≡ 1
  pub ten : stored_of (pos 10) ≡ 20
  pub read_one : signed_of 1 ≡ negsuc 0
  pub read_twenty : signed_of 20 ≡ pos 10
  -- "An empty pack gives 1, place 0."
  pub empty : (read_job []).outcome ≡ Err (Unreadable 0)
  -- "n 2 with order field 0 gives 2": at the order field.
  pub order_of_two : (read_job (0 ∷ 0 ∷ 2 ∷ 0 ∷ 1 ∷ [])).outcome ≡ Err (NotAllowed 3)
  -- The worked input has 19 numbers and 3 values.
  pub job : (read_job worked_job).outcome ≡ Ok 19
  pub proposal : (read_proposal 3 0 worked_proposal).outcome ≡ Ok 3
  -- "a 0 in the order field stays 0"
  pub order_kept : get_or (read_job house_job).words 3 (pos 9) ≡ pos 0
  pub order_written : (write_job (read_job house_job).words).bytes ≡ house_job
  -- W-205: its 36 numbers; "both constants … together at most 1,000"; "4 when fewer rows than the order down hold at least the order across of positive weights"
  pub grid : (read_job (grid_job 1 1 0 0 0 1 1)).outcome ≡ Ok 36
  pub grid_written : (write_job (read_job (grid_job 1 1 0 0 0 1 1)).words).bytes ≡ grid_job 1 1 0 0 0 1 1
  pub constants : (read_job (grid_job 2 1 0 0 0 1 1)).outcome ≡ Err (NotAllowed 10)
  pub weights : (read_job (grid_job 1 1 0 0 0 1 0)).outcome ≡ Err TooFewWeights
  -- rows are tested alone, the product at the columns: 7 rows of 16 cells
  pub seven_rows : (read_job (0 ∷ 0 ∷ 16 ∷ 5 ∷ 7 ∷ 2 ∷ [])).outcome ≡ Err (NotAllowed 5)
  pub one_row : (read_job (0 ∷ 0 ∷ 16 ∷ 5 ∷ 1 ∷ 16 ∷ [])).outcome ≡ Err (NotAllowed 4)
