-- What each verdict of the check stands for, in document 01's words: the right-hand sides of the promises about it.
use Rattle.std.specs.Prelude.{ℕ, ◌+◌, ◌<◌, ◌≡◌, ◌⊎◌, true, List, ℤ, pos, ◌≤ℤ◌, ◌<ℤ◌}
use Rattle.certificate.specs.Terms.{box_term, square_term, square_counts}
use Rattle.jobs.specs.Job.{Job}
use Rattle.jobs.specs.Packs.{job_in}
use Rattle.tally.specs.declared.term.Supplied.{Supplied}
use Rattle.tally.specs.declared.term.Supplied.TheVariants.{ByBox, ByWeight}
use Rattle.tally.specs.Supplied.{limit, amount_of}
use Rattle.tally.specs.Largest.{Largest}
use Rattle.measure.specs.Gap.{residual_of, cell_term_of, supplied_of}
use Rattle.claims.specs.Read.{values_in, loss_in, gap_in, term_in, BothRead}
use Rattle.claims.specs.Meets.{InBox, LinkHolds, EveryInBox, EveryLinkHolds}

-- Both packs read, every value is in its box, every link holds, and the gap is at most the tolerance; F is the loss and G the gap.
pub record Acceptable (job proposal : List ℕ) (F G : ℤ) : Type 0 where
  pub both_read : BothRead job proposal
  pub values_in_boxes : EveryInBox (job_in job) (values_in job proposal)
  pub links_hold : EveryLinkHolds (job_in job) (values_in job proposal)
  pub gap_within : gap_in job proposal ≤ℤ (job_in job).tolerance
  pub loss_is : F ≡ loss_in job proposal
  pub gap_is : G ≡ gap_in job proposal

-- The place is the lowest of n numbers that is not good: it is not, and all below it are.
pub record LowestNot (good : ℕ → Type 0) (n place : ℕ) : Type 0 where
  pub among : place < n
  pub itself : good place → ⊥
  pub lower : (i : ℕ) → i < place → good i

-- "7: value outside its box: lowest cell"
pub record Outside (job proposal : List ℕ) (place : ℕ) : Type 0 where
  pub both_read : BothRead job proposal
  pub lowest_cell : LowestNot (InBox (job_in job) (values_in job proposal)) (job_in job).cells place

-- "8: link broken: lowest link"; "Then 6, 7, 8, 9."
pub record Broken (job proposal : List ℕ) (place : ℕ) : Type 0 where
  pub both_read : BothRead job proposal
  pub values_in_boxes : EveryInBox (job_in job) (values_in job proposal)
  pub lowest_link : LowestNot (LinkHolds (job_in job) (values_in job proposal)) (job_in job).links place

-- "9: G above T"; document 02, W-202: "the place of 9 becomes that of the largest term of the gap: a cell's number, or n plus the link's number, the
-- lowest place if several are equal"
pub record Above (job proposal : List ℕ) (place : ℕ) : Type 0 where
  pub both_read : BothRead job proposal
  pub values_in_boxes : EveryInBox (job_in job) (values_in job proposal)
  pub links_hold : EveryLinkHolds (job_in job) (values_in job proposal)
  pub gap_above : (job_in job).tolerance <ℤ gap_in job proposal
  pub largest_term : Largest (term_in job proposal) ((job_in job).cells + (job_in job).links) place

-- Document 02, W-202: "Each cell term also says whether the box or the weight supplied it, the box if they tie". By the box it is the box term, and not
-- above the square where that counts; by the weight the square counts, and it is the square, below the box term.
abbrev pub ByTheBox : Job → (v y : ℕ → ℤ) → (i : ℕ) → (term : ℤ) → Type 0
ByTheBox j v y i term =
    (term ≡ box_term (residual_of j v y i) (j.floor i) (j.ceiling i) (v i))
    × (square_counts limit (j.weight i) (residual_of j v y i) ≡ true → term ≤ℤ square_term (j.weight i) (residual_of j v y i))

abbrev pub ByTheWeight : Job → (v y : ℕ → ℤ) → (i : ℕ) → (term : ℤ) → Type 0
ByTheWeight j v y i term =
    (term ≡ square_term (j.weight i) (residual_of j v y i)) × (square_counts limit (j.weight i) (residual_of j v y i) ≡ true)
    × (term <ℤ box_term (residual_of j v y i) (j.floor i) (j.ceiling i) (v i))

abbrev pub SaysSide : Job → (v y : ℕ → ℤ) → (i : ℕ) → Supplied → Type 0
SaysSide j v y i (ByBox term) = ByTheBox j v y i term
SaysSide j v y i (ByWeight term) = ByTheWeight j v y i term

-- What is supplied is the cell term, and the side that is named supplied it.
pub record SideSaid (j : Job) (v y : ℕ → ℤ) (i : ℕ) : Type 0 where
  pub amount : amount_of (supplied_of j v y i) ≡ cell_term_of j v y i
  pub side : SaysSide j v y i (supplied_of j v y i)

-- The three words of a cell: "term, residual …, side (0 box, 1 weight, …)"
pub record CellTold (j : Job) (v y : ℕ → ℤ) (i : ℕ) (term residual side : ℤ) : Type 0 where
  pub term_is : term ≡ cell_term_of j v y i
  pub residual_is : residual ≡ residual_of j v y i
  pub side_is : ((side ≡ pos 0) × ByTheBox j v y i term) ⊎ ((side ≡ pos 1) × ByTheWeight j v y i term)
