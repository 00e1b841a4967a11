-- What is promised of the check: short statements about `check_of`, which the check's contract cites, and the definitions beside them. The
-- proof of each stands in proofs/Promises.antt.
use Rattle.std.specs.Prelude.{ℕ, ◌+◌, ◌-◌, ◌*◌, ◌≤◌, ◌<◌, ◌≡◌, ◌↔◌, false, List, [], ◌∷◌, map, ℤ, pos, ◌+ℤ◌, ◌*ℤ◌, ◌≤ℤ◌}
use Rattle.whole.specs.Sum.{sum}
use Rattle.certificate.specs.Problem.{squared}
use Rattle.certificate.specs.Differences.{form_at}
use Rattle.certificate.specs.Far.{off_by}
use Rattle.jobs.specs.Words.{word_at}
use Rattle.jobs.specs.Job.{Job}
use Rattle.jobs.specs.Allowed.{Allowed}
use Rattle.jobs.specs.Packs.{job_in, read_job}
use Rattle.rows.specs.Rows.{row_of}
use Rattle.measure.specs.Loss.{fit_of, loss_of}
use Rattle.measure.specs.Check.{accepting, check_of}
use Rattle.claims.specs.Read.{proposal_in, values_in, multipliers_in, loss_in, term_in, Reads, BothRead}
use Rattle.claims.specs.Meets.{EveryInBox, EveryLinkHolds, Meets, scaled_loss_of, NoneBelow, NoneNegative}
use Rattle.claims.specs.Far.{farness_of, AsGood, NoneFar}
use Rattle.claims.specs.Verdicts.{Acceptable, Outside, Broken, Above, SideSaid}
use Rattle.claims.specs.Worked.{WorkedTable, plain, starred, select_job, grids, select_off, far_job, far_table, far_other}
use Rattle.std.specs.Prelude.{Err}
use Rattle.refusals.specs.declared.Refusal.TheVariants.{BadProposal, OutsideBox, BrokenLink, GapAbove}
use Rattle.refusals.specs.declared.Refusal.{Refusal}
use Rattle.refusals.specs.Refusals.{number_of}

-- ---- accepted exactly, and what each refusal means

-- The check accepts with F and G if and only if both packs read, every value is in its box, every link holds, the gap is at most the tolerance,
-- F is the loss and G the gap.
abbrev pub AcceptedExactly : Type 0
AcceptedExactly = (job proposal : List ℕ) (F G : ℤ) → (check_of job proposal ≡ accepting F G) ↔ Acceptable job proposal F G

-- 1 to 5 are the job pack's refusals, with their places.
abbrev pub JobRefusedExactly : Type 0
JobRefusedExactly =
    (job proposal : List ℕ) (r : Refusal) → number_of r ≤ 5
    → (check_of job proposal ≡ Err r) ↔ ((read_job job).outcome ≡ Err r)

-- 6 is the proposal pack's refusal, for a job pack that reads.
abbrev pub ProposalRefusedExactly : Type 0
ProposalRefusedExactly =
    (job proposal : List ℕ) (place : ℕ)
    → (check_of job proposal ≡ Err (BadProposal place)) ↔ (Reads (read_job job).outcome × ((proposal_in job proposal).outcome ≡ Err (BadProposal place)))

-- 7 names the lowest cell whose value is outside its box.
abbrev pub OutsideExactly : Type 0
OutsideExactly = (job proposal : List ℕ) (place : ℕ) → (check_of job proposal ≡ Err (OutsideBox place)) ↔ Outside job proposal place

-- 8 names the lowest broken link, where every value is in its box.
abbrev pub BrokenExactly : Type 0
BrokenExactly = (job proposal : List ℕ) (place : ℕ) → (check_of job proposal ≡ Err (BrokenLink place)) ↔ Broken job proposal place

-- 9 says that the gap is above the tolerance, where every value is in its box and every link holds, and names the largest term of the gap.
abbrev pub AboveExactly : Type 0
AboveExactly = (job proposal : List ℕ) (place : ℕ) → (check_of job proposal ≡ Err (GapAbove place)) ↔ Above job proposal place

-- There is no other refusal.
abbrev pub NoOtherRefusal : Type 0
NoOtherRefusal = (job proposal : List ℕ) (r : Refusal) → check_of job proposal ≡ Err r → (1 ≤ number_of r) × (number_of r ≤ 9)

-- Document 02, W-202: each cell term says whether the box or the weight supplied it.
abbrev pub EachSideSaid : Type 0
EachSideSaid = (job proposal : List ℕ) (i : ℕ) → SideSaid (job_in job) (values_in job proposal) (multipliers_in job proposal) i

-- ---- no term is negative or large, and the loss is small

-- For a table that meets bounds and links no term is negative and no running total is above the gap: once such a total passes the tolerance, the
-- answer is settled.
abbrev pub NoTermNegative : Type 0
NoTermNegative =
    (job proposal : List ℕ) → BothRead job proposal
    → EveryInBox (job_in job) (values_in job proposal) → EveryLinkHolds (job_in job) (values_in job proposal)
    → NoneNegative (job_in job) (values_in job proposal) (multipliers_in job proposal)

-- W-202: however wide a table is, no single term of its gap leaves 64 bits, so the largest is told right where the sum of all would not fit.
abbrev pub TermAtMost : Type 0
TermAtMost =
    (job proposal : List ℕ) → BothRead job proposal → EveryInBox (job_in job) (values_in job proposal)
    → EveryLinkHolds (job_in job) (values_in job proposal) → (place : ℕ) → place < (job_in job).cells + (job_in job).links
    → (pos 0 ≤ℤ term_in job proposal place) × (term_in job proposal place ≤ℤ pos 7000000000000000000)

-- "The loss is at most 7.6·10^18."
abbrev pub LossAtMost : Type 0
LossAtMost = (job proposal : List ℕ) → BothRead job proposal → (pos 0 ≤ℤ loss_in job proposal) × (loss_in job proposal ≤ℤ pos 7600000000000000000)

-- W-205 adds nothing to a job that is no grid: its loss is document 01's, "sum of w(v-u)^2 + k times the sum of D^2" with D at i over the cells i to i+z.
abbrev pub line_rough : Job → (v : ℕ → ℤ) → ℤ
line_rough j v = j.constant *ℤ sum (j.cells - j.order) (λ i. squared (form_at (row_of j.order) j.order 1 i v))

abbrev pub LineLoss : Type 0
LineLoss = (j : Job) → Allowed j → j.grid ≡ false → (v : ℕ → ℤ) → loss_of j v ≡ fit_of j v +ℤ line_rough j v

-- ---- demand 3

-- Where the check accepts with F and G, no table that meets the job, fractions included, has a loss below F - G.
abbrev pub Best : Type 0
Best = (job proposal : List ℕ) (F G : ℤ) → check_of job proposal ≡ accepting F G → NoneBelow (job_in job) F G

-- The accepted table, written with any d, is itself such a table and has the scaled loss d²F: so F is within G of the least.
abbrev pub AcceptedMeets : Type 0
AcceptedMeets =
    (job proposal : List ℕ) (F G : ℤ) → check_of job proposal ≡ accepting F G
    → (d : ℤ) → pos 1 ≤ℤ d → Meets (job_in job) d (λ i. d *ℤ values_in job proposal i)
    × (scaled_loss_of (job_in job) d (λ i. d *ℤ values_in job proposal i) ≡ d *ℤ d *ℤ F)

-- ---- W-208: how far off a rate can be

-- Where the check accepts with F and G, every table that meets the job, fractions included, and whose loss is not above F is close to the accepted one.
abbrev pub AcceptedClose : Type 0
AcceptedClose = (job proposal : List ℕ) (F G : ℤ) → check_of job proposal ≡ accepting F G → NoneFar (job_in job) (values_in job proposal) F G

-- Of a job that is no grid the differences counted are "the weighted squares …, plus k times the squared order-z differences of those".
abbrev pub LineFarness : Type 0
LineFarness =
    (j : Job) → Allowed j → j.grid ≡ false → (δ : ℕ → ℤ) → farness_of j δ ≡ sum j.cells (λ i. j.weight i *ℤ squared (δ i)) +ℤ line_rough j δ

-- Of a grid "both smoothing sums count": where one rate of the select table worked by hand is off by 1, that is 2·1² by its weight 2, 1·2² down, 2·1² across.
abbrev pub GridFarness : Type 0
GridFarness = farness_of (job_in (select_job 40)) (word_at select_off) ≡ pos 8

-- The bound is reached: a table accepted with F 12 and G 3, and another that meets the job with a loss of 12 too, and whose differences come to 4G.
pub record FarReached : Type 0 where
  pub accepted : check_of far_job far_table ≡ accepting (pos 12) (pos 3)
  pub as_good : AsGood (job_in far_job) (pos 12) (pos 1) (word_at far_other)
  pub reached : farness_of (job_in far_job) (off_by (pos 1) (word_at far_other) (values_in far_job far_table)) ≡ pos 4 *ℤ pos 3

-- So 4 cannot be lowered, not even by a fraction: if a/b does in its place for every accepted table, then it is at least 4.
abbrev pub FourLeast : Type 0
FourLeast =
    (a b : ℕ)
    → ((job proposal : List ℕ) (F G : ℤ) → check_of job proposal ≡ accepting F G → (d : ℤ) (X : ℕ → ℤ) → AsGood (job_in job) F d X
    → (pos b *ℤ farness_of (job_in job) (off_by d X (values_in job proposal))) ≤ℤ (pos a *ℤ G *ℤ (d *ℤ d)))
    → 4 * b ≤ a

-- ---- worked tables

-- The check gives each starred table its verdict; and for u 0 1 0, "d 7, X 2 3 2 has 28".
abbrev pub WorkedTables : Type 0
WorkedTables =
    (map (λ (t : WorkedTable). check_of t.job t.proposal) starred ≡ map (λ (t : WorkedTable). t.verdict) starred)
    × (scaled_loss_of (job_in (plain (1 ∷ []) 0 1 0)) (pos 7) (word_at (pos 2 ∷ pos 3 ∷ pos 2 ∷ [])) ≡ pos 28)

-- W-205: the same of a grid worked by hand.
abbrev pub WorkedGrid : Type 0
WorkedGrid = map (λ (t : WorkedTable). check_of t.job t.proposal) grids ≡ map (λ (t : WorkedTable). t.verdict) grids
