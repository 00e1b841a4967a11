-- No term is negative for a table that meets bounds and links: a cell term by its rule, a link term as a product of two numbers that are not. Nor is one
-- large; and a cell term says its side.
use Prim.Native.Nat.{ℕ, ◌+◌, ◌-◌, ◌≤◌, ◌<◌}
use mathlib.Core.Path.{◌≡◌, refl, sym, ap, subst, ◌∙◌}
use mathlib.Core.Bool.{Bool, true, false}
use mathlib.Core.List.{List}
use native.Mathlib.Omega.{arith}
use borrow.Author.Tests.{ltb-true, ltb-false}
use lib.Dec.{ltb}
use lib.IntN.{ℤ, pos, negsuc, nat_abs}
use lib.Signed.{◌≤ℤ◌}
use Rattle.whole.proofs.Order.{pos_mono, ≤ℤ-sub, +ℤ-nonneg, +ℤ-mono, *ℤ-nonneg}
use Rattle.whole.proofs.Sums.{sum_nonneg}
use Rattle.whole.proofs.Parts.{sum_longer}
use Rattle.certificate.proofs.Terms.{cell_terms_not_negative}
use Rattle.jobs.specs.Job.{Job}
use Rattle.jobs.specs.Packs.{job_in, read_job}
use Rattle.jobs.proofs.Readings.{read_jobs_allowed, read_jobs_laid, read_proposals_proposed}
use Rattle.jobs.proofs.Places.{upto_nonneg}
use Rattle.tally.specs.Supplied.{limit}
use Rattle.measure.specs.Gap.{residual_of, cell_term_of, link_term_of, gap_of}
use Rattle.measure.specs.Given.{Given}
use Rattle.measure.proofs.Largest.{front_is, back_is}
use Rattle.measure.proofs.Totalled.{cell_terms_small}
use Rattle.measure.proofs.Walks.{link_term_small}
use Rattle.claims.specs.Read.{proposal_in, values_in, multipliers_in, term_in, BothRead}
use Rattle.claims.specs.Meets.{EveryInBox, EveryLinkHolds, NoneNegative}
use Rattle.claims.specs.Promises.{EachSideSaid, NoTermNegative, TermAtMost}
use Rattle.claims.proofs.Sides.{side_said}

module _ (j : Job) (v y : ℕ → ℤ) (I : EveryInBox j v) (H : EveryLinkHolds j v) (S : (l : ℕ) → l < j.links → pos 0 ≤ℤ y l) where
  cell_term_lem : (i : ℕ) → i < j.cells → pos 0 ≤ℤ cell_term_of j v y i
  cell_term_lem i h = cell_terms_not_negative limit (j.weight i) (residual_of j v y i) (j.floor i) (j.ceiling i) (v i) (I i h).0 (I i h).1

  link_term_lem : (l : ℕ) → l < j.links → pos 0 ≤ℤ link_term_of j v y l
  link_term_lem l h = *ℤ-nonneg (S l h) (≤ℤ-sub (H l h))

  none_negative : NoneNegative j v y
  unfolding gap_of
  none_negative = record {
    cell_terms = cell_term_lem;
    link_terms = link_term_lem;
    gap = +ℤ-nonneg (sum_nonneg j.cells cell_term_lem) (sum_nonneg j.links link_term_lem);
    running = λ m q a b. +ℤ-mono (sum_longer m j.cells a cell_term_lem) (sum_longer q j.links b link_term_lem);
  }

-- a multiplier that was read is not negative
pub multipliers_read : (job proposal : List ℕ) → BothRead job proposal → (l : ℕ) → l < (job_in job).links → pos 0 ≤ℤ multipliers_in job proposal l
multipliers_read job proposal B l h =
    upto_nonneg
    ((read_proposals_proposed (job_in job).cells (job_in job).links proposal B.proposal_reads.0 B.proposal_reads.1).multiplier l h)

pub no_term_negative : NoTermNegative
no_term_negative job proposal B I H =
    none_negative (job_in job) (values_in job proposal) (multipliers_in job proposal) I H (multipliers_read job proposal B)

pub each_side_said : EachSideSaid
each_side_said job proposal i = side_said (job_in job) (values_in job proposal) (multipliers_in job proposal) i

-- ---- no term is large

-- the words of two packs that read
pub words_given : (job proposal : List ℕ) → BothRead job proposal → Given (read_job job).words (proposal_in job proposal).words
words_given job proposal B = record {
  allowed = read_jobs_allowed job B.job_reads.0 B.job_reads.1;
  laid = read_jobs_laid job B.job_reads.0 B.job_reads.1;
  proposed = read_proposals_proposed (job_in job).cells (job_in job).links proposal B.proposal_reads.0 B.proposal_reads.1;
}

-- a number that is neither negative nor large
pub at_most : (most : ℕ) (z : ℤ) → pos 0 ≤ℤ z → nat_abs z ≤ most → (pos 0 ≤ℤ z) × (z ≤ℤ pos most)
at_most most (pos n) low h = (low, pos_mono h)
at_most most (negsuc n) low h = absurd low.le

pub term_at_most : TermAtMost
term_at_most job proposal B I H place h = go (ltb place n) refl
  where
    n : ℕ
    n = (job_in job).cells

    none : NoneNegative (job_in job) (values_in job proposal) (multipliers_in job proposal)
    none = no_term_negative job proposal B I H

    go : (o : Bool) → ltb place n ≡ o → (pos 0 ≤ℤ term_in job proposal place) × (term_in job proposal place ≤ℤ pos 7000000000000000000)
    go true e =
        let q = ltb-true place n e in
        subst (λ (z : ℤ). (pos 0 ≤ℤ z) × (z ≤ℤ pos 7000000000000000000)) (sym (front_is (job_in job) (values_in job proposal) (multipliers_in job proposal) place q))
        (at_most 7000000000000000000 _ (none.cell_terms place q) (cell_terms_small (words_given job proposal B) place q))
    go false e =
        let q : place - n < (job_in job).links = omega (arith, ltb-false place n e, h) in
        let same : n + (place - n) ≡ place = omega (arith, ltb-false place n e) in
        subst (λ (z : ℤ). (pos 0 ≤ℤ z) × (z ≤ℤ pos 7000000000000000000))
        (sym (ap (term_in job proposal) (sym same) ∙ back_is (job_in job) (values_in job proposal) (multipliers_in job proposal) (place - n)))
        (at_most 7000000000000000000 _ (none.link_terms (place - n) q) (link_term_small (words_given job proposal B) (place - n) q))
