-- Packs written in reverse (W-213): they read back as the words turned about, a job and its proposal, and reversed again they are turned about once.
use Prim.Native.Nat.{ℕ}
use mathlib.Core.Path.{◌≡◌, sym, ap, ap₂, subst, ◌∙◌}
use mathlib.Core.List.{List}
use native.Mathlib.Omega.{arith}
use lib.IntN.{ℤ}
use lib.ListN.{length}
use Rattle.whole.specs.Turned.{grid_map}
use Rattle.whole.proofs.Turned.{Involution}
use Rattle.packs.specs.Reading.{Outcome, Ran}
use Rattle.jobs.specs.Words.{cells_of, rows_of, columns_of, links_of, job_of}
use Rattle.jobs.specs.Allowed.{Allowed, Laid, Proposed}
use Rattle.jobs.specs.Packs.{job_in, read_job, write_job, read_proposal, write_proposal}
use Rattle.jobs.proofs.Readings.{read_jobs_allowed, read_jobs_laid, read_words_counted, read_proposals_proposed}
use Rattle.jobs.proofs.Trips.{allowed_jobs_written, jobs_read_back, proposed_read_back}
use Rattle.turned.specs.Words.{turned_words, turned_values}
use Rattle.turned.specs.About.{TurnedAbout}
use Rattle.turned.proofs.About.{turned_about}
use Rattle.turned.proofs.Allowed.{turned_laid, same_length, turned_allowed}
use Rattle.turned.proofs.Fit.{words_fit}
use Rattle.turned.proofs.Again.{words_twice}
use Rattle.turned.proofs.Values.{turned_value_lem, turned_multiplier, turned_proposed, values_twice}
use Rattle.measure.specs.Check.{values_of, multipliers_of}
use Rattle.claims.specs.Read.{proposal_in, Reads, BothRead}
use Rattle.claims.specs.Reversed.{Way, row_from, column_from, cell_from, reversed_job, reversed_proposal}
use Rattle.claims.specs.ReversedPromises.{TableTurned}
use Rattle.claims.proofs.Ways.{rows_turned, columns_turned, cells_turned}
use Rattle.std.specs.Prelude.{Ok}

-- ---- a job pack

module _ (job : List ℕ) (reads : Reads (read_job job).outcome) where
  abbrev pub words : List ℤ
  words = (read_job job).words

  pub laid : Laid words
  laid = read_jobs_laid job reads.0 reads.1

  pub allowed : Allowed (job_in job)
  allowed = read_jobs_allowed job reads.0 reads.1

  module _ (way : Way) where
    abbrev τ : ℕ → ℕ
    τ = cell_from way (job_in job)

    involution : Involution (cells_of words) τ
    involution = cells_turned (job_in job) allowed way

    abbrev turned : List ℤ
    turned = turned_words τ words

    about : TurnedAbout τ (job_in job) (job_of turned)
    about = turned_about words laid allowed τ involution

    pub allowed_too : Allowed (job_of turned)
    allowed_too =
        turned_allowed words laid allowed (row_from way (rows_of words)) (column_from way (columns_of words)) (rows_turned way (rows_of words)) (columns_turned way (columns_of words))

    job_back : read_job (reversed_job way job) ≡ record { words = turned; outcome = Ok (length turned) }
    job_back =
        let w = allowed_jobs_written turned (turned_laid words laid allowed τ involution) allowed_too in
        jobs_read_back turned (words_fit words laid allowed τ involution) w.0 w.1

    pub words_back : (read_job (reversed_job way job)).words ≡ turned
    words_back = ap (λ (x : Ran). x.words) job_back

    pub job_reads : (read_job (reversed_job way job)).outcome ≡ Ok reads.0
    job_reads =
        ap (λ (x : Ran). x.outcome) job_back
        ∙ ap {B = Outcome} Ok (same_length words laid allowed τ involution ∙ sym (read_words_counted job reads.0 reads.1))

    pub about_back : TurnedAbout τ (job_in job) (job_in (reversed_job way job))
    about_back = subst (λ (w : List ℤ). TurnedAbout τ (job_in job) (job_of w)) (sym words_back) about

    -- the map of the turned job is that of the job
    same_map : (other : Way) → cell_from other (job_in (reversed_job way job)) ≡ cell_from other (job_in job)
    same_map other =
        ap₂ (λ (r c : ℕ). grid_map c (row_from other r) (column_from other c)) about_back.rows about_back.columns

    pub job_again : (other : Way) → reversed_job other (reversed_job way job) ≡ (write_job (turned_words (cell_from other (job_in job)) turned)).bytes
    job_again other = ap₂ (λ (m : ℕ → ℕ) (w : List ℤ). (write_job (turned_words m w)).bytes) (same_map other) words_back

    pub job_twice : (write_job words).bytes ≡ job → reversed_job way (reversed_job way job) ≡ job
    job_twice e = job_again way ∙ ap (λ (w : List ℤ). (write_job w).bytes) (words_twice words laid allowed τ involution) ∙ e

    -- ---- and a proposal pack

    module _ (proposal : List ℕ) (q : Reads (proposal_in job proposal).outcome) where
      abbrev numbers : List ℤ
      numbers = (proposal_in job proposal).words

      abbrev others : List ℤ
      others = turned_values τ (cells_of words) numbers

      proposed : Proposed (cells_of words) (links_of words) numbers
      proposed = read_proposals_proposed (cells_of words) (links_of words) proposal q.0 q.1

      proposal_back : proposal_in (reversed_job way job) (reversed_proposal way job proposal) ≡ record { words = others; outcome = Ok (length others) }
      proposal_back =
          ap₂ (λ (c l : ℕ). read_proposal c l (reversed_proposal way job proposal)) about_back.cells about_back.links
          ∙ proposed_read_back (cells_of words) (links_of words) others (turned_proposed τ (cells_of words) numbers proposed involution)

      numbers_back : (proposal_in (reversed_job way job) (reversed_proposal way job proposal)).words ≡ others
      numbers_back = ap (λ (x : Ran). x.words) proposal_back

      pub both_read : BothRead (reversed_job way job) (reversed_proposal way job proposal)
      both_read = record { job_reads = (reads.0, job_reads); proposal_reads = (length others, ap (λ (x : Ran). x.outcome) proposal_back) }

      pub table_turned : TableTurned τ job proposal (reversed_job way job) (reversed_proposal way job proposal)
      table_turned = record {
        value = λ i h. ap (λ (w : List ℤ). values_of w i) numbers_back ∙ turned_value_lem τ (cells_of words) numbers i h;
        multiplier = λ l h.
            ap₂ (λ (c : ℕ) (w : List ℤ). multipliers_of c w l) about_back.cells numbers_back ∙ turned_multiplier τ (cells_of words) numbers l;
      }

      abbrev write : (c l : ℕ) (m : ℕ → ℕ) → List ℤ → List ℕ
      write c l m w = (write_proposal c l (turned_values m c w)).bytes

      pub proposal_again : (other : Way) → reversed_proposal other (reversed_job way job) (reversed_proposal way job proposal)
          ≡ write (cells_of words) (links_of words) (cell_from other (job_in job)) others
      proposal_again other = λ i. write (about_back.cells i) (about_back.links i) (same_map other i) (numbers_back i)

      pub proposal_twice : (write_proposal (cells_of words) (links_of words) numbers).bytes ≡ proposal
          → reversed_proposal way (reversed_job way job) (reversed_proposal way job proposal) ≡ proposal
      proposal_twice e =
          proposal_again way
          ∙ ap (λ (w : List ℤ). (write_proposal (cells_of words) (links_of words) w).bytes)
          (values_twice τ (cells_of words) numbers (omega (arith, proposed.count)) involution) ∙ e
