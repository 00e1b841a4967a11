-- The promises of packs written in reverse (W-213): what their words are, what the check says of them, and what a C caller is told.
use Prim.Native.Nat.{ℕ, ◌%◌}
use mathlib.Core.Path.{◌≡◌, refl, sym, ap, subst, ◌∙◌}
use mathlib.Core.Bool.{Bool, true, false}
use mathlib.Core.List.{List, [], ◌∷◌}
use native.Mathlib.Omega.{arith}
use lib.Dec.{ltb}
use lib.IntN.{ℤ, nat_abs}
use lib.ListN.{length, drop}
use Rattle.numbers.specs.Plain.{number_in, bytes_in}
use Rattle.std.specs.Prelude.{if◌then◌else◌}
use Rattle.fields.specs.Table.{step_of, values_from}
use Rattle.whole.specs.Sum.{sum}
use Rattle.packs.specs.Reading.{Outcome, Ran, run_from, read_from}
use Rattle.packs.specs.Writing.{Written, write_from}
use Rattle.packs.proofs.Trips.{writing_back}
use Rattle.jobs.specs.Job.{Job}
use Rattle.jobs.specs.Words.{rows_of, columns_of, start_of, head_words, order_of, across_of, second_of, job_of}
use Rattle.jobs.specs.Allowed.{Allowed}
use Rattle.jobs.specs.Packs.{job_in, read_job, write_job, write_proposal, handed_out, read_job_into}
use Rattle.jobs.proofs.Readings.{six_done}
use Rattle.jobs.proofs.Trips.{jobs_written_back}
use Rattle.turned.specs.Words.{turned_words}
use Rattle.turned.proofs.Again.{words_again}
use Rattle.turned.proofs.Values.{values_again}
use Rattle.rows.specs.Rows.{row_of}
use Rattle.tally.specs.Largest.{largest_of}
use Rattle.measure.specs.Loss.{loss_of}
use Rattle.measure.specs.Gap.{link_sum, residual_of, gap_of}
use Rattle.measure.specs.Check.{Verdict, accepting, lowest_from, verdict_of, check_of}
use Rattle.checked.specs.declared.Answer.{Answer}
use Rattle.checked.specs.Answers.{answer_of}
use Rattle.bench.specs.Answers.{code_of, answer_words, has_four, no_answer, returned_for, written_for}
use Rattle.bench.specs.Calls.{outcome_of}
use Rattle.bench.proofs.Small.{Small, check_small}
use Rattle.claims.specs.Read.{proposal_in, values_in, multipliers_in, Reads}
use Rattle.claims.specs.Reversed.{Way, rows_alone, columns_alone, both_together, cell_from, reversed_job, reversed_proposal, unplaced}
use Rattle.claims.specs.ReversedPromises.{ReversedReads, ReversedIs, CellsFromLast, CheckedInReverse, CheckedAlike, PlacesDiffer, ToldInReverse, ReversedTwice, BothIsEach, ReversedExamples}
use Rattle.claims.proofs.Accepted.{on_both}
use Rattle.claims.proofs.TurnedCheck.{turned_verdict}
use Rattle.claims.proofs.Ways.{cells_turned, down_carried, across_carried, both_from_last, line_from_last, line_stays, rows_then_columns}
use Rattle.claims.proofs.Reversed.{words, laid, allowed, words_back, job_reads, about_back, allowed_too, job_twice, job_again, both_read, table_turned, proposal_again, proposal_twice}
use Rattle.std.specs.Prelude.{Ok, Err}
use Rattle.refusals.specs.declared.Refusal.TheVariants.{NoRoom}
use Rattle.std.specs.Prelude.{Result}
use Rattle.measure.specs.declared.check.Figures.{Figures}

-- ---- packs

pub reversed_reads : ReversedReads
reversed_reads = record {
  jobs = λ way job k e. job_reads job (k, e) way;
  allowed = λ way job r. subst (λ (w : List ℤ). Allowed (job_of w)) (sym (words_back job r way)) (allowed_too job r way);
  proposals = λ way job proposal B. both_read job B.job_reads way proposal B.proposal_reads;
}

pub reversed_is : ReversedIs
reversed_is = record {
  jobs = λ way job r. about_back job r way;
  tables = λ way job proposal B. table_turned job B.job_reads way proposal B.proposal_reads;
}

pub cells_from_last : CellsFromLast
cells_from_last = record { both = both_from_last; line = line_from_last; stays = line_stays }

pub checked_alike : CheckedAlike
checked_alike way job proposal job' proposal' B B' T W =
    let A : Allowed (job_in job) = allowed job B.job_reads in
    ap unplaced (on_both job' proposal' B')
    ∙ turned_verdict T A (allowed job' B'.job_reads) (cells_turned (job_in job) A way) (down_carried (job_in job) A way) (across_carried (job_in job) A way)
    (values_in job proposal) (values_in job' proposal') (multipliers_in job proposal) (multipliers_in job' proposal') W.value W.multiplier
    ∙ sym (ap unplaced (on_both job proposal B))

pub checked_in_reverse : CheckedInReverse
checked_in_reverse way job proposal B =
    checked_alike way job proposal (reversed_job way job) (reversed_proposal way job proposal) B (reversed_reads.proposals way job proposal B)
    (reversed_is.jobs way job B.job_reads) (reversed_is.tables way job proposal B)

pub reversed_twice : ReversedTwice
reversed_twice = record {
  jobs = λ way job small r. job_twice job r way (ap (λ (w : Written). w.bytes) (jobs_written_back job small r.0 r.1));
  proposals = λ way job proposal small B.
      let first = values_from (job_in job).cells (job_in job).links in
      let k = B.proposal_reads.0 in
      let e = six_done (read_from first proposal).outcome k B.proposal_reads.1 in
      proposal_twice job B.job_reads way proposal B.proposal_reads (ap (λ (w : Written). w.bytes) (writing_back first proposal small k e));
}

pub both_is_each : BothIsEach
both_is_each = record {
  jobs = λ job r.
      let j : Job = job_in job in
      let A : Allowed j = allowed job r in
      job_again job r rows_alone columns_alone
      ∙ ap (λ (w : List ℤ). (write_job w).bytes)
      (words_again (words job r) (laid job r) (cell_from rows_alone j) (cell_from columns_alone j) (cell_from both_together j) (cells_turned j A columns_alone).stays (rows_then_columns j A));
  proposals = λ job proposal B.
      let r = B.job_reads in
      let j : Job = job_in job in
      let A : Allowed j = allowed job r in
      proposal_again job r rows_alone proposal B.proposal_reads columns_alone
      ∙ ap (λ (w : List ℤ). (write_proposal j.cells j.links w).bytes)
      (values_again (cell_from rows_alone j) (cell_from columns_alone j) (cell_from both_together j) j.cells (proposal_in job proposal).words (cells_turned j A columns_alone).stays (rows_then_columns j A));
}

-- ---- over C

-- what a verdict tells but for its place
number_of_unplaced : Result Figures ℕ → ℕ
number_of_unplaced (Ok f) = 0
number_of_unplaced (Err number) = number

rest_in : Result Figures ℕ → List ℕ
rest_in (Ok f) = nat_abs f.loss ∷ nat_abs f.gap ∷ []
rest_in (Err number) = 0 ∷ 0 ∷ []

told_number : (v : Verdict) → number_of_unplaced (unplaced v) ≡ (answer_of v).number
unfolding number_of_unplaced
told_number (Ok f) = refl
told_number (Err r) = refl

told_rest : (v : Verdict) → rest_in (unplaced v) ≡ drop 2 (answer_words (answer_of v))
unfolding rest_in
told_rest (Ok f) = refl
told_rest (Err r) = refl

same_number : (a b : Answer) → Small a → Small b → a.number ≡ b.number → code_of a % 32 ≡ code_of b % 32
same_number a b s t e = omega (arith, s.number, t.number, e)

-- two answers that agree but for their place, told to callers with the same answer slice
told_alike : {a b : Answer} (answer : List ℕ) {r s : ℕ} {x y : List ℕ} → Small a → Small b → a.number ≡ b.number
    → drop 2 (answer_words a) ≡ drop 2 (answer_words b) → r ≡ returned_for answer a → x ≡ written_for answer a → s ≡ returned_for answer b → y ≡ written_for answer b
    → (s % 32 ≡ r % 32) × (drop 2 y ≡ drop 2 x)
told_alike {a} {b} answer f g n w p q u z = rw (p, q, u, z) (go (has_four answer))
  where
    go : (t : Bool) → ((if t then code_of b else code_of no_answer) % 32 ≡ (if t then code_of a else code_of no_answer) % 32)
        × (drop 2 (if t then answer_words b else answer) ≡ drop 2 (if t then answer_words a else answer))
    go true = (same_number b a g f (sym n), sym w)
    go false = (refl, refl)

pub told_in_reverse : ToldInReverse
told_in_reverse = record {
  checked = λ way job proposal B answer r s a b f g.
      let v : Verdict = check_of job proposal in
      let w : Verdict = check_of (reversed_job way job) (reversed_proposal way job proposal) in
      let e : unplaced v ≡ unplaced w = sym (checked_in_reverse way job proposal B) in
      told_alike answer (check_small job proposal) (check_small (reversed_job way job) (reversed_proposal way job proposal))
      (sym (told_number v) ∙ ap number_of_unplaced e ∙ told_number w)
      (sym (told_rest v) ∙ ap rest_in e ∙ told_rest w)
      f.returns f.answers g.returns g.answers;
  read = λ way job q words answer r s a b x y f g.
      let e : (read_job_into (length words) (reversed_job way job)).outcome ≡ (read_job_into (length words) job).outcome = same_outcome way job q (length words) in (
        g.returns ∙ ap (λ (o : Outcome). returned_for answer (outcome_of o)) e ∙ sym f.returns,
        g.answers ∙ ap (λ (o : Outcome). written_for answer (outcome_of o)) e ∙ sym f.answers,
      );
}
  where
    -- how handing words out ends does not depend on the words
    handed : (room k : ℕ) (ws vs : List ℤ) → (handed_out room ws (Ok k)).outcome ≡ (handed_out room vs (Ok k)).outcome
    handed room k ws vs = go (ltb room k)
      where
        ended : Bool → List ℤ → Ran
        ended t ws = if t then record { words = []; outcome = Err (NoRoom k) } else record { words = ws; outcome = Ok k }

        go : (t : Bool) → (ended t ws).outcome ≡ (ended t vs).outcome
        go true = refl
        go false = refl

    same_outcome : (way : Way) (job : List ℕ) → Reads (read_job job).outcome → (room : ℕ) → (read_job_into room (reversed_job way job)).outcome ≡ (read_job_into room job).outcome
    same_outcome way job q room =
        ap (λ (o : Outcome). (handed_out room (read_job (reversed_job way job)).words o).outcome) (reversed_reads.jobs way job q.0 q.1)
        ∙ handed room q.0 (read_job (reversed_job way job)).words (read_job job).words
        ∙ sym (ap (λ (o : Outcome). (handed_out room (read_job job).words o).outcome) q.1)

-- ---- examples

pub reversed_examples : ReversedExamples
unfolding sum number_in bytes_in step_of run_from write_from start_of head_words rows_of columns_of order_of across_of second_of turned_words
reversed_examples = record { job = refl; proposal = refl; rows = refl; columns = refl; both = refl }

pub places_differ : PlacesDiffer
unfolding sum number_in bytes_in step_of run_from write_from start_of head_words rows_of columns_of order_of across_of second_of turned_words row_of loss_of link_sum residual_of gap_of largest_of lowest_from verdict_of
places_differ = record { as_it_is = refl; in_reverse = refl }
