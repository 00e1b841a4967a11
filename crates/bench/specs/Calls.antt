-- The thirteen calls over C: each call's answer, what it leaves in the slice that it writes to, and its claim, which its contract cites.
use Rattle.std.specs.Prelude.{ℕ, List, [], length, ℤ}
use Rattle.std.proofs.lemmas.List.Edits.{sets}
use Rattle.packs.specs.Writing.{Written, roomed}
use Rattle.jobs.specs.Packs.{read_job_into, write_job}
use Rattle.measure.specs.Check.{check_of}
use Rattle.terms.specs.Listing.{terms_of}
use Rattle.house.specs.Proposal.{propose_of}
use Rattle.linked.specs.Proposal.{Offered, linked_of}
use Rattle.imports.specs.declared.Given.{Given}
use Rattle.imports.specs.Imports.{import_of}
use Rattle.exports.specs.Exports.{export_of, rates_of}
use Rattle.checked.specs.declared.Answer.{Answer}
use Rattle.checked.specs.Answers.{refusal, refused, overwritten, answer_of}
use Rattle.shelf.specs.Calls.{Call, own, fetch, after, said}
use Rattle.bench.specs.Answers.{Says}
use Rattle.std.specs.Prelude.{Ok, Err}
use Rattle.packs.specs.Reading.{Outcome}

-- ---- a proposal checked, and one made

-- The check writes to nothing but its answer.
abbrev pub CheckSays : (job proposal answer : List ℕ) → (returned : ℕ) (answered : List ℕ) → Type 0
CheckSays job proposal answer returned answered = Says {A = ℕ} (answer_of (check_of job proposal)) answer [] [] returned answered []

-- "0: done: bytes of pack or text, or values, written to an output"
abbrev pub outcome_of : Outcome → Answer
outcome_of (Ok n) = (refusal 0 n).answer
outcome_of (Err r) = (refused r).answer

-- Bytes written, in front of the bytes that were lent.
abbrev pub WriterSays : Written → (out answer : List ℕ) → (returned : ℕ) (answered left : List ℕ) → Type 0
WriterSays written out answer = Says (outcome_of written.outcome) answer out (sets out 0 written.bytes)

abbrev pub ProposeSays : (job out answer : List ℕ) → (returned : ℕ) (answered left : List ℕ) → Type 0
ProposeSays job out answer = WriterSays (propose_of (length out) job) out answer

-- W-207: "the count stands in F"
abbrev pub offer_of : Offered → Answer
offer_of (Ok o) = record { number = 0; place = o.bytes; loss = o.passes; gap = 0 }
offer_of (Err r) = (refused r).answer

abbrev pub ProposeLinkedSays : (job : List ℕ) (passes : ℕ) (out answer : List ℕ) → (returned : ℕ) (answered left : List ℕ) → Type 0
ProposeLinkedSays job passes out answer =
    Says (offer_of (linked_of (length out) passes job).offer) answer out (sets out 0 (linked_of (length out) passes job).bytes)

-- Words handed out, in front of the words that were lent: three a place, "done: place the words written; F and G 0".
abbrev pub TermsSays : (job proposal : List ℕ) (out : List ℤ) (answer : List ℕ) → (returned : ℕ) (answered : List ℕ) (left : List ℤ) → Type 0
TermsSays job proposal out answer =
    Says (outcome_of (terms_of (length out) job proposal).outcome) answer out (sets out 0 (terms_of (length out) job proposal).words)

-- ---- a job's words read, and written

abbrev pub ReadSays : (job : List ℕ) (words : List ℤ) (answer : List ℕ) → (returned : ℕ) (answered : List ℕ) (left : List ℤ) → Type 0
ReadSays job words answer =
    Says (outcome_of (read_job_into (length words) job).outcome) answer words (sets words 0 (read_job_into (length words) job).words)

abbrev pub WriteSays : (words : List ℤ) (out answer : List ℕ) → (returned : ℕ) (answered left : List ℕ) → Type 0
WriteSays words out answer = WriterSays (roomed (length out) (write_job words)) out answer

-- ---- comma lists

-- What the caller of an import gives beside the list.
abbrev pub given_of : (divisor society job order constant tolerance floor ceiling : ℕ) → Given
given_of divisor society job order constant tolerance floor ceiling =
    record {
      divisor = divisor;
      society = society;
      job = job;
      order = order;
      constant = constant;
      tolerance = tolerance;
      floor = floor;
      ceiling = ceiling;
    }

abbrev pub ImportSays : Given → (text out answer : List ℕ) → (returned : ℕ) (answered left : List ℕ) → Type 0
ImportSays g text out answer = WriterSays (import_of g (length out) text) out answer

abbrev pub ExportSays : (rates : List ℕ) (first : ℕ) (out answer : List ℕ) → (returned : ℕ) (answered left : List ℕ) → Type 0
ExportSays rates first out answer = WriterSays (export_of (length out) first rates) out answer

abbrev pub RatesSays : (text out answer : List ℕ) → (returned : ℕ) (answered left : List ℕ) → Type 0
RatesSays text out answer = Says (outcome_of (rates_of (length out) text).outcome) answer out (sets out 0 (rates_of (length out) text).values)

-- ---- the shelf

-- Keep, forget and clear change the shelf and write to no output.
abbrev pub ShelfSays : (call : Call) → (shelf answer : List ℕ) → (returned : ℕ) (answered left : List ℕ) → Type 0
ShelfSays call shelf answer = Says (said shelf call).answer answer shelf (after shelf call)

-- Fetch hands out its values in front of the words that were lent.
abbrev pub FetchSays : (shelf job out answer : List ℕ) → (returned : ℕ) (answered left : List ℕ) → Type 0
FetchSays shelf job out answer =
    Says (said shelf (own (fetch job (length out)))).answer answer out (overwritten out (said shelf (own (fetch job (length out)))).values)
