-- From packs to words: what a pack's reading leaves in lent words is the pack's words at their head, a read job is allowed and laid, and a read
-- proposal is one for it.
use Prim.Native.Nat.{ℕ, ◌≤◌}
use mathlib.Core.Path.{◌≡◌, sym, ap, ap₂, subst, subst₂, ◌∙◌}
use mathlib.Core.List.{List}
use native.Mathlib.Nat.{zero-add}
use native.Mathlib.Omega.{arith}
use lib.IntN.{ℤ, pos}
use lib.ListN.{length, take, replicate, length-replicate}
use lib.Seq.{sets, length-sets}
use Rattle.numbers.proofs.Clash.{clash}
use Rattle.fields.specs.Table.{values_from}
use Rattle.packs.specs.Reading.{Outcome, Ran, read_from}
use Rattle.packs.proofs.Near.{Near}
use Rattle.jobs.specs.Words.{cells_of, links_of, job_of}
use Rattle.jobs.specs.Allowed.{Allowed, Laid}
use Rattle.jobs.specs.Packs.{as_six, read_job, read_proposal}
use Rattle.jobs.proofs.Near.{job_read_near}
use Rattle.jobs.proofs.Steps.{read_whole}
use Rattle.jobs.proofs.Handed.{held_room, held_part}
use Rattle.jobs.proofs.Readings.{six_done, read_jobs_allowed, read_jobs_laid, read_words_counted, read_words_few, read_proposals_proposed}
use Rattle.measure.specs.declared.opening.Counts.{Counts}
use Rattle.measure.specs.Check.{Verdict, on_read, check_of, verdict_for}
use Rattle.measure.specs.Opening.{Opened, if_read, proposal_words, opened_for, opened_with, opened_of}
use Rattle.measure.specs.Given.{Given}
use Rattle.std.specs.Prelude.{Ok, Err}
use Rattle.refusals.specs.declared.Refusal.{Refusal}
use Rattle.refusals.specs.Refusals.{number_of}

-- ---- a list stored over m zeros

pub lent_length : (m : ℕ) (ws l : List ℤ) → l ≡ sets (replicate m (pos 0)) 0 ws → m ≡ length l
lent_length m ws l e = sym (ap length e ∙ length-sets (replicate m (pos 0)) 0 ws ∙ length-replicate m (pos 0))

-- ---- a job, then its proposal

module _ (job proposal : List ℕ) where
  abbrev ws : List ℤ
  ws = (read_job job).words

  abbrev read : Ran
  read = read_proposal (cells_of ws) (links_of ws) proposal

  -- with the words that the code has
  module _ {o : Outcome} (l₀ : List ℤ) {l : List ℤ} (long : length l₀ ≡ 2092) (eo : o ≡ (read_job job).outcome) (q : l ≡ sets l₀ 0 ws) where
    pub job_refused : {r : Refusal} → o ≡ Err r → Err r ≡ opened_of job proposal
    job_refused u = ap (λ (x : Outcome). opened_with x read.outcome) (sym u ∙ eo)

    module _ {k : ℕ} (u : o ≡ Ok k) where
      few_words : k ≤ 2092
      few_words = omega (arith, read_words_counted job k (sym eo ∙ u), read_words_few job k (sym eo ∙ u))

      job_head : take k l ≡ ws
      job_head = held_part l₀ long ws (sym (read_words_counted job k (sym eo ∙ u))) few_words q

      pub job_asked : (k ≤ length l) × (Allowed (job_of (take k l)) × Laid (take k l))
      job_asked = (
        held_room l₀ long ws (sym (read_words_counted job k (sym eo ∙ u))) few_words q,
        subst (λ (x : List ℤ). Allowed (job_of x) × Laid x) (sym job_head) (read_jobs_allowed job k (sym eo ∙ u), read_jobs_laid job k (sym eo ∙ u)),
      )

      pub job_answer : {a : Opened} → a ≡ opened_for k (read_proposal (cells_of (take k l)) (links_of (take k l)) proposal).outcome → a ≡ opened_of job proposal
      job_answer t =
          t ∙ ap (λ (x : List ℤ). opened_for k (read_proposal (cells_of x) (links_of x) proposal).outcome) job_head
          ∙ ap (λ (x : Outcome). opened_with x read.outcome) (sym u ∙ eo)

      pub job_left : (p₀ : List ℤ) {p : List ℤ} → p ≡ sets p₀ 0 (read_proposal (cells_of (take k l)) (links_of (take k l)) proposal).words → p ≡ sets p₀ 0 (proposal_words job proposal)
      job_left p₀ t =
          t ∙ ap (λ (x : List ℤ). sets p₀ 0 (read_proposal (cells_of x) (links_of x) proposal).words) job_head
          ∙ ap (λ (x : Outcome). sets p₀ 0 (if_read x read.words)) (sym u ∙ eo)

-- ---- both packs

record BothDone (o p : Outcome) (k m : ℕ) : Type 0 where
  first : o ≡ Ok k
  second : p ≡ Ok m

both_done : (o p : Outcome) {c : Counts} → opened_with o p ≡ Ok c → BothDone o p c.words c.values
both_done (Ok k) (Ok m) e = record { first = cc; second = cc }
both_done (Ok k) (Err r) e = clash (cc)
both_done (Err r) p e = clash (cc)

unread_as : (o p : Outcome) (v : Verdict) {r : Refusal} → opened_with o p ≡ Err r → Err r ≡ on_read o (on_read p v)
unread_as (Ok k) (Ok m) v e = clash (cc)
unread_as (Ok k) (Err r) v e = cc
unread_as (Err r) p v e = cc

pub unread_refused : (job proposal : List ℕ) {r : Refusal} → opened_of job proposal ≡ Err r → Err r ≡ check_of job proposal
unread_refused job proposal e = unread_as (read_job job).outcome (read job proposal).outcome (verdict_for (job_of (ws job proposal)) (read job proposal).words) e

-- a pack that does not read is refused with 1 to 5, or with 6
unread_with : (o p : Outcome) {r : Refusal} → Near 20920 o → opened_with o (as_six p) ≡ Err r → (1 ≤ number_of r) × (number_of r ≤ 6)
unread_with (Ok k) (Ok m) n e = clash (cc)
unread_with (Ok k) (Err b) {r} n e = let q : 6 ≡ number_of r = cc in (omega (arith, q), omega (arith, q))
unread_with (Err b) p {r} n e = let q : number_of b ≡ number_of r = cc in (omega (arith, q, n.0), omega (arith, q, n.1))

pub unread_number : (job proposal : List ℕ) {r : Refusal} → opened_of job proposal ≡ Err r → (1 ≤ number_of r) × (number_of r ≤ 6)
unread_number job proposal e = unread_with (read_job job).outcome (read_from (values_from (cells_of (ws job proposal)) (links_of (ws job proposal))) proposal).outcome (job_read_near job) e

-- with what was left in the lent words
module _ (job proposal : List ℕ) {c : Counts} (e : opened_of job proposal ≡ Ok c) where
  abbrev k : ℕ
  k = c.words

  abbrev m : ℕ
  m = c.values

  both : BothDone (read_job job).outcome (read job proposal).outcome k m
  both = both_done (read_job job).outcome (read job proposal).outcome e

  pub both_checked : verdict_for (job_of (ws job proposal)) (read job proposal).words ≡ check_of job proposal
  both_checked =
      let v = verdict_for (job_of (ws job proposal)) (read job proposal).words in
      ap₂ (λ (o p : Outcome). on_read o (on_read p v)) (sym both.first) (sym both.second)

  both_given : Given (ws job proposal) (read job proposal).words
  both_given = record {
    allowed = read_jobs_allowed job k both.first;
    laid = read_jobs_laid job k both.first;
    proposed = read_proposals_proposed (cells_of (ws job proposal)) (links_of (ws job proposal)) proposal m both.second;
  }

  counted : m ≡ length (read job proposal).words
  counted =
      (read_whole (values_from (cells_of (ws job proposal)) (links_of (ws job proposal))) proposal m
      (six_done (read_from (values_from (cells_of (ws job proposal)) (links_of (ws job proposal))) proposal).outcome m both.second)).count
      ∙ zero-add (length (read job proposal).words)

  few_values : m ≤ 280
  few_values = omega (arith, counted, both_given.proposed.count, both_given.allowed.cells_few, both_given.allowed.links_few)

  module _ {l : List ℤ} (room : length l ≡ 2092) (l₀ : List ℤ) (q : l ≡ sets l₀ 0 (ws job proposal))
      {p : List ℤ} (place : length p ≡ 280) (p₀ : List ℤ) (r : p ≡ sets p₀ 0 (proposal_words job proposal)) where
    long : length l₀ ≡ 2092
    long = sym (length-sets l₀ 0 (ws job proposal)) ∙ ap length (sym q) ∙ room

    wide : length p₀ ≡ 280
    wide = sym (length-sets p₀ 0 (proposal_words job proposal)) ∙ ap length (sym r) ∙ place

    stored : p ≡ sets p₀ 0 (read job proposal).words
    stored = r ∙ ap (λ (o : Outcome). sets p₀ 0 (if_read o (read job proposal).words)) both.first

    counts : k ≤ 2092
    counts = omega (arith, read_words_counted job k both.first, read_words_few job k both.first)

    pub job_part : take k l ≡ ws job proposal
    job_part = held_part l₀ long (ws job proposal) (sym (read_words_counted job k both.first)) counts q

    pub job_room : k ≤ length l
    job_room = held_room l₀ long (ws job proposal) (sym (read_words_counted job k both.first)) counts q

    pub proposal_part : take m p ≡ (read job proposal).words
    proposal_part = held_part p₀ wide (read job proposal).words (sym counted) few_values stored

    pub proposal_room : m ≤ length p
    proposal_room = held_room p₀ wide (read job proposal).words (sym counted) few_values stored

    pub parts_given : Given (take k l) (take m p)
    parts_given = subst₂ (λ (x y : List ℤ). Given x y) (sym job_part) (sym proposal_part) both_given

    pub parts_checked : {a : Verdict} → a ≡ verdict_for (job_of (take k l)) (take m p) → a ≡ check_of job proposal
    parts_checked t = t ∙ ap₂ (λ (x y : List ℤ). verdict_for (job_of x) y) job_part proposal_part ∙ both_checked
