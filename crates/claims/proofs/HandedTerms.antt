-- The terms handed out: how the call ends, case by case, what each case writes, and what the words of a success come to.
use Prim.Native.Nat.{ℕ, ◌+◌, ◌*◌, ◌≤◌, ◌<◌}
use mathlib.Core.Path.{◌≡◌, refl, sym, ap, ap₂, subst₂, ◌∙◌}
use mathlib.Core.Logic.{inl, inr}
use mathlib.Core.Bool.{Bool, true, false, true≢false}
use mathlib.Core.List.{List, [], ◌∷◌}
use native.Mathlib.Nat as N
use native.Mathlib.Omega.{arith}
use borrow.Author.Tests.{ltb-false, eq-eqb}
use lib.Dec.{eqb, ltb}
use lib.IntN.{ℤ, pos, ◌+ℤ◌}
use lib.ListN.{length, drop, get_or-append}
use lib.Seq.{sets, sets-eq}
use lib.Signed.{◌≤ℤ◌, ◌<ℤ◌}
use Rattle.whole.specs.Sum.{sum}
use Rattle.whole.proofs.Sums.{sum_cong, sum_ext}
use Rattle.whole.proofs.Parts.{sum_split}
use Rattle.std.specs.Prelude.{if◌then◌else◌}
use Rattle.packs.specs.Reading.{Ran}
use Rattle.jobs.specs.Job.{Job}
use Rattle.jobs.specs.Words.{word_at}
use Rattle.jobs.specs.Packs.{job_in, handed_out}
use Rattle.tally.specs.Largest.{Largest}
use Rattle.measure.specs.Gap.{gap_of}
use Rattle.measure.specs.Largest.{term_at}
use Rattle.measure.specs.Check.{Verdict, accepting, check_of}
use Rattle.measure.proofs.Largest.{front_is, back_is}
use Rattle.terms.specs.Listing.{entry_at, entries, end_of, terms_of}
use Rattle.terms.proofs.Listings.{entries_count, entries_word, side_cell, residual_cell, side_link, residual_link}
use Rattle.bench.specs.Calls.{outcome_of}
use Rattle.claims.specs.Read.{values_in, multipliers_in, term_in}
use Rattle.claims.specs.BenchPromises.{Among, TermsTold}
use Rattle.claims.proofs.Unwritten.{Kept, handed}
use Rattle.claims.proofs.Beyond.{Within}
use Rattle.claims.proofs.Sides.{side_told}
use Rattle.claims.proofs.Accepted.{above_exactly, no_other_refusal}
use Rattle.std.specs.Prelude.{Ok, Err}
use Rattle.refusals.specs.declared.Refusal.{Refusal}
use Rattle.refusals.specs.declared.Refusal.TheVariants.{NoRoom}
use Rattle.refusals.specs.Refusals.{number_of}

-- ---- a refusal with its number, or all words and room for them

module _ (P : Ran → Type 0) (refuse : (r : Refusal) → 1 ≤ number_of r → Among (13 ∷ []) 8 (number_of r) → P (record { words = []; outcome = Err r }))
    (room count : ℕ) (ws : List ℤ) (done : count ≤ room → P (record { words = ws; outcome = Ok count })) where
  room_cases : P (handed_out room ws (Ok count))
  room_cases = go (ltb room count) refl
    where
      go : (t : Bool) → ltb room count ≡ t → P (handed count ws t)
      go true e = refuse (NoRoom count) (omega arith) (inl refl)
      go false e = done (ltb-false room count e)

  end_cases : (v : Verdict) → ((r : Refusal) → v ≡ Err r → (1 ≤ number_of r) × (number_of r ≤ 9)) → P (handed_out room ws (end_of count v))
  end_cases (Ok f) few = room_cases
  end_cases (Err r) few = go (eqb (number_of r) 9) refl
    where
      go : (b : Bool) → eqb (number_of r) 9 ≡ b → P (handed_out room ws (if b then Ok count else Err r))
      go true e = room_cases
      go false e = refuse r (few r refl).0 (inr (omega (arith, (few r refl).1, other)))
        where
          other : number_of r ≡ 9 → ⊥
          other q = true≢false (sym (eq-eqb (number_of r) 9 q) ∙ e)

module _ (room : ℕ) (job proposal : List ℕ) where
  abbrev count : ℕ
  count = 3 * ((job_in job).cells + (job_in job).links)

  abbrev words : List ℤ
  words = entries (job_in job) (values_in job proposal) (multipliers_in job proposal) ((job_in job).cells + (job_in job).links)

  terms_cases : (P : Ran → Type 0) → ((r : Refusal) → 1 ≤ number_of r → Among (13 ∷ []) 8 (number_of r) → P (record { words = []; outcome = Err r }))
      → (count ≤ room → P (record { words = words; outcome = Ok count })) → P (terms_of room job proposal)
  terms_cases P refuse done = end_cases P refuse room count words done (check_of job proposal) (no_other_refusal job proposal)

  pub terms_number : Among (13 ∷ []) 8 (outcome_of (terms_of room job proposal).outcome).number
  terms_number = terms_cases (λ (m : Ran). Among (13 ∷ []) 8 (outcome_of m.outcome).number) (λ r s a. a) (λ h. inr (omega arith))

  pub terms_kept : (before : List ℤ) → Kept (outcome_of (terms_of room job proposal).outcome) before (sets before 0 (terms_of room job proposal).words)
  terms_kept before =
      terms_cases (λ (m : Ran). Kept (outcome_of m.outcome) before (sets before 0 m.words)) (λ r s a n. (refl, refl, refl)) (λ h n. absurd (n refl))

  pub terms_within : Within (terms_of room job proposal).outcome (terms_of room job proposal).words
  terms_within =
      terms_cases (λ (m : Ran). Within m.outcome m.words) (λ r s a. omega arith)
      (λ h. N.le_of_eq (entries_count (job_in job) (values_in job proposal) (multipliers_in job proposal) ((job_in job).cells + (job_in job).links)))

  terms_whole : (outcome_of (terms_of room job proposal).outcome).number ≡ 0 → ((terms_of room job proposal).words ≡ words) × (count ≤ room)
  terms_whole =
      terms_cases (λ (m : Ran). (outcome_of m.outcome).number ≡ 0 → (m.words ≡ words) × (count ≤ room)) (λ r s a z. absurd (omega (arith, s, z))) (λ h z. (refl, h))

-- ---- the sum of the terms, and the largest

stored_at : (ws out : List ℤ) (i : ℕ) → i < length ws → length ws ≤ length out → word_at (sets out 0 ws) i ≡ word_at ws i
stored_at ws out i h k =
    ap (λ (l : List ℤ). word_at l i) (sets-eq ws out 0 (omega (arith, k))) ∙ get_or-append ws (drop (0 + length ws) out) (pos 0) i h

sum_gap : (j : Job) (v y : ℕ → ℤ) → sum (j.cells + j.links) (term_at j v y) ≡ gap_of j v y
unfolding gap_of
sum_gap j v y =
    sum_split j.cells j.links (term_at j v y)
    ∙ ap₂ ◌+ℤ◌ (sum_cong j.cells (front_is j v y)) (sum_ext j.links (back_is j v y))

largest_by : (f g : ℕ → ℤ) (n place : ℕ) → ((i : ℕ) → i < n → f i ≡ g i) → Largest g n place → Largest f n place
largest_by f g n place e L = record {
  among = L.among;
  highest = λ i h. subst₂ (λ (a b : ℤ). a ≤ℤ b) (sym (e i h)) (sym (e place L.among)) (L.highest i h);
  lowest = λ i h. subst₂ (λ (a b : ℤ). a <ℤ b) (sym (e i (N.lt_trans h L.among))) (sym (e place L.among)) (L.lowest i h);
}

-- ---- the words of a success

module _ (job proposal : List ℕ) (out left : List ℤ) (z : (outcome_of (terms_of (length out) job proposal).outcome).number ≡ 0)
    (e : left ≡ sets out 0 (terms_of (length out) job proposal).words) where
  abbrev j : Job
  j = job_in job

  abbrev v : ℕ → ℤ
  v = values_in job proposal

  abbrev y : ℕ → ℤ
  y = multipliers_in job proposal

  -- of each place
  word : (p d : ℕ) → p < j.cells + j.links → d < 3 → word_at left (3 * p + d) ≡ word_at (entry_at j v y p) d
  word p d h l =
      let w = terms_whole (length out) job proposal z in
      let long = entries_count j v y (j.cells + j.links) in
      ap (λ (x : List ℤ). word_at x (3 * p + d)) (e ∙ ap (sets out 0) w.0)
      ∙ stored_at (entries j v y (j.cells + j.links)) out (3 * p + d) (omega (arith, long)) (omega (arith, long, w.1))
      ∙ entries_word j v y (j.cells + j.links) p d h l

  term : (p : ℕ) → p < j.cells + j.links → word_at left (3 * p) ≡ term_in job proposal p
  term p h = ap (word_at left) (sym (N.add-zero (3 * p))) ∙ word p 0 h (omega arith)

  pub terms_told : TermsTold job proposal left
  terms_told = record {
    cell = λ i h.
        let h' : i < j.cells + j.links = omega (arith, h) in
        let t = term i h' ∙ front_is j v y i h in
        record {
          term_is = t;
          residual_is = word i 1 h' (omega arith) ∙ residual_cell j v y i h;
          side_is = side_told j v y i t (word i 2 h' (omega arith) ∙ side_cell j v y i h);
        };
    link = λ l h.
        let h' : j.cells + l < j.cells + j.links = omega (arith, h) in (
          term (j.cells + l) h' ∙ back_is j v y l,
          word (j.cells + l) 1 h' (omega arith) ∙ residual_link j v y l,
          word (j.cells + l) 2 h' (omega arith) ∙ side_link j v y l,
        );
    sums = sum_cong (j.cells + j.links) term ∙ sum_gap j v y;
    largest = λ place q. largest_by (λ p. word_at left (3 * p)) (term_in job proposal) (j.cells + j.links) place term ((above_exactly job proposal place).0 q).largest_term;
  }
