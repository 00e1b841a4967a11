-- The promises of the thirteen calls over C, each a law whose type is its statement in specs/BenchPromises.antt: one general law about `Says`, and an
-- instance a call.
use Prim.Native.Nat.{ℕ, ◌/◌, ◌%◌}
use mathlib.Core.Path.{◌≡◌, refl, sym, ap, subst, ◌∙◌}
use mathlib.Core.Logic.{inl, inr}
use mathlib.Core.Bool.{Bool, true, false}
use mathlib.Core.List.{List, [], ◌∷◌}
use native.Mathlib.Omega.{arith}
use lib.ListN.{length, drop}
use Rattle.packs.specs.Writing.{roomed}
use Rattle.jobs.specs.Packs.{read_job_into, write_job}
use Rattle.measure.specs.Check.{check_of}
use Rattle.terms.specs.Listing.{terms_of}
use Rattle.house.specs.Proposal.{propose_of}
use Rattle.linked.specs.Proposal.{linked_of}
use Rattle.imports.specs.Imports.{import_of}
use Rattle.exports.specs.Exports.{export_of, rates_of}
use Rattle.checked.specs.declared.Answer.{Answer}
use Rattle.checked.specs.Answers.{answer_of}
use Rattle.checked.specs.Checked.{checked_of}
use Rattle.counts.proofs.Tests.{ready_passed}
use Rattle.shelf.specs.Shelf.{keep_reply}
use Rattle.shelf.specs.Calls.{own, keep, fetch, forget, clear, said}
use Rattle.bench.specs.Answers.{code_of, answer_words, has_four, returned_for, written_for, Says}
use Rattle.bench.proofs.Small.{Small, check_small}
use Rattle.bench.proofs.Linked.{linked_small}
use Rattle.bench.proofs.Outcomes.{propose_small, read_small, terms_small, write_small}
use Rattle.bench.proofs.Listed.{import_small, export_small, rates_small}
use Rattle.bench.proofs.Shelves.{said_small}
use Rattle.claims.specs.Seen.{clears, without_others, own_seen}
use Rattle.claims.specs.BenchPromises.{Among, Untouched, Determined, Numbered, RefusalsKept, RestsKept, AcceptedTold, KeptAsChecked, TermsHanded, EightListsSeen, NoNeighbourSeen, OwnCallsSeen}
use Rattle.claims.proofs.Told.{told_of, kept_told}
use Rattle.claims.proofs.FetchTold.{fetch_told}
use Rattle.claims.proofs.Unwritten.{Kept, verdict_kept, write_kept, read_kept, propose_kept, shelf_kept, fetch_kept}
use Rattle.claims.proofs.CallNumbers.{check_number, propose_number, read_number, write_number, keep_number, fetch_number, forget_number, clear_number}
use Rattle.claims.proofs.Seen.{run_seen, lists_seen_lem, alone_seen, decided_seen}
use Rattle.claims.proofs.ListCalls.{import_number, export_number, rates_number, import_kept, export_kept, rates_kept, import_within, export_within, rates_within}
use Rattle.claims.proofs.LinkedCalls.{linked_number, linked_kept, linked_within}
use Rattle.claims.proofs.HandedTerms.{terms_number, terms_kept, terms_within, terms_told}
use Rattle.claims.proofs.Beyond.{beyond_made, beyond_values, write_within, read_within, propose_within, fetch_within}

-- ---- determined

pub one : {A : Type 0} {a : Answer} {answer : List ℕ} {before after : List A} {r s : ℕ} {p q : List ℕ} {x y : List A}
    → Says a answer before after r p x → Says a answer before after s q y → (r ≡ s) × (p ≡ q) × (x ≡ y)
one f g = (f.returns ∙ sym g.returns, f.answers ∙ sym g.answers, f.leaves ∙ sym g.leaves)

pub determined : Determined
determined = record {
  check = λ job proposal answer r s a b x y f g. let e = one f.0 g.0 in (e.0, e.1, f.1 ∙ sym g.1);
  terms = λ job proposal out answer r s a b x y f g. one f g;
  propose = λ job out answer r s a b x y f g. one f g;
  propose_linked = λ job passes out answer r s a b x y f g. one f g;
  read = λ job words answer r s a b x y f g. one f g;
  write = λ words out answer r s a b x y f g. one f g;
  from_list = λ g text out answer r s a b x y f h. one f h;
  to_list = λ rates first out answer r s a b x y f g. one f g;
  rates = λ text out answer r s a b x y f g. one f g;
  on_shelf = λ call shelf answer r s a b x y f g. one f g;
  fetch = λ shelf job out answer r s a b x y f g. one f g;
}

-- ---- numbers and places

-- a returned number is put together from an answer's number and place, and taken apart again
number_of : (a : Answer) → Small a → code_of a % 32 ≡ a.number
number_of a s = omega (arith, s.number)

place_of : (a : Answer) → Small a → code_of a / 32 ≡ a.place
place_of a s = omega (arith, s.number)

module _ {A : Type 0} {a : Answer} (s : Small a) {answer : List ℕ} {before after : List A} {r : ℕ} {p : List ℕ} {x : List A}
    (says : Says a answer before after r p x) where
  numbered_by : (others : List ℕ) (most : ℕ) → Among others most 13 → Among others most a.number → Among others most (r % 32)
  numbered_by others most t h = go (has_four answer) refl
    where
      go : (b : Bool) → has_four answer ≡ b → Among others most (r % 32)
      go true e =
          let same : r ≡ code_of a = says.returns ∙ rw e in
          subst (Among others most) (sym (ap (λ (c : ℕ). c % 32) same ∙ number_of a s)) h
      go false e =
          let same : r ≡ 141 = says.returns ∙ rw e in
          subst (Among others most) (sym (ap (λ (c : ℕ). c % 32) same)) t

  kept_by_lem : Kept a before after → (r % 32 ≡ 0 → ⊥) → Untouched answer before r p x
  kept_by_lem kept n = go (has_four answer) refl
    where
      go : (t : Bool) → has_four answer ≡ t → Untouched answer before r p x
      go true e =
          let same : r ≡ code_of a = says.returns ∙ rw e in
          let is = ap (λ (c : ℕ). c % 32) same ∙ number_of a s in
          let at = ap (λ (c : ℕ). c / 32) same ∙ place_of a s in
          let k = kept (λ z. n (is ∙ z)) in
          record {
            lent = says.leaves ∙ rw e k.0;
            told = says.answers ∙ rw (e, is, at, k.1, k.2);
          }
      go false e = record { lent = says.leaves ∙ rw e; told = says.answers ∙ rw e }

  pub told_by : r % 32 ≡ 0 → (a.number ≡ 0) × (p ≡ answer_words a) × (x ≡ after)
  told_by z = go (has_four answer) refl
    where
      go : (t : Bool) → has_four answer ≡ t → (a.number ≡ 0) × (p ≡ answer_words a) × (x ≡ after)
      go true e =
          let same : r ≡ code_of a = says.returns ∙ rw e in
          (sym (number_of a s) ∙ ap (λ (c : ℕ). c % 32) (sym same) ∙ z, says.answers ∙ rw e, says.leaves ∙ rw e)
      go false e =
          let same : r ≡ 141 = says.returns ∙ rw e in
          absurd (omega (arith, same))

  pub place_by : r % 32 ≡ 0 → r / 32 ≡ a.place
  place_by z = go (has_four answer) refl
    where
      go : (t : Bool) → has_four answer ≡ t → r / 32 ≡ a.place
      go true e =
          let same : r ≡ code_of a = says.returns ∙ rw e in
          ap (λ (c : ℕ). c / 32) same ∙ place_of a s
      go false e =
          let same : r ≡ 141 = says.returns ∙ rw e in
          absurd (omega (arith, same))

  rest_by : ((m : ℕ) → a.place ≡ m → drop m after ≡ drop m before) → r % 32 ≡ 0 → drop (r / 32) x ≡ drop (r / 32) before
  rest_by beyond z = ap (drop (r / 32)) (told_by z).2 ∙ beyond (r / 32) (sym (place_by z))

pub numbered : Numbered
numbered = record {
  check = λ job proposal answer r a says. numbered_by (check_small job proposal) says (13 ∷ []) 9 (inl refl) (check_number job proposal);
  terms = λ job proposal out answer r a x says.
      numbered_by (terms_small (length out) job proposal) says (13 ∷ []) 8 (inl refl) (terms_number (length out) job proposal);
  propose = λ job out answer r a x says.
      numbered_by (propose_small (length out) job) says (10 ∷ 13 ∷ 20 ∷ []) 5 (inr (inl refl)) (propose_number (length out) job);
  propose_linked = λ job passes out answer r a x says.
      numbered_by (linked_small (length out) passes job) says (10 ∷ 13 ∷ 14 ∷ 20 ∷ 21 ∷ []) 5 (inr (inl refl)) (linked_number (length out) passes job);
  read = λ job words answer r a x says. numbered_by (read_small (length words) job) says (13 ∷ []) 5 (inl refl) (read_number (length words) job);
  write = λ words out answer r a x says. numbered_by (write_small (length out) words) says (13 ∷ []) 5 (inl refl) (write_number (length out) words);
  from_list = λ g text out answer r a x says.
      numbered_by (import_small g (length out) text) says (2 ∷ 3 ∷ 4 ∷ 13 ∷ 16 ∷ 17 ∷ 18 ∷ 19 ∷ []) 0 (inr (inr (inr (inl refl)))) (import_number g (length out) text);
  to_list = λ rates first out answer r a x says.
      numbered_by (export_small (length out) first rates) says (2 ∷ 13 ∷ []) 0 (inr (inl refl)) (export_number (length out) first rates);
  rates = λ text out answer r a x says.
      numbered_by (rates_small (length out) text) says (2 ∷ 13 ∷ 16 ∷ 17 ∷ []) 0 (inr (inl refl)) (rates_number (length out) text);
  keep = λ job proposal shelf answer r a x says.
      numbered_by (said_small shelf (own (keep job proposal))) says (13 ∷ 22 ∷ []) 9 (inl refl) (keep_number job proposal shelf);
  fetch = λ shelf job out answer r a x says.
      numbered_by (said_small shelf (own (fetch job (length out)))) says (12 ∷ 13 ∷ 22 ∷ []) 9 (inr (inl refl)) (fetch_number shelf job (length out));
  forget = λ society job shelf answer r a x says.
      numbered_by (said_small shelf (own (forget society job))) says (11 ∷ 12 ∷ 13 ∷ 22 ∷ []) 0 (inr (inr (inl refl))) (forget_number shelf society job);
  clear = λ counts shelf answer r a x says. numbered_by (said_small shelf (clear counts)) says (13 ∷ 22 ∷ []) 0 (inl refl) (clear_number counts shelf);
}

pub refusals_kept : RefusalsKept
refusals_kept = record {
  check = λ job proposal answer r a x says n.
      let u = kept_by_lem (check_small job proposal) says.0 (verdict_kept (check_of job proposal) []) n in
      record { lent = says.1; told = u.told };
  terms = λ job proposal out answer r a x says n. kept_by_lem (terms_small (length out) job proposal) says (terms_kept (length out) job proposal out) n;
  propose = λ job out answer r a x says n. kept_by_lem (propose_small (length out) job) says (propose_kept (length out) job out) n;
  propose_linked = λ job passes out answer r a x says n. kept_by_lem (linked_small (length out) passes job) says (linked_kept (length out) passes job out) n;
  read = λ job words answer r a x says n. kept_by_lem (read_small (length words) job) says (read_kept (length words) job words) n;
  write = λ words out answer r a x says n. kept_by_lem (write_small (length out) words) says (write_kept (length out) (write_job words) out) n;
  from_list = λ g text out answer r a x says n. kept_by_lem (import_small g (length out) text) says (import_kept g (length out) text out) n;
  to_list = λ rates first out answer r a x says n. kept_by_lem (export_small (length out) first rates) says (export_kept (length out) first rates out) n;
  rates = λ text out answer r a x says n. kept_by_lem (rates_small (length out) text) says (rates_kept (length out) text out) n;
  on_shelf = λ call shelf answer r a x says n. kept_by_lem (said_small shelf call) says (shelf_kept call shelf) n;
  fetch = λ shelf job out answer r a x says n.
      kept_by_lem (said_small shelf (own (fetch job (length out)))) says (fetch_kept (own (fetch job (length out))) shelf out) n;
}

pub rests_kept : RestsKept
rests_kept = record {
  terms = λ job proposal out answer r a x says z.
      let made = terms_of (length out) job proposal in
      rest_by (terms_small (length out) job proposal) says (λ m e. beyond_made made.words out m (omega (arith, e, terms_within (length out) job proposal))) z;
  propose = λ job out answer r a x says z.
      let made = propose_of (length out) job in
      rest_by (propose_small (length out) job) says (λ m e. beyond_made made.bytes out m (omega (arith, e, propose_within (length out) job))) z;
  propose_linked = λ job passes out answer r a x says z.
      let made = linked_of (length out) passes job in
      rest_by (linked_small (length out) passes job) says (λ m e. beyond_made made.bytes out m (omega (arith, e, linked_within (length out) passes job))) z;
  read = λ job words answer r a x says z.
      let made = read_job_into (length words) job in
      rest_by (read_small (length words) job) says (λ m e. beyond_made made.words words m (omega (arith, e, read_within (length words) job))) z;
  write = λ words out answer r a x says z.
      let made = roomed (length out) (write_job words) in
      rest_by (write_small (length out) words) says (λ m e. beyond_made made.bytes out m (omega (arith, e, write_within (length out) words))) z;
  from_list = λ g text out answer r a x says z.
      let made = import_of g (length out) text in
      rest_by (import_small g (length out) text) says (λ m e. beyond_made made.bytes out m (omega (arith, e, import_within g (length out) text))) z;
  to_list = λ rates first out answer r a x says z.
      let made = export_of (length out) first rates in
      rest_by (export_small (length out) first rates) says (λ m e. beyond_made made.bytes out m (omega (arith, e, export_within (length out) first rates))) z;
  rates = λ text out answer r a x says z.
      let made = rates_of (length out) text in
      rest_by (rates_small (length out) text) says (λ m e. beyond_made made.values out m (omega (arith, e, rates_within (length out) text))) z;
  fetch = λ shelf job out answer r a x says z.
      let call = own (fetch job (length out)) in
      rest_by (said_small shelf call) says
      (λ m e. beyond_values (said shelf call).values out m (omega (arith, e, fetch_within shelf job (length out)))) z;
}

pub accepted_told : AcceptedTold
accepted_told = record {
  check = λ job proposal answer r a says z.
      let t = told_by (check_small job proposal) says z in
      told_of job proposal a (check_of job proposal) refl t.0 t.1;
  keep = λ job proposal shelf answer r a x says z.
      let t = told_by (said_small shelf (own (keep job proposal))) says z in
      kept_told job proposal shelf a t.0 t.1;
  fetch = λ shelf job out answer r a x says z.
      let t = told_by (said_small shelf (own (fetch job (length out)))) says z in
      fetch_told shelf job out a x t.0 t.1 t.2;
}

pub kept_as_checked : KeptAsChecked
unfolding keep_reply checked_of
kept_as_checked job proposal shelf answer R r s a b x says kept =
    let e : (said shelf (own (keep job proposal))).answer ≡ answer_of (check_of job proposal) = rw (ready_passed shelf R) in
    (says.returns ∙ ap (returned_for answer) (sym e) ∙ sym kept.returns, says.answers ∙ ap (written_for answer) (sym e) ∙ sym kept.answers)

pub terms_handed : TermsHanded
terms_handed job proposal out answer r a x says z =
    let t = told_by (terms_small (length out) job proposal) says z in
    terms_told job proposal out x t.0 t.2

-- ---- sequences

pub eight_lists_seen : EightListsSeen
eight_lists_seen shelf counts answer len right four mades seens m = run_seen (clears counts answer ∷ mades) shelf seens m ∙ lists_seen_lem shelf counts answer len right four mades

pub no_neighbour_seen : NoNeighbourSeen
no_neighbour_seen society mades shelf seens fewer m k =
    let others = without_others society mades in
    ap (own_seen society mades) (run_seen mades shelf seens m) ∙ alone_seen society mades shelf ∙ sym (ap (own_seen society others) (run_seen others shelf fewer k))

pub own_calls_seen : OwnCallsSeen
own_calls_seen society m counts others xs ys cx cy ec mades more a b e seens others-seen p q =
    ap (own_seen society mades) (run_seen mades xs seens p) ∙ decided_seen society m counts others xs ys cx cy ec mades more a b e ∙ sym (ap (own_seen society more) (run_seen more ys others-seen q))
