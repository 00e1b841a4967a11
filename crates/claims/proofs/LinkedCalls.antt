-- The call that proposes what honours links: which numbers it gives, that a refusal writes nothing, and that it writes no further on than its place.
use Prim.Native.Nat.{ℕ, ◌≤◌}
use mathlib.Core.Path.{◌≡◌, refl}
use mathlib.Core.Logic.{inl, inr}
use mathlib.Core.List.{List, [], ◌∷◌}
use native.Mathlib.Omega.{arith}
use lib.ListN.{length}
use lib.Seq.{sets}
use Rattle.jobs.specs.Packs.{write_proposal}
use Rattle.house.proofs.Packable.{proposed_writes}
use Rattle.linked.specs.Proposal.{Linked, linked_words, counting, written_after, linked_of}
use Rattle.linked.proofs.Words.{linked_proposed}
use Rattle.linked.proofs.Cases.{linked_cases, counting_refused}
use Rattle.linked.proofs.Refusals.{written_room}
use Rattle.bench.specs.Calls.{outcome_of, offer_of}
use Rattle.claims.specs.BenchPromises.{Among}
use Rattle.claims.proofs.Numbers.{refused_one_to_five}
use Rattle.claims.proofs.Unwritten.{Kept, write_kept}
use Rattle.claims.proofs.CallNumbers.{room_number}
use Rattle.claims.proofs.Beyond.{proposal_within}
use Rattle.std.specs.Prelude.{Ok, Err}
use Rattle.packs.specs.Reading.{Outcome}
use Rattle.refusals.specs.declared.Refusal.{Refusal}
use Rattle.refusals.specs.Refusals.{number_of}

module _ (room passes : ℕ) (job : List ℕ) where
  -- ---- numbers
  abbrev LinkedNumber : ℕ → Type 0
  LinkedNumber number = Among (10 ∷ 13 ∷ 14 ∷ 20 ∷ 21 ∷ []) 5 number

  same_number : (p : ℕ) (o : Outcome) → LinkedNumber (outcome_of o).number → LinkedNumber (offer_of (counting p o)).number
  same_number p (Ok n) h = h
  same_number p (Err r) h = h

  pub linked_number : LinkedNumber (offer_of (linked_of room passes job).offer).number
  linked_number =
      linked_cases (λ (r : Linked). LinkedNumber (offer_of r.offer).number) room passes job (inr (inr (inr (inr (inl refl)))))
      (λ r e. inr (inr (inr (inr (inr (refused_one_to_five job r e).1))))) (inr (inr (inr (inl refl)))) (λ cell h. inl refl)
      (λ h. inr (inr (inl refl)))
      (λ j s p A.
      let w = write_proposal j.cells j.links (linked_words j s) in
      let done = proposed_writes (linked_words j s) (linked_proposed j s A) in
      same_number p (written_after room j s).outcome
      (room_number (10 ∷ 13 ∷ 14 ∷ 20 ∷ 21 ∷ []) 5 room w.bytes w.outcome (inr (inl refl)) (rw done.1 (inr (inr (inr (inr (inr (omega arith)))))))))

  -- ---- refusals
  same_kept : (p : ℕ) (o : Outcome) {before after : List ℕ} → Kept (outcome_of o) before after → Kept (offer_of (counting p o)) before after
  same_kept p (Ok n) k r = absurd (r refl)
  same_kept p (Err b) k r = k r

  pub linked_kept : (before : List ℕ) → Kept (offer_of (linked_of room passes job).offer) before (sets before 0 (linked_of room passes job).bytes)
  linked_kept before =
      linked_cases (λ (r : Linked). Kept (offer_of r.offer) before (sets before 0 r.bytes)) room passes job (λ n. (refl, refl, refl))
      (λ r e n. (refl, refl, refl)) (λ n. (refl, refl, refl)) (λ cell h n. (refl, refl, refl)) (λ h n. (refl, refl, refl))
      (λ j s p A. same_kept p (written_after room j s).outcome (write_kept room (write_proposal j.cells j.links (linked_words j s)) before))

  -- ---- outputs
  same_place : (p : ℕ) (o : Outcome) (made : List ℕ) → length made ≤ (outcome_of o).place → length made ≤ (offer_of (counting p o)).place
  same_place p (Ok n) made h = h
  same_place p (Err r) made h = h

  pub linked_within : length (linked_of room passes job).bytes ≤ (offer_of (linked_of room passes job).offer).place
  linked_within =
      linked_cases (λ (r : Linked). length r.bytes ≤ (offer_of r.offer).place) room passes job (omega arith) (λ r e. omega arith) (omega arith)
      (λ cell h. omega arith) (λ h. omega arith)
      (λ j s p A. same_place p (written_after room j s).outcome (written_after room j s).bytes (proposal_within room j (linked_words j s)))

  -- ---- a refusal's number is none of success
  pub linked_refused : {r : Refusal} → (linked_of room passes job).offer ≡ Err r → 1 ≤ number_of r
  linked_refused {r} =
      linked_cases (λ (m : Linked). m.offer ≡ Err r → 1 ≤ number_of r) room passes job (λ e. let q : 21 ≡ number_of r = cc in omega arith)
      (λ b f e. let q : number_of b ≡ number_of r = cc in omega (arith, q, (refused_one_to_five job b f).0)) (λ e. let q : 20 ≡ number_of r = cc in omega arith)
      (λ cell h e. let q : 10 ≡ number_of r = cc in omega arith) (λ h e. let q : 14 ≡ number_of r = cc in omega arith)
      (λ j s p A e. omega (arith, written_room room (linked_words j s) (linked_proposed j s A) (counting_refused p (written_after room j s).outcome e)))
