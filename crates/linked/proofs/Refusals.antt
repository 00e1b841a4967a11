-- Which refusals there are: 21 first, then what the house refuses too, with the same place; 14 and room are left.
use Prim.Native.Nat.{ℕ, suc, ◌≤◌}
use mathlib.Core.Path.{◌≡◌, refl, sym, ap, subst, ◌∙◌}
use mathlib.Core.Logic.{inl, inr}
use mathlib.Core.Bool.{Bool, true, false}
use mathlib.Core.List.{List}
use lib.Dec.{ltb}
use Rattle.std.specs.Prelude.{if◌then◌else◌}
use Rattle.numbers.proofs.Clash.{clash}
use Rattle.packs.specs.Writing.{Written, refused as unwritten, in_room}
use Rattle.jobs.specs.Allowed.{Proposed as ProposedFor}
use Rattle.jobs.specs.Packs.{job_in, read_job, write_proposal}
use Rattle.jobs.proofs.Readings.{read_jobs_allowed}
use lib.IntN.{ℤ}
use Rattle.house.specs.Proposal.{solved_of, words_of, written_of, proposed_of, on_job_read as onHouseRead, propose_of}
use Rattle.house.proofs.Fitting.{words_proposed}
use Rattle.house.proofs.Handing.{wide_refused, thin_refused, whole_written}
use Rattle.house.proofs.Packable.{proposed_writes}
use Rattle.passes.specs.Hildreth.{State, after_pass}
use Rattle.linked.specs.Proposal.{Offered, Linked, linked_words, passes_before, counted, written_after}
use Rattle.linked.specs.Promises.{TwentyOneFirst, RefusedAsByTheHouse}
use Rattle.linked.proofs.Words.{linked_proposed}
use Rattle.linked.proofs.Answering.{no_passes, many_passes, passes_few}
use Rattle.linked.proofs.Cases.{Ready, Case, outside, unread, wide, thin, none, first, case, counting_refused}
use Rattle.std.specs.Prelude.{Ok, Err}
use Rattle.packs.specs.Reading.{Outcome}
use Rattle.refusals.specs.declared.Refusal.{Refusal}
use Rattle.refusals.specs.declared.Refusal.TheVariants.{TooThin, NoRoom, NotProposed}
use Rattle.refusals.specs.Refusals.{number_of}

pub twenty_one_first : TwentyOneFirst
twenty_one_first room given job (inl h) = sym (no_passes room given job h)
twenty_one_first room given job (inr h) = sym (many_passes room given job h)

-- a proposal that is one for its job is refused for room alone
only_room : (room : ℕ) (bytes : List ℕ) (m : ℕ) {r : Refusal} → (in_room room bytes (Ok m)).outcome ≡ Err r → number_of r ≡ 13
only_room room bytes m {r} e = go (ltb room m) e
  where
    go : (t : Bool) → (if◌then◌else◌ {A = Written} t (unwritten (NoRoom m)) (record { bytes = bytes; outcome = Ok m })).outcome ≡ Err r → number_of r ≡ 13
    go true e = let q : 13 ≡ number_of r = cc in sym q
    go false e = clash (cc)

pub written_room : (room : ℕ) {cells links : ℕ} (ws : List ℤ) → ProposedFor cells links ws → {r : Refusal}
    → (in_room room (write_proposal cells links ws).bytes (write_proposal cells links ws).outcome).outcome ≡ Err r → number_of r ≡ 13
written_room room {cells} {links} ws p {r} e =
    let w = proposed_writes ws p in
    let bytes = (write_proposal cells links ws).bytes in
    only_room room bytes w.0 (subst (λ (o : Outcome). (in_room room bytes o).outcome ≡ Err r) w.1 e)

module _ (room given : ℕ) (job : List ℕ) (h : 1 ≤ given) (l : given ≤ 200) (told : Refusal) (not_room : number_of told ≡ 13 → ⊥) (not_none : number_of told ≡ 14 → ⊥) where
  abbrev House-refuses : Type 0
  House-refuses = (propose_of room job).outcome ≡ Err told

  abbrev Alike : Offered → Type 0
  Alike o = (o ≡ Err told → House-refuses) × (House-refuses → o ≡ Err told)

  -- both refuse alike
  alike : (a : Refusal) {w : Written} → propose_of room job ≡ w → w.outcome ≡ Err a → Alike (Err a)
  alike a {w} p q = (there, back)
    where
      house : (propose_of room job).outcome ≡ Err a
      house = ap {B = Outcome} (λ (w : Written). w.outcome) p ∙ q

      there : ◌≡◌ {A = Offered} (Err a) (Err told) → (propose_of room job).outcome ≡ Err told
      there f = let x : a ≡ told = cc in house ∙ rw x

      back : (propose_of room job).outcome ≡ Err told → ◌≡◌ {A = Offered} (Err a) (Err told)
      back f =
          let both : ◌≡◌ {A = Outcome} (Err a) (Err told) = sym house ∙ f in
          let x : a ≡ told = cc in
          rw x

  -- a job that is read
  house_read : {k : ℕ} → (read_job job).outcome ≡ Ok k → propose_of room job ≡ proposed_of room (job_in job)
  house_read e = ap {B = Written} (onHouseRead room (read_job job).words) e

  -- one that both propose for is refused by the house for room alone
  house_proposes : Ready given job → House-refuses → ⊥
  house_proposes r e =
      let j = job_in job in
      let v = (solved_of j).values in
      let p : propose_of room job ≡ written_of room j v = house_read r.read ∙ sym (whole_written room j r.narrow r.whole) in
      not_room (written_room room (words_of j v) (words_proposed j v (read_jobs_allowed job r.words r.read)) (sym (ap {B = Outcome} (λ (w : Written). w.outcome) p) ∙ e))

  linked_proposes : (r : Ready given job) (s : State) (passes : ℕ) → (counted passes (written_after room (job_in job) s)).offer ≡ Err told → ⊥
  linked_proposes r s passes e =
      not_room (written_room room (linked_words (job_in job) s) (linked_proposed (job_in job) s (read_jobs_allowed job r.words r.read)) (counting_refused passes (written_after room (job_in job) s).outcome e))

  by_case : {r : Linked} → Case room given job r → Alike r.offer
  by_case (outside f) = let t = passes_few room given job h l in clash (cc)
  by_case (unread a f q) = alike a (ap {B = Written} (onHouseRead room (read_job job).words) q) refl
  by_case (wide k f q c) = alike NotProposed (house_read q ∙ sym (wide_refused room (job_in job) c)) refl
  by_case (thin k t f q c w) = alike (TooThin t.cell) (house_read q ∙ sym (thin_refused room (job_in job) c w)) refl
  by_case (none r b) = (λ e. absurd (not_none (let x : 14 ≡ number_of told = cc in sym x)), λ e. absurd (house_proposes r e))
  by_case (first r b) =
      let s = after_pass (job_in job) (suc (passes_before (job_in job) given)) in
      (λ e. absurd (linked_proposes r s (suc (passes_before (job_in job) given)) e), λ e. absurd (house_proposes r e))

pub refused_as_by_the_house : RefusedAsByTheHouse
refused_as_by_the_house room given job h l r a b = by_case room given job h l r a b (case room given job)
