-- From the pack to the search and from the search to the answer: which case of the definition the code is in, and what it answers and leaves there.
use Rattle.std.specs.Prelude.{Ok, Err}
use Prim.Native.Nat.{ℕ, ◌-◌, ◌≤◌, ◌<◌}
use mathlib.Core.Path.{◌≡◌, sym, ap, ◌∙◌}
use mathlib.Core.Bool.{true}
use mathlib.Core.List.{List}
use native.Mathlib.Omega.{arith}
use borrow.Author.Tests.{lt-ltb, le-ltb, le-leb, lt-leb}
use lib.IntN.{ℤ, pos}
use lib.Ieee.{Float}
use lib.ListN.{take, replicate}
use lib.Seq.{sets}
use Rattle.refusals.specs.declared.Refusal.{Refusal}
use Rattle.refusals.specs.declared.Refusal.TheVariants.{TooThin, NotReached, NotProposed, PassesNotAllowed}
use Rattle.jobs.specs.Job.{Job}
use Rattle.jobs.specs.Words.{job_of}
use Rattle.jobs.specs.Packs.{read_job}
use Rattle.jobs.proofs.Handed.{scratch_part}
use Rattle.factor.specs.declared.Thin.{Thin}
use Rattle.factor.specs.Factor.{Ending}
use Rattle.house.specs.Band.{zero64}
use Rattle.house.specs.Proposal.{solved_of}
use Rattle.passes.specs.Hildreth.{State, after_pass}
use Rattle.linked.specs.Proposal.{Linked, refused, passes_before, on_first, on_ending, linked_for, on_job_read, few_passes, linked_of}
use Rattle.passes.specs.OnWords.{state}

-- ---- the search

pub start_is : (j : Job) {v : List Float} → v ≡ (solved_of j).values → state v (replicate 160 zero64) ≡ after_pass j 0
unfolding after_pass
start_is j e = ap {B = State} (λ (v : List Float). state v (replicate 160 zero64)) e

module _ (room given : ℕ) (j : Job) {before : ℕ} (e : before ≡ passes_before j given) where
  pub none_accepted : given ≤ before → refused (NotReached given) ≡ on_first room given j (passes_before j given)
  none_accepted h =
      let b = passes_before j given in
      let over : given ≤ b = omega (arith, e) in
      rw (le-ltb b given over)

-- ---- the factor

module _ (room given : ℕ) (j : Job) where
  pub wide_linked : 12 < j.columns → refused NotProposed ≡ linked_for room given j
  unfolding linked_for
  wide_linked h = rw (lt-ltb 12 j.columns h)

  pub narrow_linked : j.columns ≤ 12 → on_ending room given j (solved_of j).ending ≡ linked_for room given j
  unfolding linked_for
  narrow_linked h = rw (le-ltb 12 j.columns h)

  module _ {e : Ending} (h : e ≡ (solved_of j).ending) where
    pub thin_linked : {thin : Thin} → e ≡ Err thin → refused (TooThin thin.cell) ≡ on_ending room given j (solved_of j).ending
    thin_linked t = ap {B = Linked} (on_ending room given j) (sym t ∙ h)

    pub whole_linked : e ≡ Ok tt → on_first room given j (passes_before j given) ≡ on_ending room given j (solved_of j).ending
    whole_linked t = ap {B = Linked} (on_ending room given j) (sym t ∙ h)

-- ---- the pack

module _ (room given : ℕ) (s : List ℕ) where
  pub no_passes : given < 1 → refused PassesNotAllowed ≡ linked_of room given s
  no_passes h = rw (lt-leb 1 given h)

  pub many_passes : 200 < given → refused PassesNotAllowed ≡ linked_of room given s
  many_passes h = let some : 1 ≤ given = omega arith in rw (le-leb 1 given some, lt-leb given 200 h)

  pub passes_few : 1 ≤ given → given ≤ 200 → few_passes given ≡ true
  passes_few h l = rw (le-leb 1 given h, le-leb given 200 l)

  module _ (h : 1 ≤ given) (l : given ≤ 200) where
    pub asked : on_job_read room given (read_job s).words (read_job s).outcome ≡ linked_of room given s
    asked = rw (passes_few h l)

    pub pack_refused : {r : Refusal} → (read_job s).outcome ≡ Err r → refused r ≡ linked_of room given s
    pack_refused e = ap {B = Linked} (on_job_read room given (read_job s).words) (sym e) ∙ asked

    pub part_linked : {k : ℕ} → (read_job s).outcome ≡ Ok k → {scratch : List ℤ} → scratch ≡ sets (replicate 2092 (pos 0)) 0 (read_job s).words
        → linked_for room given (job_of (take (k - 0) scratch)) ≡ linked_of room given s
    part_linked e stored =
        ap {B = Linked} (λ (ws : List ℤ). linked_for room given (job_of ws)) (scratch_part s e stored)
        ∙ ap {B = Linked} (on_job_read room given (read_job s).words) (sym e) ∙ asked
