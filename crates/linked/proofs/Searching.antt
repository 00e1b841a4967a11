-- Pass after pass: after each the code has the state that the sequence has, and it stops at the first pass whose proposal is accepted.
use Prim.Native.Nat.{ℕ, suc, ◌+◌, ◌<◌, min}
use mathlib.Core.Path.{◌≡◌, sym, ap, subst, ◌∙◌}
use mathlib.Core.Bool.{Bool, false, not}
use mathlib.Core.List.{List}
use native.Mathlib.Omega.{arith}
use native.Mathlib.Numerals.{add-one}
use lib.IntN.{ℤ}
use lib.Ieee.{Float}
use Rattle.jobs.specs.Job.{Job}
use Rattle.jobs.specs.Words.{links_of, job_of}
use Rattle.measure.proofs.Lowest.{Passed, lowest_all, lowest_at}
use Rattle.passes.specs.Hildreth.{State, link_of, pass_from, pass_of, after_pass}
use Rattle.checked.specs.Answers.{accepted}
use Rattle.linked.specs.Proposal.{verdict_after, accepted_at, passes_before}
use Rattle.passes.specs.OnWords.{state}
use Rattle.factor.specs.declared.Factor.{Factor}
use Rattle.linked.specs.Given.{Factored}

-- the pass after i others is not accepted
abbrev pub rejects : Job → ℕ → Bool
rejects j i = not (accepted_at j (suc i))

-- what a pass leaves
module _ {ws : List ℤ} {f : Factor} (F : Factored ws f) {v y : List Float} (p : ℕ) (e : state v y ≡ after_pass (job_of ws) p) where
  pub passed_is : {s : State} → s ≡ pass_from f.pivots.now f.multipliers.now f.reach f.cells (link_of (job_of ws)) (links_of ws) 0 (state v y) → s ≡ after_pass (job_of ws) (suc p)
  unfolding after_pass
  passed_is h = h ∙ rw (F.d_is, F.l_is, F.z_is, F.n_is) (ap {B = State} (pass_of (job_of ws)) e)

module _ (j : Job) (p : ℕ) {s : State} (e : s ≡ after_pass j (suc p)) {r : Bool} (q : r ≡ accepted (verdict_after j s)) where
  pub rejects_is : {b : Bool} → r ≡ b → rejects j p ≡ not b
  rejects_is h = ap not (sym (q ∙ ap (λ (s : State). accepted (verdict_after j s)) e) ∙ h)

module _ (j : Job) (given p : ℕ) (past : Passed (rejects j) p) where
  pub found : p < given → rejects j p ≡ false → p ≡ passes_before j given
  unfolding passes_before
  found h e = sym (lowest_at (rejects j) given p h past e)

  pub found_state : (h : p < given) (e : rejects j p ≡ false) {s : State} → s ≡ after_pass j (suc p) → s ≡ after_pass j (min (suc (passes_before j given)) given)
  found_state h e q =
      let b = found h e in
      let m : suc p ≡ min (suc (passes_before j given)) given = omega (arith, b) in
      q ∙ ap {B = State} (after_pass j) m

  pub none_found : p ≡ given → given ≡ passes_before j given
  unfolding passes_before
  none_found e = sym (lowest_all (rejects j) given (subst (λ (k : ℕ). Passed (rejects j) k) e past))

  pub none_state : (e : p ≡ given) {s : State} → s ≡ after_pass j p → s ≡ after_pass j (min (suc (passes_before j given)) given)
  none_state e q =
      let b = none_found e in
      let m : p ≡ min (suc (passes_before j given)) given = omega (arith, b) in
      q ∙ ap {B = State} (after_pass j) m

pub one_more : (j : Job) (p : ℕ) {s : State} → s ≡ after_pass j (suc p) → s ≡ after_pass j (p + 1)
one_more j p q = q ∙ ap {B = State} (after_pass j) (sym (add-one p))
