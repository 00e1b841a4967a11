-- From the pack to the solve and from the values to the pack: the scratch that a job is read into holds its words, and what is written are the
-- proposal's words.
use Rattle.std.proofs.Common.{◌≡◌, ℕ, zero, suc, ◌+◌, ◌-◌, ◌<◌, ◌≤◌, Bool, List, ◌∷◌, ◌++◌, get_or, take, replicate, ℤ, pos, sym, refl, ap, ◌∙◌, arith, le-ltb, lt-ltb, Ok, Err}
use lib.Ieee.{Float, nan}
use lib.ListN.{length-replicate, replicate-append-replicate}
use lib.Seq.{sets}
use Rattle.std.specs.Prelude.{if◌then◌else◌}
use Rattle.refusals.specs.declared.Refusal.TheVariants.{TooThin, NotProposed}
use Rattle.packs.specs.Writing.{Written, refused}
use Rattle.packs.specs.Walking.{packed, padded}
use Rattle.jobs.specs.Job.{Job}
use Rattle.jobs.specs.Words.{job_of}
use Rattle.jobs.specs.Packs.{read_job}
use Rattle.jobs.proofs.Readings.{read_jobs_allowed, read_jobs_laid}
use Rattle.jobs.proofs.Handed.{scratch_part}
use Rattle.factor.specs.declared.Thin.{Thin}
use Rattle.factor.specs.Factor.{Ending}
use Rattle.house.specs.Known.{Known}
use Rattle.house.specs.Factoring.{Solved}
use Rattle.house.specs.Filled.{filled}
use Rattle.house.specs.Proposal.{solved_of, value_of, words_of, written_of, on_ending, proposed_of, on_job_read, propose_of}
use Rattle.house.proofs.Fills.{filled_append, take_filled}

-- ---- the words of the job

module _ (s : List ℕ) {k : ℕ} (e : (read_job s).outcome ≡ Ok k) {scratch : List ℤ} (stored : scratch ≡ sets (replicate 2092 (pos 0)) 0 (read_job s).words) where
  pub part_known : Known (take (k - 0) scratch)
  part_known = rw (scratch_part s e stored) (record { allowed = read_jobs_allowed s k e; laid = read_jobs_laid s k e })

  pub part_proposed : (room : ℕ) → proposed_of room (job_of (take (k - 0) scratch)) ≡ propose_of room s
  part_proposed room =
      ap {B = Written} (λ (ws : List ℤ). proposed_of room (job_of ws)) (scratch_part s e stored) ∙ ap {B = Written} (on_job_read room (read_job s).words) (sym e)

-- ---- the case that the factoring's ending picks

-- a grid of more than 12 columns
pub wide_refused : (room : ℕ) (j : Job) → 12 < j.columns → refused NotProposed ≡ proposed_of room j
unfolding proposed_of
wide_refused room j h = ap {B = Written} (λ (b : Bool). if b then refused NotProposed else on_ending room j (solved_of j).values (solved_of j).ending) (sym (lt-ltb 12 j.columns h))

module _ (room : ℕ) (j : Job) (few : j.columns ≤ 12) where
  pub narrow_proposed : on_ending room j (solved_of j).values (solved_of j).ending ≡ proposed_of room j
  unfolding proposed_of
  narrow_proposed =
      ap {B = Written} (λ (b : Bool). if b then refused NotProposed else on_ending room j (solved_of j).values (solved_of j).ending) (sym (le-ltb 12 j.columns few))

  pub thin_refused : {thin : Thin} → (solved_of j).ending ≡ Err thin → refused (TooThin thin.cell) ≡ proposed_of room j
  thin_refused t = ap {B = Written} (on_ending room j (solved_of j).values) (sym t) ∙ narrow_proposed

  pub whole_written : (solved_of j).ending ≡ Ok tt → written_of room j (solved_of j).values ≡ proposed_of room j
  whole_written t = ap {B = Written} (on_ending room j (solved_of j).values) (sym t) ∙ narrow_proposed

-- what a solve by another name answers and leaves
pub ending_is : (room : ℕ) (j : Job) {s : Solved} → s ≡ solved_of j → {e : Ending} {v : List Float} → e ≡ s.ending → v ≡ s.values
    → on_ending room j v e ≡ on_ending room j (solved_of j).values (solved_of j).ending
ending_is room j p he hv = rw (he, hv) (ap {B = Written} (λ (s : Solved). on_ending room j s.values s.ending) p)

-- ---- the words of the proposal

pub take_zeros : (m k : ℕ) → m ≤ k → take m (replicate k (pos 0)) ≡ replicate m (pos 0)
take_zeros zero k h = refl
take_zeros (suc m) zero h = absurd (omega arith)
take_zeros (suc m) (suc k) h = ap (λ (xs : List ℤ). pos 0 ∷ xs) (take_zeros m k (omega arith))

-- the values that were filled, and a zero for each link
pub part_words : (j : Job) (v : List Float) {n l : ℕ} {ws : List ℤ} → n ≡ j.cells → l ≡ j.links → n ≤ 120
    → ws ≡ filled (λ i. value_of j i (get_or v i nan)) n 0 (replicate 120 (pos 0)) → take (n - 0) ws ++ replicate l (pos 0) ≡ words_of j v
unfolding words_of
part_words j v {n} {l} {ws} en el h ew =
    let less : n - 0 ≡ n = omega arith in
    let f : ℕ → ℤ = λ i. value_of j i (get_or v i nan) in
    let values : take (n - 0) ws ≡ filled f n 0 (replicate n (pos 0)) =
    rw (less, ew) (take_filled f n 0 n (replicate 120 (pos 0)) (omega arith) ∙ ap (filled f n 0) (take_zeros n 120 h)) in
    let zeros : replicate n (pos 0) ++ replicate l (pos 0) ≡ replicate (n + l) (pos 0) = replicate-append-replicate n l (pos 0) in
    let whole : filled f n 0 (replicate n (pos 0)) ++ replicate l (pos 0) ≡ filled f n 0 (replicate (n + l) (pos 0)) =
    sym (filled_append f n 0 (replicate n (pos 0)) (replicate l (pos 0)) (omega (arith, length-replicate n (pos 0)))) ∙ ap (filled f n 0) zeros in
    rw values (whole ∙ rw (en, el))

pub part_padded : (j : Job) (v : List Float) {n l : ℕ} {ws : List ℤ} → n ≡ j.cells → l ≡ j.links → n ≤ 120
    → ws ≡ filled (λ i. value_of j i (get_or v i nan)) n 0 (replicate 120 (pos 0)) → padded (take (n - 0) ws) l ≡ packed (words_of j v)
unfolding padded
part_padded j v en el h ew = ap packed (part_words j v en el h ew)
