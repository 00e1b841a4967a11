-- Accepted exactly, and what each refusal means: both packs read or one is refused with a number up to 6, and on two packs that read the
-- verdict is that on the table.
use Prim.Native.Nat.{ℕ, ◌+◌, ◌≤◌, ◌<◌}
use mathlib.Core.Path.{◌≡◌, refl, sym, ap, ap₂, subst, ◌∙◌}
use mathlib.Core.Bool.{Bool, true, false}
use mathlib.Core.List.{List}
use native.Mathlib.Omega.{arith}
use borrow.Author.Tests.{le-leb, eqb-true}
use lib.Dec.{leb, eqb}
use lib.IntN.{ℤ}
use lib.Signed.{◌≤ℤ◌}
use Rattle.std.specs.Prelude.{cond}
use Rattle.fields.specs.Table.{values_from}
use Rattle.packs.specs.Reading.{Outcome, read_from}
use Rattle.jobs.specs.Packs.{job_in, read_job, as_six}
use Rattle.jobs.proofs.Readings.{read_jobs_allowed}
use Rattle.tally.specs.Largest.{Largest}
use Rattle.tally.proofs.Largest.{largest_some, largest_one}
use Rattle.measure.specs.Largest.{largest_place}
use Rattle.measure.specs.Check.{Verdict, accepting, verdict_of, on_read, proposal_verdict, check_of}
use Rattle.claims.specs.Read.{proposal_in, values_in, multipliers_in, loss_in, gap_in, term_in, Reads, BothRead}
use Rattle.claims.specs.Meets.{EveryInBox, EveryLinkHolds}
use Rattle.claims.specs.Verdicts.{Acceptable, Outside, Broken, Above}
use Rattle.claims.specs.Promises.{AcceptedExactly, JobRefusedExactly, ProposalRefusedExactly, OutsideExactly, BrokenExactly, AboveExactly, NoOtherRefusal}
use Rattle.claims.proofs.Numbers.{OneToFive, refused_one_to_five}
use Rattle.claims.proofs.Verdict.{verdict_outside, verdict_broken, verdict_above, verdict_accepted, Ruled, outside, broken, above, accepted, ruled}
use Rattle.std.specs.Prelude.{Ok, Err}
use Rattle.refusals.specs.declared.Refusal.TheVariants.{BadProposal, OutsideBox, BrokenLink, GapAbove}
use Rattle.refusals.specs.declared.Refusal.{Refusal}
use Rattle.refusals.specs.Refusals.{number_of, place_of}

module _ (job proposal : List ℕ) where
  -- ---- from what is so to the verdict

  -- a table that meets bounds, links and tolerance is acceptable with its loss and gap
  acceptable : BothRead job proposal → EveryInBox (job_in job) (values_in job proposal) → EveryLinkHolds (job_in job) (values_in job proposal)
      → gap_in job proposal ≤ℤ (job_in job).tolerance → Acceptable job proposal (loss_in job proposal) (gap_in job proposal)
  acceptable B I H h = record { both_read = B; values_in_boxes = I; links_hold = H; gap_within = h; loss_is = refl; gap_is = refl }

  job_refused : {r : Refusal} → (read_job job).outcome ≡ Err r → check_of job proposal ≡ Err r
  job_refused e = ap (λ (o : Outcome). on_read o (proposal_verdict (job_in job) proposal)) e

  on_job_lem : Reads (read_job job).outcome → check_of job proposal ≡ proposal_verdict (job_in job) proposal
  on_job_lem r = ap (λ (o : Outcome). on_read o (proposal_verdict (job_in job) proposal)) r.1

  abbrev pub tabled : Verdict
  tabled = verdict_of (job_in job) (values_in job proposal) (multipliers_in job proposal)

  proposal_refused : {r : Refusal} → Reads (read_job job).outcome → (proposal_in job proposal).outcome ≡ Err r
      → check_of job proposal ≡ Err r
  proposal_refused r e = on_job_lem r ∙ ap (λ (o : Outcome). on_read o tabled) e

  pub on_both : BothRead job proposal → check_of job proposal ≡ tabled
  on_both B = on_job_lem B.job_reads ∙ ap (λ (o : Outcome). on_read o tabled) B.proposal_reads.1

  is_outside : {place : ℕ} → Outside job proposal place → check_of job proposal ≡ Err (OutsideBox place)
  is_outside {place} o = on_both o.both_read ∙ verdict_outside (job_in job) _ _ place o.lowest_cell

  is_broken : {place : ℕ} → Broken job proposal place → check_of job proposal ≡ Err (BrokenLink place)
  is_broken {place} o = on_both o.both_read ∙ verdict_broken (job_in job) _ _ o.values_in_boxes place o.lowest_link

  -- the place of the largest term, of a job with cells, and no other place is one
  largest_in : 0 < (job_in job).cells + (job_in job).links
      → Largest (term_in job proposal) ((job_in job).cells + (job_in job).links) (largest_place (job_in job) (values_in job proposal) (multipliers_in job proposal))
  largest_in h = largest_some (term_in job proposal) ((job_in job).cells + (job_in job).links) h

  is_above : {place : ℕ} → Above job proposal place → check_of job proposal ≡ Err (GapAbove place)
  is_above o =
      on_both o.both_read ∙ verdict_above (job_in job) _ _ o.values_in_boxes o.links_hold o.gap_above
      ∙ ap {B = Verdict} (λ (p : ℕ). Err (GapAbove p)) (largest_one (largest_in (omega (arith, o.largest_term.among))) o.largest_term)

  is_accepted : {F G : ℤ} → Acceptable job proposal F G → check_of job proposal ≡ accepting F G
  is_accepted o =
      on_both o.both_read ∙ verdict_accepted (job_in job) _ _ o.values_in_boxes o.links_hold o.gap_within
      ∙ ap₂ accepting (sym o.loss_is) (sym o.gap_is)

  -- ---- from the verdict to what is so

  -- what a refusal says, by whether its number is at most 5, or is 6, 7, 8 or 9; and what any verdict says
  abbrev Refusing : (five six seven eight nine : Bool) → Refusal → Type 0
  Refusing five six seven eight nine r =
      cond five (OneToFive (number_of r) × ((read_job job).outcome ≡ Err r))
      (cond six (Reads (read_job job).outcome × ((proposal_in job proposal).outcome ≡ Err r))
      (cond seven (Outside job proposal (place_of r))
      (cond eight (Broken job proposal (place_of r))
      (cond nine (Above job proposal (place_of r)) ⊥))))

  abbrev Says : Verdict → Type 0
  Says (Ok f) = Acceptable job proposal f.loss f.gap
  Says (Err r) = Refusing (leb (number_of r) 5) (eqb (number_of r) 6) (eqb (number_of r) 7) (eqb (number_of r) 8) (eqb (number_of r) 9) r

  says_so : {o : Verdict} → check_of job proposal ≡ o → Says o → Says (check_of job proposal)
  says_so e h = subst Says (sym e) h

  first_five : (r : Refusal) → number_of r ≤ 5 → Says (Err r) ≡ (OneToFive (number_of r) × ((read_job job).outcome ≡ Err r))
  first_five r h = rw (le-leb (number_of r) 5 h)

  -- the check's own verdict says what is so
  on_table : BothRead job proposal → Says (check_of job proposal)
  on_table B = go (ruled (job_in job) (values_in job proposal) (multipliers_in job proposal))
    where
      go : Ruled (job_in job) (values_in job proposal) (multipliers_in job proposal) → Says (check_of job proposal)
      go (outside place L) = let o : Outside job proposal place = record { both_read = B; lowest_cell = L } in says_so (is_outside o) o
      go (broken I place L) =
          let o : Broken job proposal place = record { both_read = B; values_in_boxes = I; lowest_link = L } in says_so (is_broken o) o
      go (above I H h) =
          let o : Above job proposal (largest_place (job_in job) (values_in job proposal) (multipliers_in job proposal)) = record {
            both_read = B;
            values_in_boxes = I;
            links_hold = H;
            gap_above = h;
            largest_term = largest_in (omega (arith, (read_jobs_allowed job B.job_reads.0 B.job_reads.1).cells_some));
          } in
          says_so (is_above o) o
      go (accepted I H h) = let o = acceptable B I H h in says_so (is_accepted o) o

  on_proposal : Reads (read_job job).outcome → Says (check_of job proposal)
  on_proposal r = go (read_from (values_from (job_in job).cells (job_in job).links) proposal).outcome refl
    where
      go : (o : Outcome) → (read_from (values_from (job_in job).cells (job_in job).links) proposal).outcome ≡ o → Says (check_of job proposal)
      go (Ok k) e = on_table record { job_reads = r; proposal_reads = (k, ap as_six e) }
      go (Err b) e =
          let six : (proposal_in job proposal).outcome ≡ Err (BadProposal (place_of b)) = ap as_six e in says_so (proposal_refused r six) (r, six)

  says : Says (check_of job proposal)
  says = go (read_job job).outcome refl
    where
      go : (o : Outcome) → (read_job job).outcome ≡ o → Says (check_of job proposal)
      go (Ok k) e = on_proposal (k, e)
      go (Err r) e =
          let h : OneToFive (number_of r) = refused_one_to_five job r e in
          says_so (job_refused e) (subst (λ (A : Type 0). A) (sym (first_five r h.1)) (h, e))

-- ---- the promises

pub accepted_exactly : AcceptedExactly
accepted_exactly job proposal F G = (λ e. subst (Says job proposal) e (says job proposal), is_accepted job proposal)

pub job_refused_exactly : JobRefusedExactly
job_refused_exactly job proposal r h =
    (λ e. (subst (λ (A : Type 0). A) (first_five job proposal r h) (subst (Says job proposal) e (says job proposal))).1, job_refused job proposal)

pub proposal_refused_exactly : ProposalRefusedExactly
proposal_refused_exactly job proposal place =
    (λ e. subst (Says job proposal) e (says job proposal), λ h. proposal_refused job proposal h.0 h.1)

pub outside_exactly : OutsideExactly
outside_exactly job proposal place = (λ e. subst (Says job proposal) e (says job proposal), is_outside job proposal)

pub broken_exactly : BrokenExactly
broken_exactly job proposal place = (λ e. subst (Says job proposal) e (says job proposal), is_broken job proposal)

pub above_exactly : AboveExactly
above_exactly job proposal place = (λ e. subst (Says job proposal) e (says job proposal), is_above job proposal)

pub no_other_refusal : NoOtherRefusal
no_other_refusal job proposal b e =
    go (leb (number_of b) 5) (eqb (number_of b) 6) (eqb (number_of b) 7) (eqb (number_of b) 8) (eqb (number_of b) 9) refl refl refl refl refl (subst (Says job proposal) e (says job proposal))
  where
    number : ℕ
    number = number_of b

    go : (a b' c d f : Bool) → leb number 5 ≡ a → eqb number 6 ≡ b' → eqb number 7 ≡ c → eqb number 8 ≡ d → eqb number 9 ≡ f
        → Refusing job proposal a b' c d f b → (1 ≤ number) × (number ≤ 9)
    go true b c d f p q r s t h = (h.0.0, omega (arith, h.0.1))
    go false true c d f p q r s t h = let e : number ≡ 6 = eqb-true number 6 q in (omega arith, omega arith)
    go false false true d f p q r s t h = let e : number ≡ 7 = eqb-true number 7 r in (omega arith, omega arith)
    go false false false true f p q r s t h = let e : number ≡ 8 = eqb-true number 8 s in (omega arith, omega arith)
    go false false false false true p q r s t h = let e : number ≡ 9 = eqb-true number 9 t in (omega arith, omega arith)
    go false false false false false p q r s t h = absurd h
