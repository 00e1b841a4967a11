-- What an accepted check tells: F is at least 0 and at most 7.6·10^18, G is not negative, so the words of the answer are F and G themselves.
use Prim.Native.Nat.{ℕ}
use mathlib.Core.Path.{◌≡◌, sym, ap₂, ◌∙◌, refl, subst}
use mathlib.Core.Bool.{Bool, true, false, cond, true≢false}
use mathlib.Core.List.{List, [], ◌∷◌}
use native.Mathlib.Omega.{arith}
use lib.Dec.{leb}
use lib.IntN.{ℤ, pos, negsuc, nat_abs, ◌-ℤ◌}
use lib.ListN.{length}
use lib.Signed.{◌≤ℤ◌}
use Rattle.whole.proofs.Order.{+ℤ-nonneg, *ℤ-nonneg, sq_nonneg}
use Rattle.whole.proofs.Sums.{sum_nonneg}
use Rattle.certificate.specs.Differences.{difference}
use Rattle.jobs.specs.Job.{Job}
use Rattle.jobs.specs.Allowed.{Allowed}
use Rattle.jobs.proofs.Places.{upto_nonneg}
use Rattle.jobs.specs.Packs.{job_in}
use Rattle.measure.specs.Loss.{family_of, family_across, across_at, loss_of}
use Rattle.measure.specs.Check.{Verdict, accepting, check_of}
use Rattle.measure.proofs.Directions.{loss_at_most}
use Rattle.checked.specs.Answers.{Reply, refusal, accepted, answer_of}
use Rattle.checked.specs.Checked.{checked_of}
use Rattle.std.specs.Prelude.{Ok, Err}
use Rattle.counts.specs.Counts.{Tested, test_shelf, on_tested, row_in}
use Rattle.counts.proofs.Tests.{refused_some}
use Rattle.shelf.specs.Fetched.{handed}
use Rattle.shelf.specs.Shelf.{layout_in, keep_reply}
use Rattle.shelf.specs.Calls.{own, keep, laid_said, said}
use Rattle.bench.specs.Answers.{answer_words}
use Rattle.claims.specs.Read.{values_in, loss_in}
use Rattle.claims.specs.Verdicts.{Acceptable}
use Rattle.claims.specs.Promises.{LossAtMost}
use Rattle.claims.specs.BenchPromises.{ToldBest}
use Rattle.claims.proofs.Accepted.{accepted_exactly, no_other_refusal}
use Rattle.claims.proofs.Terms.{at_most, words_given, no_term_negative}
use Rattle.claims.proofs.Best.{best}
use Rattle.claims.proofs.Far.{accepted_close}

natural : (z : ℤ) → pos 0 ≤ℤ z → z ≡ pos (nat_abs z)
natural (pos n) h = refl
natural (negsuc n) h = absurd h.le

-- ---- the loss
loss_not_negative : (j : Job) → Allowed j → (v : ℕ → ℤ) → pos 0 ≤ℤ loss_of j v
unfolding loss_of
loss_not_negative j A v =
    +ℤ-nonneg (sum_nonneg j.cells (λ i h. *ℤ-nonneg (upto_nonneg (A.cell i h).weight) (sq_nonneg (v i -ℤ j.crude i))))
    (+ℤ-nonneg (*ℤ-nonneg (upto_nonneg A.constant) (sum_nonneg (family_of j).count (λ i h. sq_nonneg (difference (family_of j) v i))))
    (*ℤ-nonneg (upto_nonneg A.second) (sum_nonneg (family_across j).count (λ i h. sq_nonneg (across_at j v i)))))

pub loss_most : LossAtMost
loss_most job proposal B =
    let G = words_given job proposal B in
    at_most 7600000000000000000 (loss_in job proposal) (loss_not_negative (job_in job) G.allowed (values_in job proposal)) (loss_at_most G)

-- ---- an accepted check
pub record Verdicted (job proposal : List ℕ) (v : Verdict) : Type 0 where
  pub as_answered : check_of job proposal ≡ accepting (pos (answer_of v).loss) (pos (answer_of v).gap)

pub verdicted : (job proposal : List ℕ) (v : Verdict) → check_of job proposal ≡ v → accepted v ≡ true → Verdicted job proposal v
verdicted job proposal (Err r) e y = absurd (true≢false (sym y))
verdicted job proposal (Ok w) e y =
    let a : Acceptable job proposal w.loss w.gap = (accepted_exactly job proposal w.loss w.gap).0 e in
    let f = (loss_most job proposal a.both_read).0 in
    let g = (no_term_negative job proposal a.both_read a.values_in_boxes a.links_hold).gap in
    record {
      as_answered =
          e ∙ ap₂ {C = Verdict} accepting (natural w.loss (subst (λ (z : ℤ). pos 0 ≤ℤ z) (sym a.loss_is) f)) (natural w.gap (subst (λ (z : ℤ). pos 0 ≤ℤ z) (sym a.gap_is) g));
    }

-- ---- the words of its answer
pub told : (job proposal : List ℕ) (place F G : ℕ) (answered : List ℕ) → answered ≡ 0 ∷ place ∷ F ∷ G ∷ [] → check_of job proposal ≡ accepting (pos F) (pos G)
    → ToldBest job proposal place answered
told job proposal place F G answered w q = record {
  F = F;
  G = G;
  words = w;
  accepted = q;
  best = best job proposal (pos F) (pos G) q;
  close = accepted_close job proposal (pos F) (pos G) q;
}

pub told_of : (job proposal answered : List ℕ) (v : Verdict) → check_of job proposal ≡ v → (answer_of v).number ≡ 0 → answered ≡ answer_words (answer_of v) → ToldBest job proposal 0 answered
told_of job proposal answered (Err r) e n w = absurd (omega (arith, n, (no_other_refusal job proposal r e).0))
told_of job proposal answered (Ok f) e n w =
    told job proposal 0 (nat_abs f.loss) (nat_abs f.gap) answered w (verdicted job proposal (Ok f) e refl).as_answered

pub kept_told : (job proposal shelf answered : List ℕ) → (said shelf (own (keep job proposal))).answer.number ≡ 0
    → answered ≡ answer_words (said shelf (own (keep job proposal))).answer → ToldBest job proposal 0 answered
unfolding keep_reply checked_of
kept_told job proposal shelf answered n w = go (test_shelf (row_in shelf) shelf) refl n w
  where
    by : Tested → Reply
    by o = on_tested o (laid_said (layout_in shelf) shelf (keep job proposal)) refusal

    go : (o : Tested) → test_shelf (row_in shelf) shelf ≡ o → (by o).answer.number ≡ 0 → answered ≡ answer_words (by o).answer → ToldBest job proposal 0 answered
    go (Ok t) e m u = told_of job proposal answered (check_of job proposal) refl m u
    go (Err r) e m u = absurd (refused_some (row_in shelf) shelf r e m)

-- ---- the values that a fetch hands out, by the check's verdict on a proposal
pub record Handed (job proposal values : List ℕ) (r : Reply) : Type 0 where
  pub place : r.answer.place ≡ length values
  pub given : r.values ≡ values
  pub accepted : check_of job proposal ≡ accepting (pos r.answer.loss) (pos r.answer.gap)

pub handed_told : (job proposal values : List ℕ) (room : ℕ) (v : Verdict) → check_of job proposal ≡ v → (handed room values v).answer.number ≡ 0 → Handed job proposal values (handed room values v)
handed_told job proposal values room (Err r) e n = absurd (omega (arith, n, (no_other_refusal job proposal r e).0))
handed_told job proposal values room (Ok f) e n = go (leb (length values) room) n
  where
    reply : Bool → Reply
    reply b = cond b (record { answer = record { number = 0; place = length values; loss = nat_abs f.loss; gap = nat_abs f.gap }; values = values }) (refusal 13 (length values))

    go : (b : Bool) → (reply b).answer.number ≡ 0 → Handed job proposal values (reply b)
    go true m = record { place = refl; given = refl; accepted = (verdicted job proposal (Ok f) e refl).as_answered }
    go false m = absurd (omega (arith, m))
