-- A kept table against the job presented: what was kept of an accepted proposal are that proposal's numbers, so a job with as many cells and links gets
-- the check's own verdict on them.
use Prim.Native.Nat.{ℕ, zero, suc, ◌+◌, ◌-◌, ◌≤◌, ◌<◌}
use mathlib.Core.Path.{◌≡◌, refl, sym, ap, ap₂, ◌∙◌, subst}
use mathlib.Core.Bool.{Bool, true, false, cond, ◌&&◌}
use mathlib.Core.List.{List, [], ◌∷◌, ◌++◌, map}
use native.Mathlib.Omega.{arith}
use borrow.Author.Tests.{ltb-true, ltb-false, eqb-true, eq-eqb}
use lib.Dec.{eqb, ltb}
use lib.IntN.{ℤ, pos, nat_abs}
use lib.ListN.{length, take, drop, get_or, length-drop, take-append-drop}
use lib.Seq.{take_all, get_or-drop}
use Rattle.std.specs.Prelude.{if◌then◌else◌}
use Rattle.packs.specs.Reading.{Outcome, Ran}
use Rattle.jobs.specs.Job.{Job}
use Rattle.jobs.specs.Words.{word_at}
use Rattle.jobs.specs.Packs.{job_in, read_job, read_proposal}
use Rattle.measure.specs.Check.{Verdict, on_read, proposal_verdict, check_of, verdict_for}
use Rattle.checked.specs.Answers.{Reply, refusal, accepted}
use Rattle.checked.specs.Checked.{checked_of, values_of, multipliers_of}
use Rattle.shelf.specs.Fetched.{most_value, most_multiplier, proposal_of, kept_verdict, handed, same_counts, fetch_table}
use Rattle.checked.proofs.Values.{length_map, map_at}
use Rattle.numbers.proofs.Both.{both}
use Rattle.shelf.proofs.Judged.{allowed_verdict}
use Rattle.checked.proofs.Sound.{Packed, accepted_read, values_count, multipliers_count}
use Rattle.claims.specs.Read.{proposal_in, Reads}
use Rattle.claims.specs.Lists.{Table, table_from, table_for}

-- ---- lists of whole numbers that are not negative
take_get_d : (n i : ℕ) (xs : List ℕ) → i < n → get_or (take n xs) i 0 ≡ get_or xs i 0
take_get_d zero i xs h = absurd (omega (arith, h))
take_get_d (suc n) i [] h = refl
take_get_d (suc n) zero (x ∷ xs) h = refl
take_get_d (suc n) (suc i) (x ∷ xs) h = take_get_d n i xs (omega arith)

natural_again : (ws : List ℤ) → ((i : ℕ) → i < length ws → word_at ws i ≡ pos (nat_abs (word_at ws i))) → map pos (map nat_abs ws) ≡ ws
natural_again [] h = refl
natural_again (w ∷ ws) h = ap₂ (λ (x : ℤ) (xs : List ℤ). x ∷ xs) (sym (h 0 (omega arith))) (natural_again ws (λ i k. h (suc i) (omega arith)))

-- ---- a table against a job with other counts
pub counts_refused : (j : Job) (room : ℕ) (t : Table) → same_counts j (length t.values) (length t.multipliers) ≡ false → table_for j room t ≡ refusal 12 0
unfolding fetch_table
counts_refused j room t e = ap {B = Reply} (λ (b : Bool). cond b (handed room t.values (kept_verdict j t.values t.multipliers)) (refusal 12 0)) e

-- ---- what was kept of an accepted proposal
module _ (old proposal : List ℕ) (yes : accepted (check_of old proposal) ≡ true) where
  packed : Packed old proposal
  packed = accepted_read old proposal yes

  abbrev n : ℕ
  n = (job_in old).cells

  abbrev L : ℕ
  L = (job_in old).links

  abbrev ws : List ℤ
  ws = (proposal_in old proposal).words

  abbrev vs : List ℕ
  vs = values_of (job_in old) proposal

  abbrev ys : List ℕ
  ys = multipliers_of (job_in old) proposal

  long : length ws ≡ n + L
  long = packed.proposed.count

  pub value_is : (i : ℕ) → i < n → get_or vs i 0 ≡ nat_abs (word_at ws i)
  value_is i h = take_get_d n i (map nat_abs ws) h ∙ map_at ws i

  multiplier_is : (l : ℕ) → l < L → get_or ys l 0 ≡ nat_abs (word_at ws (n + l))
  multiplier_is l h = take_get_d L l (drop n (map nat_abs ws)) h ∙ get_or-drop n (map nat_abs ws) l 0 ∙ map_at ws (n + l)

  natural : (i : ℕ) → i < n + L → word_at ws i ≡ pos (nat_abs (word_at ws i))
  natural i h = go (ltb i n) refl
    where
      go : (b : Bool) → ltb i n ≡ b → word_at ws i ≡ pos (nat_abs (word_at ws i))
      go true e = (packed.proposed.value i (ltb-true i n e)).natural
      go false e =
          let k = ltb-false i n e in
          let q : n + (i - n) ≡ i = omega arith in
          subst (λ (m : ℕ). word_at ws m ≡ pos (nat_abs (word_at ws m))) q (packed.proposed.multiplier (i - n) (omega arith)).natural

  parted : vs ++ ys ≡ map nat_abs ws
  parted =
      ap (λ (r : List ℕ). vs ++ r) (take_all L (drop n (map nat_abs ws)) (rw length-drop (omega (arith, length_map nat_abs ws, long))))
      ∙ take-append-drop n (map nat_abs ws)

  proposal_again : proposal_of vs ys ≡ ws
  proposal_again = ap (λ (xs : List ℕ). map pos xs) parted ∙ natural_again ws (λ i h. natural i (omega (arith, long)))

  values_allowed : (i : ℕ) → i < length vs → get_or vs i 0 ≤ most_value
  values_allowed i h =
      let k : i < n = omega (arith, values_count old proposal packed) in
      omega (arith, value_is i k, (packed.proposed.value i k).small)

  multipliers_allowed : (l : ℕ) → l < length ys → get_or ys l 0 ≤ most_multiplier
  multipliers_allowed l h =
      let k : l < L = omega (arith, multipliers_count old proposal packed) in
      omega (arith, multiplier_is l k, (packed.proposed.multiplier l k).small)

  -- a value is the proposal's number
  pub value_kept : (i : ℕ) → i < n → pos (get_or vs i 0) ≡ word_at ws i
  value_kept i h = ap pos (value_is i h) ∙ sym (packed.proposed.value i h).natural

  -- ---- against a job with as many cells and links
  module _ (job : List ℕ) (reads : Reads (read_job job).outcome) (ec : (job_in job).cells ≡ n) (el : (job_in job).links ≡ L) where
    pub same_proposal : proposal_in job proposal ≡ proposal_in old proposal
    same_proposal = ap₂ {C = Ran} (λ (a b : ℕ). read_proposal a b proposal) ec el

    abbrev judged : List ℤ → Verdict
    judged ps = verdict_for (job_in job) ps

    checked : check_of job proposal ≡ judged (proposal_in job proposal).words
    checked =
        ap (λ (o : Outcome). on_read o (proposal_verdict (job_in job) proposal)) reads.1
        ∙ ap (λ (o : Outcome). on_read o (judged (proposal_in job proposal).words)) (ap {B = Outcome} (λ (r : Ran). r.outcome) same_proposal ∙ packed.proposal_done.1)

    as_checked : kept_verdict (job_in job) vs ys ≡ check_of job proposal
    as_checked =
        allowed_verdict (job_in job) vs ys values_allowed multipliers_allowed
        ∙ ap judged (proposal_again ∙ sym (ap (λ (r : Ran). r.words) same_proposal))
        ∙ sym checked

    pub fetched_checked : (room : ℕ) → table_for (job_in job) room (table_from (checked_of old proposal)) ≡ handed room (checked_of old proposal).values (check_of job proposal)
    unfolding checked_of fetch_table
    fetched_checked room =
        let same : same_counts (job_in job) (length vs) (length ys) ≡ true =
        ap₂ ◌&&◌ (eq-eqb (length vs) (job_in job).cells (values_count old proposal packed ∙ sym ec)) (eq-eqb (length ys) (job_in job).links (multipliers_count old proposal packed ∙ sym el)) in
        ap {B = Reply} (λ (b : Bool). cond b (handed room vs (kept_verdict (job_in job) vs ys)) (refusal 12 0)) same
        ∙ ap {B = Reply} (λ (v : Verdict). handed room vs v) as_checked

  -- ---- against any job
  module _ (job : List ℕ) (reads : Reads (read_job job).outcome) (room : ℕ) where
    by_counts : (b : Bool) → same_counts (job_in job) n L ≡ b
        → table_for (job_in job) room (table_from (checked_of old proposal)) ≡ (if b then handed room (checked_of old proposal).values (check_of job proposal) else refusal 12 0)
    unfolding checked_of
    by_counts true e =
        let c = eqb n (job_in job).cells in
        let l = eqb L (job_in job).links in
        fetched_checked job reads (sym (eqb-true n (job_in job).cells (both c l e).0)) (sym (eqb-true L (job_in job).links (both c l e).1)) room
    by_counts false e =
        counts_refused (job_in job) room (table_from (checked_of old proposal)) (ap₂ (same_counts (job_in job)) (values_count old proposal packed) (multipliers_count old proposal packed) ∙ e)

    pub fetched_by_counts : table_for (job_in job) room (table_from (checked_of old proposal))
        ≡ (if same_counts (job_in job) n L then handed room (checked_of old proposal).values (check_of job proposal) else refusal 12 0)
    fetched_by_counts = by_counts (same_counts (job_in job) n L) refl
