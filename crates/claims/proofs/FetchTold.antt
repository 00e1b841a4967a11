-- A fetch that is done, from any words: none of the kept numbers was refused, so they are those of a proposal pack, and the verdict on them is that of
-- the check on this pack and the job presented.
use Prim.Native.Nat.{ℕ, ◌+◌, ◌*◌, ◌≤◌, ◌<◌}
use mathlib.Core.Path.{◌≡◌, refl, sym, ap, ap₂, ◌∙◌, subst}
use mathlib.Core.Bool.{Bool, true, false, cond}
use mathlib.Core.List.{List, [], ◌∷◌, ◌++◌}
use native.Mathlib.Omega.{arith}
use borrow.Author.Tests.{eqb-true, ltb-false}
use lib.Dec.{eqb, ltb}
use lib.IntN.{ℤ, pos}
use lib.ListN.{length, drop, get_or, length-drop, length-append, get_or-append}
use lib.Seq.{length-take-le}
use Rattle.std.specs.Prelude.{if◌then◌else◌}
use Rattle.packs.specs.Reading.{Outcome, Ran}
use Rattle.jobs.specs.Job.{Job}
use Rattle.jobs.specs.Words.{word_at}
use Rattle.jobs.specs.Allowed.{Allowed, Proposed}
use Rattle.jobs.specs.Packs.{job_in, read_job, write_proposal}
use Rattle.jobs.proofs.Readings.{read_jobs_allowed}
use Rattle.jobs.proofs.Trips.{proposed_read_back}
use Rattle.measure.specs.Check.{Verdict, accepting, on_read, proposal_verdict, check_of, verdict_for}
use Rattle.std.specs.Prelude.{Option, Some, None}
use Rattle.slots.specs.Slots.{head_size, values_end, slot_words, lowest, has_job, at_slot}
use Rattle.checked.specs.Answers.{Reply, refusal, overwritten, answer_of}
use Rattle.shelf.specs.Fetched.{most_value, most_multiplier, up_to, lowest_above, or_six, proposal_of, kept_verdict, handed, same_counts, fetch_table, kept_cells, kept_links, kept_values, kept_multipliers, fetch_at, fetch_in, on_job}
use Rattle.std.specs.Prelude.{Ok, Err}
use Rattle.counts.specs.Counts.{Tested, test_shelf, on_tested, row_in}
use Rattle.counts.proofs.Tests.{passed_ready, refused_some}
use Rattle.shelf.specs.Shelf.{Layout, layout_in, span_of, fetch_from, fetch_reply}
use Rattle.shelf.specs.Calls.{fetch, own, said}
use Rattle.numbers.proofs.Both.{both}
use Rattle.slots.proofs.Sizes.{found_below, slot_within, slot_end}
use Rattle.shelf.proofs.Spans.{Lawful, span_length}
use Rattle.shelf.proofs.Rows.{rowed_lawful}
use Rattle.shelf.proofs.Judged.{signed_at_lem, proposed_for, all_allowed}
use Rattle.bench.specs.Answers.{answer_words}
use Rattle.claims.specs.Read.{proposal_in, values_in}
use Rattle.claims.specs.BenchPromises.{ToldBest, ToldFetched}
use Rattle.claims.proofs.Accepted.{no_other_refusal}
use Rattle.claims.proofs.Far.{close_same}
use Rattle.claims.proofs.Told.{told, Handed, handed_told}
use Rattle.refusals.specs.declared.Refusal.TheVariants.{BadProposal}

-- ---- where the verdict on kept numbers has the number 0, every one of them is allowed
record AllAllowed (first most : ℕ) (numbers : List ℕ) (later : Verdict) : Type 0 where
  small : (i : ℕ) → i < length numbers → up_to most numbers i ≡ true
  is : or_six first most numbers later ≡ later

none_six : (first most : ℕ) (numbers : List ℕ) (later : Verdict) → (answer_of (or_six first most numbers later)).number ≡ 0 → AllAllowed first most numbers later
none_six first most numbers later n = go (ltb x (length numbers)) refl
  where
    x : ℕ
    x = lowest_above most numbers

    by : Bool → Verdict
    by b = if b then Err (BadProposal (first + x)) else later

    go : (b : Bool) → ltb x (length numbers) ≡ b → AllAllowed first most numbers later
    go true e = let z : ◌≡◌ {A = ℕ} 6 0 = sym (ap (λ (b : Bool). (answer_of (by b)).number) e) ∙ n in absurd (omega (arith, z))
    go false e = record { small = all_allowed most numbers x refl (ltb-false x (length numbers) e); is = ap {B = Verdict} by e }

-- ---- so they are those of a pack
module _ (job : List ℕ) (k : ℕ) (reads : (read_job job).outcome ≡ Ok k) (v y : List ℕ) (ev : length v ≡ (job_in job).cells) (ey : length y ≡ (job_in job).links)
    (n : (answer_of (kept_verdict (job_in job) v y)).number ≡ 0) where
  abbrev j : Job
  j = job_in job

  abbrev words : List ℤ
  words = proposal_of v y

  values_allowed : AllAllowed head_size most_value v (or_six values_end most_multiplier y (verdict_for j words))
  unfolding kept_verdict
  values_allowed = none_six head_size most_value v (or_six values_end most_multiplier y (verdict_for j words)) n

  multipliers_allowed : AllAllowed values_end most_multiplier y (verdict_for j words)
  unfolding kept_verdict
  multipliers_allowed = none_six values_end most_multiplier y (verdict_for j words) (sym (ap (λ (w : Verdict). (answer_of w).number) values_allowed.is) ∙ n)

  kept_is : kept_verdict j v y ≡ verdict_for j words
  unfolding kept_verdict
  kept_is = values_allowed.is ∙ multipliers_allowed.is

  proposed : Proposed j.cells j.links words
  proposed = proposed_for v y (record { values_small = values_allowed.small; multipliers_small = multipliers_allowed.small }) j.cells j.links ev ey

  abbrev pack : List ℕ
  pack = (write_proposal j.cells j.links words).bytes

  read_back : proposal_in job pack ≡ record { words = words; outcome = Ok (length words) }
  read_back = proposed_read_back j.cells j.links words proposed

  checked : check_of job pack ≡ kept_verdict j v y
  checked =
      ap (λ (o : Outcome). on_read o (proposal_verdict j pack)) reads
      ∙ ap {B = Verdict} (λ (r : Ran). on_read r.outcome (verdict_for j r.words)) read_back
      ∙ sym kept_is

  value_packed : (i : ℕ) → i < j.cells → pos (get_or v i 0) ≡ values_in job pack i
  value_packed i h =
      let at : word_at words i ≡ pos (get_or v i 0) = signed_at_lem (v ++ y) i ∙ ap pos (get_or-append v y 0 i (omega (arith, ev))) in
      sym (ap (λ (r : Ran). word_at r.words i) read_back ∙ at)

-- ---- what is handed out, and what stands behind it
record Given (job : List ℕ) (r : Reply) : Type 0 where
  proposal : List ℕ
  kept : List ℕ
  handed : Handed job proposal kept r
  count : length kept ≡ (job_in job).cells
  values : (i : ℕ) → i < (job_in job).cells → pos (get_or kept i 0) ≡ values_in job proposal i

abbrev Behind : (job : List ℕ) → Reply → Type 0
Behind job r = r.answer.number ≡ 0 → Given job r

-- a reply's number is its verdict's, but for 13
handed_zero : (room : ℕ) (v : List ℕ) (w : Verdict) → (handed room v w).answer.number ≡ 0 → (answer_of w).number ≡ 0
handed_zero room v (Ok f) n = refl
handed_zero room v (Err r) n = n

module _ (job : List ℕ) (k : ℕ) (reads : (read_job job).outcome ≡ Ok k) (room : ℕ) where
  abbrev its_job : Job
  its_job = job_in job

  allowed : Allowed its_job
  allowed = read_jobs_allowed job k reads

  table_behind : (v y : List ℕ) → length v ≡ its_job.cells → length y ≡ its_job.links → Behind job (handed room v (kept_verdict its_job v y))
  table_behind v y ev ey n =
      let z = handed_zero room v (kept_verdict its_job v y) n in
      record {
        proposal = pack job k reads v y ev ey z;
        kept = v;
        handed = handed_told job (pack job k reads v y ev ey z) v room (kept_verdict its_job v y) (checked job k reads v y ev ey z) n;
        count = ev;
        values = value_packed job k reads v y ev ey z;
      }

  -- a slot has the words that its counts ask for, where they are the job's
  slot_behind : (x : List ℕ) → slot_words ≤ length x → Behind job (fetch_at its_job room x)
  unfolding fetch_at fetch_table
  slot_behind x h n = go (same_counts its_job (kept_cells x) (kept_links x)) refl n
    where
      by : Bool → Reply
      by b = cond b (handed room (kept_values x) (kept_verdict its_job (kept_values x) (kept_multipliers x))) (refusal 12 0)

      go : (b : Bool) → same_counts its_job (kept_cells x) (kept_links x) ≡ b → Behind job (by b)
      go true e m =
          let a = eqb (kept_cells x) its_job.cells in
          let b = eqb (kept_links x) its_job.links in
          let ec = eqb-true (kept_cells x) its_job.cells (both a b e).0 in
          let el = eqb-true (kept_links x) its_job.links (both a b e).1 in
          table_behind (kept_values x) (kept_multipliers x)
          (length-take-le (kept_cells x) (drop head_size x) (rw length-drop (omega (arith, ec, allowed.cells_few))) ∙ ec)
          (length-take-le (kept_links x) (drop values_end x) (rw length-drop (omega (arith, el, allowed.links_few))) ∙ el)
          m
      go false e m = absurd (omega (arith, m))

  span_behind : (w c : ℕ) (s : List ℕ) → slot_words ≤ w → length s ≡ w * c → Behind job (fetch_in w c its_job room s)
  unfolding fetch_in
  span_behind w c s wide len n = go (lowest (has_job its_job.number) w c s) refl n
    where
      go : (o : Option ℕ) → lowest (has_job its_job.number) w c s ≡ o → Behind job (at_slot o (λ p. fetch_at its_job room (drop (w * p) s)) (refusal 12 0))
      go (Some p) e m =
          let h = slot_within w c p (found_below (has_job its_job.number) w c s p e) in
          slot_behind (drop (w * p) s) (rw length-drop (omega (arith, slot_end w p))) m
      go None e m = absurd (omega (arith, m))

-- ---- a whole shelf, and any words
whole_behind : (l : Layout) → Lawful l → (job : List ℕ) (room : ℕ) (shelf : List ℕ) → length shelf ≡ l.total → Behind job (fetch_reply l job room shelf)
unfolding fetch_reply
whole_behind l ok job room shelf len n = go (read_job job).outcome refl n
  where
    go : (o : Outcome) → (read_job job).outcome ≡ o → Behind job (on_job o (fetch_from l (job_in job) room shelf))
    go (Ok k) e m =
        let s = (job_in job).society in
        span_behind job k e room l.words (l.count s) (span_of l s shelf) ok.wide (span_length l ok s shelf len (read_jobs_allowed job k e).society) m
    go (Err r) e m = absurd (omega (arith, m, (no_other_refusal job [] r (ap (λ (o : Outcome). on_read o (proposal_verdict (job_in job) [])) e)).0))

any_behind : (shelf job : List ℕ) (room : ℕ) → Behind job (said shelf (own (fetch job room)))
any_behind shelf job room n = go (test_shelf (row_in shelf) shelf) refl n
  where
    go : (o : Tested) → test_shelf (row_in shelf) shelf ≡ o → Behind job (on_tested o (fetch_reply (layout_in shelf) job room shelf) refusal)
    go (Ok u) e m = let r = passed_ready shelf e in whole_behind (layout_in shelf) (rowed_lawful (row_in shelf) r.row) job room shelf r.long m
    go (Err r) e m = absurd (refused_some (row_in shelf) shelf r e m)

-- ---- the words that C gets
pub fetch_told : (shelf job out answered left : List ℕ) → (said shelf (own (fetch job (length out)))).answer.number ≡ 0
    → answered ≡ answer_words (said shelf (own (fetch job (length out)))).answer → left ≡ overwritten out (said shelf (own (fetch job (length out)))).values
    → ToldFetched job answered left
fetch_told shelf job out answered left n w l =
    let r = said shelf (own (fetch job (length out))) in
    let g = any_behind shelf job (length out) n in
    let h = g.handed in
    let F = r.answer.loss in
    let G = r.answer.gap in
    let t : ToldBest job g.proposal (job_in job).cells answered =
    told job g.proposal (job_in job).cells F G answered (w ∙ ap₂ (λ (a b : ℕ). a ∷ b ∷ F ∷ G ∷ []) n (h.place ∙ g.count)) h.accepted in
    let same : (i : ℕ) → i < (job_in job).cells → pos (get_or left i 0) ≡ values_in job g.proposal i = λ i k.
    ap (λ (xs : List ℕ). pos (get_or xs i 0)) (l ∙ ap (overwritten out) h.given)
    ∙ ap pos (get_or-append g.kept (drop (length g.kept) out) 0 i (omega (arith, g.count))) ∙ g.values i k in
    record {
      proposal = g.proposal;
      told = t;
      room = subst (λ (xs : List ℕ). (job_in job).cells ≤ length xs) (sym (l ∙ ap (overwritten out) h.given))
          (omega (arith, g.count, length-append g.kept (drop (length g.kept) out)));
      values = same;
      close = close_same (job_in job) (values_in job g.proposal) (λ i. pos (get_or left i 0)) same (pos t.F) (pos t.G) t.close;
    }
