-- Eight lists (document 01, "The shelf"): from a cleared shelf, any sequence of calls answers as eight separate lists of at most as many tables as each
-- society's count would. Why: each span is its list laid out in order, then zeros; every call keeps that so, and says what the list says.
use mathlib.Core.Path.{◌≡◌, refl, sym, ap, ◌∙◌, subst}
use mathlib.Core.Bool.{Bool, true, false, cond}
use mathlib.Core.List.{List, [], ◌∷◌, ◌++◌}
use Prim.Native.Nat.{ℕ, zero, suc, ◌+◌, ◌*◌, ◌≤◌, zero-le}
use native.Mathlib.Nat.{mul-suc, mul-zero}
use native.Mathlib.Omega.{arith}
use lib.Dec.{eqb, leb}
use lib.ListN.{length, replicate, length-append, length-replicate, replicate-append-replicate}
use borrow.Author.Tests.{leb-true, eqb-true, eqb-false}
use Rattle.jobs.specs.Words.{job_of}
use Rattle.jobs.specs.Packs.{read_job}
use Rattle.jobs.proofs.Readings.{read_jobs_allowed}
use Rattle.slots.specs.Slots.{slot_words, kept_in, forgot_in}
use Rattle.std.specs.Prelude.{Ok, Err}
use Rattle.counts.specs.Counts.{Tested, passed, shelf_words, count_in, test_row, on_row, test_shelf, row_in, cleared}
use Rattle.counts.proofs.Tests.{right_eight, wrong_number, shelf_right, shelf_wrong}
use Rattle.refusals.specs.Refusals.{place_of}
use Rattle.counts.proofs.Cleared.{cleared_row, cleared_length, cleared_span}
use Rattle.checked.specs.Answers.{Reply, refusal, done, accepted}
use Rattle.shelf.specs.Shelf.{forget_reply, Layout, rowed, slot_from, span_of, size_of, on_society, from_society, kept_shelf, fetch_from, fetch_reply, forgot_shelf, forgot_reply}
use Rattle.shelf.specs.Fetched.{fetch_in, on_job}
use Rattle.checked.specs.Checked.{Checked, checked_of}
use Rattle.shelf.specs.Calls.{Own, Call, keep, fetch, forget, own, clear, laid_after, laid_said, after, said, shelf_run}
use Rattle.slots.proofs.Steps.{slot_length}
use Rattle.shelf.proofs.Answered.{said_passed, after_passed, clear_passed, clear_refused}
use Rattle.shelf.proofs.Rows.{rowed_lawful}
use Rattle.shelf.proofs.Sound.{Sound, accepted_sound}
use Rattle.shelf.proofs.Spans.{Lawful, society_length, own as its_own, other}
use Rattle.claims.specs.Lists.{Table, table_from, removed, kept, fetched, forgotten, Lists, on_list, from_list, kept_lists, lists_after, lists_say, Kept, emptied, kept_after, kept_say, lists_run}
use Rattle.claims.specs.LastKept.{ClearedWith}
use Rattle.claims.proofs.Every.{all_kept, all_removed}
use Rattle.claims.proofs.Tables.{few_kept, few_removed}
use Rattle.claims.proofs.Steps.{laid_row}
use Rattle.claims.proofs.Laid.{slot, laid, Fits, AllFit, removed_laid, forgotten_laid, fetched_laid, kept_laid}
use Rattle.std.specs.Prelude.{Ok, Err}
use Rattle.packs.specs.Reading.{Outcome}

-- a span of c slots of w words is the list laid out
pub record Held (w c : ℕ) (ts : List Table) (s : List ℕ) : Type 0 where
  pub words : s ≡ laid w c ts
  pub few : length ts ≤ c
  pub fit : AllFit ts

laid_length : (w c : ℕ) (ts : List Table) → slot_words ≤ w → AllFit ts → length (laid w c ts) ≡ w * c
unfolding laid
laid_length w zero ts h a = sym (mul-zero w)
laid_length w (suc c) [] h a =
    let k = laid_length w c [] h tt in
    omega (arith, length-append (replicate {A = ℕ} w 0) (laid w c []), length-replicate {A = ℕ} w 0, mul-suc w c)
laid_length w (suc c) (t ∷ ts) h a =
    let k = laid_length w c ts h a.1 in
    let l : length (slot w t) ≡ w = slot_length w t.job t.loss t.gap t.values t.multipliers a.0.1 (omega (arith, a.0.2)) in
    omega (arith, length-append (slot w t) (laid w c ts), mul-suc w c)

laid_none : (w c : ℕ) → laid w c [] ≡ replicate (w * c) 0
unfolding laid
laid_none w zero = ap (λ (k : ℕ). replicate k 0) (sym (mul-zero w))
laid_none w (suc c) =
    let e : w + w * c ≡ w * suc c = omega (arith, mul-suc w c) in
    ap (λ (l : List ℕ). replicate w 0 ++ l) (laid_none w c) ∙ replicate-append-replicate {A = ℕ} w (w * c) 0 ∙ ap (λ (k : ℕ). replicate k 0) e

-- ---- a shelf and eight lists
pub record Sim (l : Layout) (xs : List ℕ) (lists : Lists) : Type 0 where
  pub long : length xs ≡ l.total
  pub spans : (s : ℕ) → s ≤ 7 → Held l.words (l.count s) (lists s) (span_of l s xs)

module _ (l : Layout) (ok : Lawful l) where
  -- the span of a society, as words of the layout
  abbrev Its : ℕ → List Table → List ℕ → Type 0
  Its s ts x = Held l.words (l.count s) ts x

  -- a step of one span and one list is a step of the shelf and the lists
  module _ (s : ℕ) (f : List ℕ → List ℕ) (g : List Table → List Table) (step : s ≤ 7 → (ts : List Table) (x : List ℕ) → Its s ts x → Its s (g ts) (f x))
      (xs : List ℕ) (lists : Lists) (sim : Sim l xs lists) where
    same : s ≤ 7 → length (f (span_of l s xs)) ≡ size_of l s
    same h = let k = step h (lists s) (span_of l s xs) (sim.spans s h) in ap length k.words ∙ laid_length l.words (l.count s) (g (lists s)) ok.wide k.fit

    sim_on : Sim l (on_society l s f xs) (on_list s g lists)
    sim_on = record { long = society_length l ok s f xs sim.long same; spans = λ t h. go t h (eqb t s) refl }
      where
        go : (t : ℕ) → t ≤ 7 → (b : Bool) → eqb t s ≡ b → Its t (cond b (g (lists t)) (lists t)) (span_of l t (on_society l s f xs))
        go t h true e =
            let q : s ≡ t = sym (eqb-true t s e) in
            let k : s ≤ 7 = omega arith in
            subst (λ (r : ℕ). Its r (g (lists r)) (span_of l r (on_society l s f xs))) q
            (subst (λ (x : List ℕ). Its s (g (lists s)) x) (sym (its_own l ok s f xs sim.long same k)) (step k (lists s) (span_of l s xs) (sim.spans s k)))
        go t h false e = subst (λ (x : List ℕ). Its t (lists t) x) (sym (other l ok s f xs sim.long same t h (eqb-false t s e))) (sim.spans t h)

  sim_from : (s : ℕ) (f : List ℕ → Reply) (g : List Table → Reply) → ((ts : List Table) (x : List ℕ) → Its s ts x → f x ≡ g ts)
      → (xs : List ℕ) (lists : Lists) → Sim l xs lists → from_society l s f xs ≡ from_list s g lists
  unfolding from_society
  sim_from s f g step xs lists sim = go (leb s 7) refl
    where
      go : (b : Bool) → leb s 7 ≡ b → cond b (f (span_of l s xs)) (refusal 11 0) ≡ cond b (g (lists s)) (refusal 11 0)
      go true e = step (lists s) (span_of l s xs) (sim.spans s (leb-true s 7 e))
      go false e = refl

  -- ---- each call
  held_kept : (o : Checked) → Sound o → (ts : List Table) (x : List ℕ) → Its o.society ts x
      → Its o.society (kept (l.count o.society) (table_from o) ts) (kept_in l.words (l.count o.society) o.job (slot_from l o) x)
  held_kept o sound ts x k =
      let c = l.count o.society in
      let pos = ok.some o.society sound.society in
      record {
        words = ap (kept_in l.words c o.job (slot_from l o)) k.words ∙ kept_laid l.words ok.wide (table_from o) c ts pos k.few k.fit;
        few = few_kept (table_from o) ts c pos k.few;
        fit = all_kept Fits (table_from o) ts c (sound.some, sound.few, sound.links) k.fit;
      }

  held_removed : (s j : ℕ) (ts : List Table) (x : List ℕ) → Its s ts x → Its s (removed j ts) (forgot_in l.words (l.count s) j x)
  held_removed s j ts x k =
      record {
        words = ap (forgot_in l.words (l.count s) j) k.words ∙ removed_laid l.words ok.wide j (l.count s) ts k.few k.fit;
        few = few_removed j ts (l.count s) k.few;
        fit = all_removed Fits j ts k.fit;
      }

  kept_sim : (o : Checked) → (accepted o.verdict ≡ true → Sound o) → (xs : List ℕ) (lists : Lists) → Sim l xs lists → Sim l (kept_shelf l o xs) (kept_lists l.count o lists)
  unfolding kept_shelf
  kept_sim o sound xs lists sim = go (accepted o.verdict) refl
    where
      go : (b : Bool) → accepted o.verdict ≡ b
          → Sim l (cond b (on_society l o.society (kept_in l.words (l.count o.society) o.job (slot_from l o)) xs) xs) (cond b (on_list o.society (kept (l.count o.society) (table_from o)) lists) lists)
      go true e = sim_on o.society (kept_in l.words (l.count o.society) o.job (slot_from l o)) (kept (l.count o.society) (table_from o)) (λ h. held_kept o (sound e)) xs lists sim
      go false e = sim

  pub laid_after_lem : (call : Own) (xs : List ℕ) (lists : Lists) → Sim l xs lists → Sim l (laid_after l xs call) (lists_after l.count lists call)
  unfolding forgot_shelf
  laid_after_lem (keep job proposal) xs lists sim = kept_sim (checked_of job proposal) (accepted_sound job proposal) xs lists sim
  laid_after_lem (fetch job room) xs lists sim = sim
  laid_after_lem (forget society job) xs lists sim = sim_on society (forgot_in l.words (l.count society) job) (removed job) (λ h. held_removed society job) xs lists sim

  pub laid_said_lem : (call : Own) (xs : List ℕ) (lists : Lists) → Sim l xs lists → laid_said l xs call ≡ lists_say lists call
  unfolding fetch_reply forgot_reply
  laid_said_lem (keep job proposal) xs lists sim = refl
  laid_said_lem (fetch job room) xs lists sim = go (read_job job).outcome refl
    where
      go : (o : Outcome) → (read_job job).outcome ≡ o
          → on_job o (fetch_from l (job_of (read_job job).words) room xs) ≡ on_job o (fetched (job_of (read_job job).words) room (lists (job_of (read_job job).words).society))
      go (Ok k) e =
          let j = job_of (read_job job).words in
          let c = l.count j.society in
          let held = sim.spans j.society (read_jobs_allowed job k e).society in
          ap {B = Reply} (fetch_in l.words c j room) held.words ∙ fetched_laid l.words ok.wide j room c (lists j.society) held.few held.fit
      go (Err r) e = refl
  laid_said_lem (forget society job) xs lists sim =
      let c = l.count society in
      sim_from society (forget_reply l.words c job) (forgotten job) (λ ts x k. ap {B = Reply} (forget_reply l.words c job) k.words ∙ forgotten_laid l.words ok.wide job c ts k.few k.fit) xs lists sim

-- ---- a shelf with its row, and eight lists with theirs
pub record Stands (xs : List ℕ) (k : Kept) : Type 0 where
  pub row : row_in xs ≡ k.row
  pub right : test_row k.row ≡ passed
  pub sim : Sim (rowed k.row) xs k.lists

-- a cleared shelf stands for empty lists
pub cleared_stands : (counts xs : List ℕ) → test_row (row_in counts) ≡ passed → length xs ≡ shelf_words → Stands (cleared (row_in counts) xs) (emptied counts)
cleared_stands counts xs e len =
    let row = row_in counts in
    let eight = right_eight counts e in
    record {
      row = cleared_row row eight e xs len;
      right = e;
      sim = record {
        long = cleared_length row eight e xs len;
        spans = λ s h. record { words = cleared_span row eight e xs len s (omega arith) ∙ sym (laid_none slot_words (count_in row s)); few = zero-le; fit = tt };
      };
    }

module _ (xs : List ℕ) (k : Kept) (st : Stands xs k) where
  len : length xs ≡ shelf_words
  len = st.sim.long

  ready : test_shelf (row_in xs) xs ≡ passed
  ready = shelf_right (row_in xs) xs len (ap {B = Tested} test_row st.row ∙ st.right)

  lawful : Lawful (rowed k.row)
  lawful = rowed_lawful k.row st.right

  own_after : (call : Own) → laid_after (rowed k.row) xs call ≡ after xs (own call)
  own_after call = ap (λ (r : List ℕ). laid_after (rowed r) xs call) (sym st.row) ∙ after_passed xs call ready

  pub stands_after : (call : Call) → Stands (after xs call) (kept_after k call)
  stands_after (own call) =
      subst (λ (ys : List ℕ). Stands ys (kept_after k (own call))) (own_after call) (record {
        row = laid_row k.row st.right call xs len ∙ st.row;
        right = st.right;
        sim = laid_after_lem (rowed k.row) lawful call xs k.lists st.sim;
      })
  stands_after (clear counts) = go (test_row (row_in counts)) refl
    where
      go : (o : Tested) → test_row (row_in counts) ≡ o → Stands (after xs (clear counts)) (on_row o (emptied counts) (λ place. k))
      go (Ok u) e = subst (λ (ys : List ℕ). Stands ys (emptied counts)) (clear_passed xs counts (shelf_right (row_in counts) xs len e)).1 (cleared_stands counts xs e len)
      go (Err r) e = subst (λ (ys : List ℕ). Stands ys k) (clear_refused xs counts r (shelf_wrong (row_in counts) xs len r e)).1 st

  pub stands_said : (call : Call) → said xs call ≡ kept_say k call
  stands_said (own call) =
      sym (said_passed xs call ready) ∙ ap {B = Reply} (λ (r : List ℕ). laid_said (rowed r) xs call) st.row ∙ laid_said_lem (rowed k.row) lawful call xs k.lists st.sim
  stands_said (clear counts) = go (test_row (row_in counts)) refl
    where
      go : (o : Tested) → test_row (row_in counts) ≡ o → said xs (clear counts) ≡ on_row o done (λ place. refusal 22 place)
      go (Ok u) e = sym (clear_passed xs counts (shelf_right (row_in counts) xs len e)).0
      go (Err r) e = sym (clear_refused xs counts r (shelf_wrong (row_in counts) xs len r e)).0 ∙ ap {B = Reply} (λ (n : ℕ). refusal n (place_of r)) (wrong_number (row_in counts) r e)

stands_run : (calls : List Call) (xs : List ℕ) (k : Kept) → Stands xs k → shelf_run xs calls ≡ lists_run k calls
stands_run [] xs k st = refl
stands_run (call ∷ calls) xs k st =
    ap (λ (r : Reply). r ∷ shelf_run (after xs call) calls) (stands_said xs k st call)
    ∙ ap (λ (rs : List Reply). kept_say k call ∷ rs) (stands_run calls (after xs call) (kept_after k call) (stands_after xs k st call))

-- ---- from a clearing on
module _ (counts shelf : List ℕ) (from : ClearedWith counts shelf) where
  pub from_cleared : Stands shelf (emptied counts)
  from_cleared =
      subst (λ (ys : List ℕ). Stands ys (emptied counts)) ((clear_passed from.before counts (shelf_right (row_in counts) from.before from.long from.allowed)).1 ∙ sym from.is)
      (cleared_stands counts from.before from.allowed from.long)

  pub lists_of : (calls : List Call) → shelf_run shelf calls ≡ lists_run (emptied counts) calls
  lists_of calls = stands_run calls shelf (emptied counts) from_cleared
