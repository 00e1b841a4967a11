-- No neighbour (document 01, "The shelf": "Every call reads and writes only its own society's … words", and W-209: "every call also reads the leading
-- row"): what is done to one span is a function of that span and its count, and leaves the row and every other span, so what other societies send
-- changes no answer to this one.
use mathlib.Core.Path.{◌≡◌, refl, sym, ap, ap₂, ◌∙◌, subst}
use mathlib.Core.Bool.{Bool, true, false, cond, not, true≢false}
use mathlib.Core.Option.{Option, none, some}
use mathlib.Core.List.{List, [], ◌∷◌}
use Prim.Native.Nat.{ℕ, ◌*◌, ◌≤◌}
use native.Mathlib.Omega.{arith}
use lib.Dec.{eqb, leb}
use lib.IntN.{ℤ, nat_abs}
use lib.ListN.{length, replicate}
use borrow.Author.Tests.{leb-true, eqb-true, eqb-false, ne_eqb, not-false, not-true}
use Rattle.jobs.specs.Words.{job_of}
use Rattle.jobs.specs.Packs.{read_job}
use Rattle.jobs.proofs.Readings.{read_jobs_allowed}
use Rattle.slots.specs.Slots.{slot_words, kept_in, forgot_in}
use Rattle.std.specs.Prelude.{Ok, Err}
use Rattle.refusals.specs.declared.Refusal.{Refusal}
use Rattle.counts.specs.Counts.{Tested, passed, shelf_words, count_in, test_row, test_shelf, row_in, Ready, cleared}
use Rattle.counts.proofs.Tests.{right_eight, shelf_right, passed_both, passed_ready, ready_passed, tested_alike}
use Rattle.counts.proofs.Cleared.{cleared_row, cleared_length, cleared_span}
use Rattle.checked.specs.Answers.{Reply, refusal, accepted}
use Rattle.checked.specs.Checked.{Checked, checked_of}
use Rattle.shelf.specs.Fetched.{fetch_in, on_job}
use Rattle.shelf.specs.Shelf.{forget_reply, Layout, rowed, layout_in, slot_from, span_of, span_in, size_of, on_society, from_society, kept_shelf, fetch_from, fetch_reply, forgot_shelf, forgot_reply}
use Rattle.shelf.specs.Calls.{Own, Call, keep, fetch, forget, own, clear, laid_after, laid_said, after, said, first_of, named_by, named, is, is_not, names, names_other}
use Rattle.shelf.proofs.Spans.{Lawful, own as its_own, other}
use Rattle.shelf.proofs.Rows.{rowed_lawful}
use Rattle.shelf.proofs.Answered.{said_passed, after_passed, said_refused, after_refused, clear_passed, clear_refused}
use Rattle.shelf.proofs.Sound.{Sound, accepted_sound, accepted_named}
use Rattle.claims.specs.Heard.{heard, without, sent, only_own}
use Rattle.claims.specs.LastKept.{ClearedWith}
use Rattle.claims.proofs.Steps.{keep_step, forget_step, kept_same, forgot_same, laid_length, laid_row}
use Rattle.packs.specs.Reading.{Outcome}

-- ---- a call names this society, or another, or none
not_other : (s : ℕ) (o : Option ℕ) → is s o ≡ true → is_not s o ≡ false
not_other s none n = refl
not_other s (some t) n = ap not n

pub not_this : (s : ℕ) (o : Option ℕ) → is_not s o ≡ true → is s o ≡ false
not_this s none n = refl
not_this s (some t) n = not-true (eqb t s) n

is_other : (s t : ℕ) (o : Option ℕ) → is s o ≡ true → (t ≡ s → ⊥) → is t o ≡ false
is_other s t none n d = refl
is_other s t (some r) n d = let q = eqb-true r s n in ne_eqb r t (λ e. d (sym e ∙ q))

-- an accepted pack names the society that its table is kept for
named_not : (s : ℕ) (job proposal : List ℕ) → is s (first_of (read_job job).words) ≡ false → accepted (checked_of job proposal).verdict ≡ true → s ≡ (checked_of job proposal).society → ⊥
named_not s job proposal n e q = eqb-false (checked_of job proposal).society s (sym (ap (is s) (accepted_named job proposal e)) ∙ n) (sym q)

named_this : (s : ℕ) (job proposal : List ℕ) → is_not s (first_of (read_job job).words) ≡ false → accepted (checked_of job proposal).verdict ≡ true → (checked_of job proposal).society ≡ s
named_this s job proposal n e =
    let t = (checked_of job proposal).society in
    eqb-true t s (not-false (eqb t s) (sym (ap (is_not s) (accepted_named job proposal e)) ∙ n))

-- ---- a call that does not name this society leaves its span
module _ (row : List ℕ) (right : test_row row ≡ passed) (s : ℕ) (m : s ≤ 7) (xs : List ℕ) (len : length xs ≡ shelf_words) where
  abbrev l : Layout
  l = rowed row

  ok : Lawful l
  ok = rowed_lawful row right

  kept_stays : (o : Checked) → (accepted o.verdict ≡ true → Sound o × (s ≡ o.society → ⊥)) → span_of l s (kept_shelf l o xs) ≡ span_of l s xs
  unfolding kept_shelf
  kept_stays o sound = go (accepted o.verdict) refl
    where
      go : (b : Bool) → accepted o.verdict ≡ b → span_of l s (cond b (on_society l o.society (keep_step l ok o) xs) xs) ≡ span_of l s xs
      go true e = other l ok o.society (keep_step l ok o) xs len (λ h. kept_same l ok o xs len (sound e).0) s m (sound e).1
      go false e = refl

  laid_stays : (call : Own) → is s (named_by call) ≡ false → span_of l s (laid_after l xs call) ≡ span_of l s xs
  unfolding forgot_shelf
  laid_stays (keep job proposal) n = kept_stays (checked_of job proposal) (λ e. (accepted_sound job proposal e, named_not s job proposal n e))
  laid_stays (fetch job room) n = refl
  laid_stays (forget t job) n = other l ok t (forget_step l ok t job) xs len (forgot_same l ok t job xs len) s m (λ q. eqb-false t s n (sym q))

-- ---- one that names no other society does to its span what that span and its count decide, wherever it starts
module _ (rx ry : List ℕ) (ex : test_row rx ≡ passed) (ey : test_row ry ≡ passed) (s : ℕ) (xs ys : List ℕ) (lx : length xs ≡ shelf_words) (ly : length ys ≡ shelf_words)
    (ec : count_in rx s ≡ count_in ry s) (a : s ≤ 7 → span_of (rowed rx) s xs ≡ span_of (rowed ry) s ys) where
  abbrev lx' : Layout
  lx' = rowed rx

  abbrev ly' : Layout
  ly' = rowed ry

  okx : Lawful lx'
  okx = rowed_lawful rx ex

  oky : Lawful ly'
  oky = rowed_lawful ry ey

  count_same : (t : ℕ) → t ≡ s → count_in rx t ≡ count_in ry t
  count_same t q = subst (λ (r : ℕ). count_in rx r ≡ count_in ry r) (sym q) ec

  spans : (t : ℕ) → t ≡ s → t ≤ 7 → span_of lx' t xs ≡ span_of ly' t ys
  spans t q h = subst (λ (r : ℕ). span_of lx' r xs ≡ span_of ly' r ys) (sym q) (a (subst (λ (r : ℕ). r ≤ 7) q h))

  on_same : (f : ℕ → List ℕ → List ℕ) (t : ℕ) → t ≡ s → (t ≤ 7 → length (f (count_in rx t) (span_of lx' t xs)) ≡ size_of lx' t) → (t ≤ 7 → length (f (count_in ry t) (span_of ly' t ys)) ≡ size_of ly' t)
      → s ≤ 7 → span_of lx' s (on_society lx' t (f (count_in rx t)) xs) ≡ span_of ly' s (on_society ly' t (f (count_in ry t)) ys)
  on_same f t q sx sy m =
      let h : t ≤ 7 = omega arith in
      subst (λ (r : ℕ). span_of lx' r (on_society lx' t (f (count_in rx t)) xs) ≡ span_of ly' r (on_society ly' t (f (count_in ry t)) ys)) q
      (its_own lx' okx t (f (count_in rx t)) xs lx sx h ∙ ap₂ f (count_same t q) (spans t q h) ∙ sym (its_own ly' oky t (f (count_in ry t)) ys ly sy h))

  keep_same : (o : Checked) → (accepted o.verdict ≡ true → Sound o × (o.society ≡ s)) → s ≤ 7 → span_of lx' s (kept_shelf lx' o xs) ≡ span_of ly' s (kept_shelf ly' o ys)
  unfolding kept_shelf
  keep_same o sound m = go (accepted o.verdict) refl
    where
      go : (b : Bool) → accepted o.verdict ≡ b
          → span_of lx' s (cond b (on_society lx' o.society (keep_step lx' okx o) xs) xs) ≡ span_of ly' s (cond b (on_society ly' o.society (keep_step ly' oky o) ys) ys)
      go true e =
          let k = sound e in
          on_same (λ c x. kept_in slot_words c o.job (slot_from lx' o) x) o.society k.1 (λ h. kept_same lx' okx o xs lx k.0) (λ h. kept_same ly' oky o ys ly k.0) m
      go false e = a m

  forget_same : (t job : ℕ) → t ≡ s → s ≤ 7 → span_of lx' s (forgot_shelf lx' t job xs) ≡ span_of ly' s (forgot_shelf ly' t job ys)
  unfolding forgot_shelf
  forget_same t job q m = on_same (λ c x. forgot_in slot_words c job x) t q (forgot_same lx' okx t job xs lx) (forgot_same ly' oky t job ys ly) m

  from_own : (t : ℕ) (f : ℕ → List ℕ → Reply) → t ≡ s → from_society lx' t (f (count_in rx t)) xs ≡ from_society ly' t (f (count_in ry t)) ys
  unfolding from_society
  from_own t f q = go (leb t 7) refl
    where
      go : (b : Bool) → leb t 7 ≡ b → cond b (f (count_in rx t) (span_of lx' t xs)) (refusal 11 0) ≡ cond b (f (count_in ry t) (span_of ly' t ys)) (refusal 11 0)
      go true e = ap₂ {C = Reply} f (count_same t q) (spans t q (leb-true t 7 e))
      go false e = refl

  laid_own : (call : Own) → is_not s (named_by call) ≡ false → s ≤ 7 → span_of lx' s (laid_after lx' xs call) ≡ span_of ly' s (laid_after ly' ys call)
  laid_own (keep job proposal) n m = keep_same (checked_of job proposal) (λ e. (accepted_sound job proposal e, named_this s job proposal n e)) m
  laid_own (fetch job room) n m = a m
  laid_own (forget t job) n m = forget_same t job (eqb-true t s (not-false (eqb t s) n)) m

  laid_told : (call : Own) → is s (named_by call) ≡ true → laid_said lx' xs call ≡ laid_said ly' ys call
  unfolding fetch_reply forgot_reply
  laid_told (keep job proposal) n = refl
  laid_told (fetch job room) n = go (read_job job).outcome refl
    where
      -- a pack that reads names its job's society
      named_own : (words : List ℤ) → is s (first_of words) ≡ true → (job_of words).society ≡ s
      named_own [] e = absurd (true≢false (sym e))
      named_own (word ∷ words) e = eqb-true (nat_abs word) s e

      go : (o : Outcome) → (read_job job).outcome ≡ o → on_job o (fetch_from lx' (job_of (read_job job).words) room xs) ≡ on_job o (fetch_from ly' (job_of (read_job job).words) room ys)
      go (Ok k) e =
          let j = job_of (read_job job).words in
          let q = named_own (read_job job).words n in
          ap₂ {C = Reply} (λ (c : ℕ) (x : List ℕ). fetch_in slot_words c j room x) (count_same j.society q) (spans j.society q (read_jobs_allowed job k e).society)
      go (Err r) e = refl
  laid_told (forget t job) n = from_own t (λ c x. forget_reply slot_words c job x) (eqb-true t s n)

-- ---- on any words: the test of the shelf refuses it, or it is ready
by_test : (xs : List ℕ) (P : Type 0) → (Ready xs → P) → ((r : Refusal) → test_shelf (row_in xs) xs ≡ Err r → P) → P
by_test xs P k b = go (test_shelf (row_in xs) xs) refl
  where
    go : (o : Tested) → test_shelf (row_in xs) xs ≡ o → P
    go (Ok u) e = k (passed_ready xs e)
    go (Err r) e = b r e

after_ready : (xs : List ℕ) → Ready xs → (call : Own) → laid_after (layout_in xs) xs call ≡ after xs (own call)
after_ready xs r call = after_passed xs call (ready_passed xs r)

-- the row stays
pub row_of_lem : (call : Own) (xs : List ℕ) → row_in (after xs (own call)) ≡ row_in xs
row_of_lem call xs =
    by_test xs (row_in (after xs (own call)) ≡ row_in xs)
    (λ r. ap row_in (sym (after_ready xs r call)) ∙ laid_row (row_in xs) r.row call xs r.long)
    (λ r e. ap row_in (sym (after_refused xs call r e)))

length_of : (call : Own) (xs : List ℕ) → length (after xs (own call)) ≡ length xs
length_of call xs =
    by_test xs (length (after xs (own call)) ≡ length xs)
    (λ r. ap length (sym (after_ready xs r call)) ∙ laid_length (layout_in xs) (rowed_lawful (row_in xs) r.row) call xs r.long ∙ sym r.long)
    (λ r e. ap length (sym (after_refused xs call r e)))

-- the span by the row as it was
span_of_lem : (s : ℕ) (call : Own) (xs : List ℕ) → span_in s (after xs (own call)) ≡ span_of (layout_in xs) s (after xs (own call))
span_of_lem s call xs = ap (λ (r : List ℕ). span_of (rowed r) s (after xs (own call))) (row_of_lem call xs)

-- a call that does not name the society leaves its span
stays : (s : ℕ) → s ≤ 7 → (call : Own) → is s (named_by call) ≡ false → (xs : List ℕ) → span_in s (after xs (own call)) ≡ span_in s xs
stays s m call n xs =
    span_of_lem s call xs ∙ by_test xs (span_of (layout_in xs) s (after xs (own call)) ≡ span_in s xs)
    (λ r. ap (span_of (layout_in xs) s) (sym (after_ready xs r call)) ∙ laid_stays (row_in xs) r.row s m xs r.long call n)
    (λ r e. ap (span_of (layout_in xs) s) (sym (after_refused xs call r e)))

pub others_stay : (society : ℕ) (call : Own) → names society (own call) ≡ true → (xs : List ℕ) (neighbour : ℕ) → neighbour ≤ 7 → (neighbour ≡ society → ⊥)
    → span_in neighbour (after xs (own call)) ≡ span_in neighbour xs
others_stay s call n xs t h d = stays t h call (is_other s t (named_by call) n d) xs

-- ---- two shelves that are ready
module _ (s : ℕ) (xs ys : List ℕ) (x : Ready xs) (y : Ready ys) (ec : count_in (row_in xs) s ≡ count_in (row_in ys) s) (a : s ≤ 7 → span_in s xs ≡ span_in s ys) where
  told_ready : (call : Own) → is s (named_by call) ≡ true → said xs (own call) ≡ said ys (own call)
  told_ready call n =
      sym (said_passed xs call (ready_passed xs x)) ∙ laid_told (row_in xs) (row_in ys) x.row y.row s xs ys x.long y.long ec a call n ∙ said_passed ys call (ready_passed ys y)

  span_ready : (call : Own) → is_not s (named_by call) ≡ false → s ≤ 7 → span_in s (after xs (own call)) ≡ span_in s (after ys (own call))
  span_ready call n m =
      span_of_lem s call xs ∙ ap (span_of (layout_in xs) s) (sym (after_ready xs x call))
      ∙ laid_own (row_in xs) (row_in ys) x.row y.row s xs ys x.long y.long ec a call n m
      ∙ ap (span_of (layout_in ys) s) (after_ready ys y call) ∙ sym (span_of_lem s call ys)

pub alone_call : (society : ℕ) → society ≤ 7 → (call : Own) → names society (own call) ≡ true
    → (xs ys : List ℕ) → Ready xs → Ready ys → count_in (row_in xs) society ≡ count_in (row_in ys) society → span_in society xs ≡ span_in society ys
    → (said xs (own call) ≡ said ys (own call)) × (span_in society (after xs (own call)) ≡ span_in society (after ys (own call)))
alone_call s m call n xs ys x y ec a = (told_ready s xs ys x y ec (λ h. a) call n, span_ready s xs ys x y ec (λ h. a) call (not_other s (named_by call) n) m)

-- ---- a shelf just cleared is ready, its row is the counts, and its spans are zeros
record Fresh (s : ℕ) (counts shelf : List ℕ) : Type 0 where
  ready : Ready shelf
  its_row : row_in shelf ≡ row_in counts
  span : s ≤ 7 → span_in s shelf ≡ replicate (slot_words * count_in (row_in counts) s) 0

fresh_cleared : (s : ℕ) (counts old : List ℕ) → length old ≡ shelf_words → test_row (row_in counts) ≡ passed → Fresh s counts (cleared (row_in counts) old)
fresh_cleared s counts old len e =
    let row = row_in counts in
    let eight = right_eight counts e in
    let front = cleared_row row eight e old len in
    record {
      ready = record { long = cleared_length row eight e old len; row = ap {B = Tested} test_row front ∙ e };
      its_row = front;
      span = λ m. ap (λ (r : List ℕ). span_of (rowed r) s (cleared row old)) front ∙ cleared_span row eight e old len s (omega arith);
    }

-- ---- two shelves of one length with one row and one span, whatever they are
pub record Alike (s : ℕ) (xs ys : List ℕ) : Type 0 where
  pub long : length xs ≡ length ys
  pub row : row_in xs ≡ row_in ys
  pub span : s ≤ 7 → span_in s xs ≡ span_in s ys

module _ (s : ℕ) (xs ys : List ℕ) (k : Alike s xs ys) where
  other_alike : (call : Own) → is s (named_by call) ≡ false → Alike s (after xs (own call)) ys
  other_alike call n = record { long = length_of call xs ∙ k.long; row = row_of_lem call xs ∙ k.row; span = λ h. stays s h call n xs ∙ k.span h }

  -- the other shelf is tested alike
  tested : {o : Tested} → test_shelf (row_in xs) xs ≡ o → test_shelf (row_in ys) ys ≡ o
  tested e = sym (tested_alike (row_in ys) xs ys k.long) ∙ ap {B = Tested} (λ (r : List ℕ). test_shelf r xs) (sym k.row) ∙ e

  also_ready : Ready xs → Ready ys
  also_ready r = passed_ready ys (tested (ready_passed xs r))

  same_count : count_in (row_in xs) s ≡ count_in (row_in ys) s
  same_count = ap (λ (r : List ℕ). count_in r s) k.row

  own_span : (call : Own) → is_not s (named_by call) ≡ false → s ≤ 7 → span_in s (after xs (own call)) ≡ span_in s (after ys (own call))
  own_span call n m =
      by_test xs (span_in s (after xs (own call)) ≡ span_in s (after ys (own call)))
      (λ r. span_ready s xs ys r (also_ready r) same_count k.span call n m)
      (λ r e. ap (span_in s) (sym (after_refused xs call r e)) ∙ k.span m ∙ ap (span_in s) (after_refused ys call r (tested e)))

  own_alike : (call : Own) → is_not s (named_by call) ≡ false → Alike s (after xs (own call)) (after ys (own call))
  own_alike call n = record {
    long = length_of call xs ∙ k.long ∙ sym (length_of call ys);
    row = row_of_lem call xs ∙ k.row ∙ sym (row_of_lem call ys);
    span = own_span call n;
  }

  own_told : (call : Own) → is s (named_by call) ≡ true → said xs (own call) ≡ said ys (own call)
  own_told call n =
      by_test xs (said xs (own call) ≡ said ys (own call))
      (λ r. told_ready s xs ys r (also_ready r) same_count k.span call n)
      (λ r e. sym (said_refused xs call r e) ∙ said_refused ys call r (tested e))

  -- clearing
  clear_alike : (counts : List ℕ) → Alike s (after xs (clear counts)) (after ys (clear counts))
  clear_alike counts = go (test_shelf (row_in counts) xs) refl
    where
      row : List ℕ
      row = row_in counts

      also : {o : Tested} → test_shelf row xs ≡ o → test_shelf row ys ≡ o
      also e = sym (tested_alike row xs ys k.long) ∙ e

      go : (o : Tested) → test_shelf row xs ≡ o → Alike s (after xs (clear counts)) (after ys (clear counts))
      go (Ok u) e =
          let fx = fresh_cleared s counts xs (passed_both row xs e).0 (passed_both row xs e).1 in
          let fy = fresh_cleared s counts ys (passed_both row ys (also e)).0 (passed_both row xs e).1 in
          subst (λ (zs : List ℕ). Alike s zs (after ys (clear counts))) (clear_passed xs counts e).1
          (subst (λ (zs : List ℕ). Alike s (cleared row xs) zs) (clear_passed ys counts (also e)).1 (record {
            long = fx.ready.long ∙ sym fy.ready.long;
            row = fx.its_row ∙ sym fy.its_row;
            span = λ h. fx.span h ∙ sym (fy.span h);
          }))
      go (Err r) e =
          subst (λ (zs : List ℕ). Alike s zs (after ys (clear counts))) (clear_refused xs counts r e).1
          (subst (λ (zs : List ℕ). Alike s xs zs) (clear_refused ys counts r (also e)).1 k)

  pub stays_alike : (call : Call) → names_other s call ≡ false → Alike s (after xs call) (after ys call)
  stays_alike (own call) n = own_alike call n
  stays_alike (clear counts) n = clear_alike counts

  pub left_alike : (call : Call) → names_other s call ≡ true → Alike s (after xs call) ys
  left_alike (own call) n = other_alike call (not_this s (named_by call) n)
  left_alike (clear counts) n = absurd (true≢false (sym n))

  pub told_alike : (call : Call) → names s call ≡ true → said xs call ≡ said ys call
  told_alike (own call) n = own_told call n
  told_alike (clear counts) n = absurd (true≢false (sym n))

-- ---- sequences
run_same : (s : ℕ) (calls : List Call) (xs ys : List ℕ) → Alike s xs ys → heard s xs calls ≡ heard s ys (without s calls)
run_same s [] xs ys k = refl
run_same s (call ∷ calls) xs ys k =
    go (names_other s call) refl
    (λ n. run_same s calls (after xs call) ys (left_alike s xs ys k call n))
    (λ n. run_same s calls (after xs call) (after ys call) (stays_alike s xs ys k call n))
  where
    -- a call that stays
    kept : (o : Bool) → names s call ≡ o → heard s (after xs call) calls ≡ heard s (after ys call) (without s calls)
        → cond o (said xs call ∷ heard s (after xs call) calls) (heard s (after xs call) calls)
        ≡ cond o (said ys call ∷ heard s (after ys call) (without s calls)) (heard s (after ys call) (without s calls))
    kept true n e = ap (λ (r : Reply). r ∷ heard s (after xs call) calls) (told_alike s xs ys k call n) ∙ ap (λ (rs : List Reply). said ys call ∷ rs) e
    kept false n e = e

    go : (b : Bool) → names_other s call ≡ b → (names_other s call ≡ true → heard s (after xs call) calls ≡ heard s ys (without s calls))
        → (names_other s call ≡ false → heard s (after xs call) calls ≡ heard s (after ys call) (without s calls))
        → heard s xs (call ∷ calls) ≡ heard s ys (cond b (without s calls) (call ∷ without s calls))
    go true n p q = ap (λ (o : Bool). cond o (said xs call ∷ heard s (after xs call) calls) (heard s (after xs call) calls)) (not_this s (named call) n) ∙ p n
    go false n p q = kept (names s call) refl (q n)

pub alone : (society : ℕ) (calls : List Call) (xs : List ℕ) → heard society xs calls ≡ heard society xs (without society calls)
alone society calls xs = run_same society calls xs xs (record { long = refl; row = refl; span = λ h. refl })

-- ---- two shelves that are ready, with one count and one span of the society, whatever else they are
pub record Near (s : ℕ) (xs ys : List ℕ) : Type 0 where
  pub x : Ready xs
  pub y : Ready ys
  pub count : count_in (row_in xs) s ≡ count_in (row_in ys) s
  pub span : span_in s xs ≡ span_in s ys

ready_after : (call : Own) (xs : List ℕ) → Ready xs → Ready (after xs (own call))
ready_after call xs r = record { long = length_of call xs ∙ r.long; row = ap {B = Tested} test_row (row_of_lem call xs) ∙ r.row }

count_after : (s : ℕ) (call : Own) (xs : List ℕ) → count_in (row_in (after xs (own call))) s ≡ count_in (row_in xs) s
count_after s call xs = ap (λ (r : List ℕ). count_in r s) (row_of_lem call xs)

module _ (s : ℕ) (m : s ≤ 7) (xs ys : List ℕ) (k : Near s xs ys) (call : Own) where
  pub told_near : names s (own call) ≡ true → said xs (own call) ≡ said ys (own call)
  told_near n = told_ready s xs ys k.x k.y k.count (λ h. k.span) call n

  pub own_near : names s (own call) ≡ true → Near s (after xs (own call)) (after ys (own call))
  own_near n = record {
    x = ready_after call xs k.x;
    y = ready_after call ys k.y;
    count = count_after s call xs ∙ k.count ∙ sym (count_after s call ys);
    span = span_ready s xs ys k.x k.y k.count (λ h. k.span) call (not_other s (named_by call) n) m;
  }

  pub other_near : names s (own call) ≡ false → Near s (after xs (own call)) ys
  other_near n = record { x = ready_after call xs k.x; y = k.y; count = count_after s call xs ∙ k.count; span = stays s m call n xs ∙ k.span }

own_run : (s : ℕ) → s ≤ 7 → (calls : List Own) (xs ys : List ℕ) → Near s xs ys → heard s xs (sent calls) ≡ heard s ys (sent (only_own s calls))
own_run s m [] xs ys k = refl
own_run s m (call ∷ calls) xs ys k =
    go (names s (own call)) refl
    (λ n. own_run s m calls (after xs (own call)) (after ys (own call)) (own_near s m xs ys k call n))
    (λ n. own_run s m calls (after xs (own call)) ys (other_near s m xs ys k call n))
  where
    go : (b : Bool) → names s (own call) ≡ b → (names s (own call) ≡ true → heard s (after xs (own call)) (sent calls) ≡ heard s (after ys (own call)) (sent (only_own s calls)))
        → (names s (own call) ≡ false → heard s (after xs (own call)) (sent calls) ≡ heard s ys (sent (only_own s calls)))
        → cond b (said xs (own call) ∷ heard s (after xs (own call)) (sent calls)) (heard s (after xs (own call)) (sent calls))
        ≡ heard s ys (sent (cond b (call ∷ only_own s calls) (only_own s calls)))
    go true n p q =
        ap (λ (r : Reply). r ∷ heard s (after xs (own call)) (sent calls)) (told_near s m xs ys k call n)
        ∙ ap (λ (rs : List Reply). said ys (own call) ∷ rs) (p n)
        ∙ sym (ap (λ (o : Bool). cond o (said ys (own call) ∷ heard s (after ys (own call)) (sent (only_own s calls))) (heard s (after ys (own call)) (sent (only_own s calls)))) n)
    go false n p q = q n

fresh : (s : ℕ) (counts shelf : List ℕ) → ClearedWith counts shelf → Fresh s counts shelf
fresh s counts shelf from =
    subst (Fresh s counts) ((clear_passed from.before counts (shelf_right (row_in counts) from.before from.long from.allowed)).1 ∙ sym from.is) (fresh_cleared s counts from.before from.long from.allowed)

pub cleared_of : (counts shelf : List ℕ) → ClearedWith counts shelf
    → (row_in shelf ≡ row_in counts) × ((society : ℕ) → society ≤ 7 → span_in society shelf ≡ replicate (slot_words * count_in (row_in counts) society) 0)
cleared_of counts shelf from = ((fresh 0 counts shelf from).its_row, λ s m. (fresh s counts shelf from).span m)

module _ (s : ℕ) (m : s ≤ 7) (counts others xs ys : List ℕ) (cx : ClearedWith counts xs) (cy : ClearedWith others ys) (ec : count_in (row_in counts) s ≡ count_in (row_in others) s) where
  pub near_cleared : Near s xs ys
  near_cleared =
      let fx = fresh s counts xs cx in
      let fy = fresh s others ys cy in
      let cut : (row : List ℕ) → ℕ = λ row. count_in row s in
      record {
        x = fx.ready;
        y = fy.ready;
        count = ap cut fx.its_row ∙ ec ∙ sym (ap cut fy.its_row);
        span = fx.span m ∙ ap (λ (c : ℕ). replicate (slot_words * c) 0) ec ∙ sym (fy.span m);
      }

  pub near_itself : Near s ys ys
  near_itself = let r = (fresh s others ys cy).ready in record { x = r; y = r; count = refl; span = refl }

pub own_decide : (society : ℕ) → society ≤ 7 → (counts others xs ys : List ℕ) → ClearedWith counts xs → ClearedWith others ys → count_in (row_in counts) society ≡ count_in (row_in others) society
    → (calls more : List Own) → only_own society calls ≡ only_own society more → heard society xs (sent calls) ≡ heard society ys (sent more)
own_decide s m counts others xs ys cx cy ec calls more e =
    own_run s m calls xs ys (near_cleared s m counts others xs ys cx cy ec)
    ∙ ap (λ (own-calls : List Own). heard s ys (sent own-calls)) e
    ∙ sym (own_run s m more ys ys (near_itself s m counts others xs ys cx cy ec))
