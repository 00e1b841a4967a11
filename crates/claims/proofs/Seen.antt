-- What C sees of a sequence: each call's claim fixes what is seen and the shelf that is left, so a sequence is one run of `said` and `after`, in which a
-- call without four words for its answer does nothing. What holds of one call on a shelf then holds all along.
use Prim.Native.Nat.{ℕ, ◌≤◌}
use mathlib.Core.Path.{◌≡◌, refl, sym, ap, ap₂, ◌∙◌, subst}
use mathlib.Core.Bool.{Bool, true, false, cond}
use mathlib.Core.List.{List, [], ◌∷◌}
use lib.Dec.{leb}
use lib.ListN.{length}
use Rattle.std.specs.Prelude.{if◌then◌else◌}
use Rattle.std.specs.Prelude.{Option, Some, None}
use Rattle.slots.specs.Slots.{lowest, has_job, at_slot}
use Rattle.checked.specs.Answers.{Reply, refusal, done, overwritten}
use Rattle.std.specs.Prelude.{Ok, Err}
use Rattle.counts.specs.Counts.{Tested, passed, shelf_words, count_in, test_row, on_row, test_shelf, on_tested, row_in, cleared}
use Rattle.counts.proofs.Tests.{shelf_right}
use Rattle.shelf.specs.Shelf.{forget_reply, Layout, layout_in, span_of, from_society, keep_reply, forgot_reply}
use Rattle.checked.specs.Checked.{checked_of}
use Rattle.shelf.specs.Calls.{Own, Call, keep, fetch, forget, own, clear, named, names, names_other, after, said}
use Rattle.shelf.proofs.Answered.{clear_passed}
use Rattle.bench.specs.Answers.{has_four, left_for, Says}
use Rattle.claims.specs.Lists.{Kept, emptied, kept_after}
use Rattle.claims.specs.Seen.{Made, keeps, fetches, forgets, clears, call_of, answer_lent, Seen, Makes, MakesAll, seen_of, lists_left, lists_seen, without_others, own_seen, own_made, NoClearing}
use Rattle.claims.specs.LastKept.{ClearedWith}
use Rattle.claims.proofs.EightLists.{Stands, cleared_stands, stands_after, stands_said}
use Rattle.claims.proofs.NoNeighbour.{not_this, Alike, stays_alike, left_alike, told_alike, Near, told_near, own_near, other_near, near_cleared, near_itself}

-- ---- keep, forget and clear hand out no values
abbrev NoValues : Reply → Type 0
NoValues r = r.values ≡ []

tested_none : (o : Tested) (r : Reply) → NoValues r → NoValues (on_tested o r refusal)
tested_none (Ok u) r h = h
tested_none (Err x) r h = refl

keep_none : (job proposal : List ℕ) → NoValues (keep_reply (checked_of job proposal))
unfolding keep_reply
keep_none job proposal = refl

forget_none : (l : Layout) (society job : ℕ) (shelf : List ℕ) → NoValues (forgot_reply l society job shelf)
unfolding forgot_reply from_society forget_reply
forget_none l society job shelf = go (leb society 7)
  where
    by : Option ℕ → Reply
    by o = at_slot o (λ p. done) (refusal 12 0)

    each : (o : Option ℕ) → NoValues (by o)
    each (Some p) = refl
    each None = refl

    found : Option ℕ
    found = lowest (has_job job) l.words (l.count society) (span_of l society shelf)

    go : (b : Bool) → NoValues (cond b (by found) (refusal 11 0))
    go true = each found
    go false = refl

-- ---- what a call's claim fixes
abbrev left_on : (shelf : List ℕ) → Made → List ℕ
left_on shelf made = left_for (answer_lent made) shelf (after shelf (call_of made))

record Fixed (made : Made) (shelf : List ℕ) (seen : Seen) (left : List ℕ) : Type 0 where
  seen_is : seen ≡ seen_of made (said shelf (call_of made))
  left_is : left ≡ left_on shelf made

-- a fetch leaves the shelf
fetch_leaves : (job : List ℕ) (room : ℕ) (shelf answer : List ℕ) → left_for answer shelf (after shelf (own (fetch job room))) ≡ shelf
fetch_leaves job room shelf answer = go (has_four answer) (test_shelf (row_in shelf) shelf)
  where
    go : (b : Bool) (o : Tested) → (if b then on_tested o shelf (λ number place. shelf) else shelf) ≡ shelf
    go true (Ok u) = refl
    go true (Err r) = refl
    go false o = refl

fetch_fixes : (job out answer shelf : List ℕ) (seen : Seen) (left : List ℕ) → Makes (fetches job out answer) shelf seen left → Fixed (fetches job out answer) shelf seen left
fetch_fixes job out answer shelf seen left m = record {
  seen_is = λ i. record { returned = m.0.returns i; answered = m.0.answers i; out = m.0.leaves i };
  left_is = m.1 ∙ sym (fetch_leaves job (length out) shelf answer);
}

-- the calls without an output are seen alike
no_output : (r : Reply) (counts answer shelf ys : List ℕ) (seen : Seen) (left : List ℕ) → Says r.answer answer shelf ys seen.returned seen.answered left
    → seen.out ≡ [] → NoValues r → seen ≡ seen_of (clears counts answer) r
no_output r counts answer shelf ys seen left says e none = λ i. record { returned = says.returns i; answered = says.answers i; out = out i }
  where
    go : (b : Bool) → (if b then overwritten [] r.values else []) ≡ []
    go true = ap (overwritten []) none
    go false = refl

    out : seen.out ≡ left_for answer [] (overwritten [] r.values)
    out = e ∙ sym (go (has_four answer))

makes_fixes : (made : Made) (shelf : List ℕ) (seen : Seen) (left : List ℕ) → Makes made shelf seen left → Fixed made shelf seen left
makes_fixes (fetches job out answer) shelf seen left m = fetch_fixes job out answer shelf seen left m
makes_fixes (keeps job proposal answer) shelf seen left m =
    let call = own (keep job proposal) in
    record {
      seen_is = no_output (said shelf call) [] answer shelf (after shelf call) seen left m.0 m.1 (tested_none (test_shelf (row_in shelf) shelf) _ (keep_none job proposal));
      left_is = m.0.leaves;
    }
makes_fixes (forgets society job answer) shelf seen left m =
    let call = own (forget society job) in
    record {
      seen_is = no_output (said shelf call) [] answer shelf (after shelf call) seen left m.0 m.1 (tested_none (test_shelf (row_in shelf) shelf) _ (forget_none (layout_in shelf) society job shelf));
      left_is = m.0.leaves;
    }
makes_fixes (clears counts answer) shelf seen left m =
    let call = clear counts in
    record {
      seen_is = no_output (said shelf call) counts answer shelf (after shelf call) seen left m.0 m.1 (tested_none (test_shelf (row_in counts) shelf) done refl);
      left_is = m.0.leaves;
    }

-- ---- a sequence as one run
abbrev pub shelf_seen : (shelf : List ℕ) → List Made → List Seen
shelf_seen shelf [] = []
shelf_seen shelf (made ∷ mades) = seen_of made (said shelf (call_of made)) ∷ shelf_seen (left_on shelf made) mades

pub run_seen : (mades : List Made) (shelf : List ℕ) (seens : List Seen) → MakesAll mades shelf seens → seens ≡ shelf_seen shelf mades
run_seen [] shelf seens m = m
run_seen (made ∷ mades) shelf [] m = absurd m
run_seen (made ∷ mades) shelf (seen ∷ seens) m =
    let k = makes_fixes made shelf seen m.0 m.1 in
    let rest = subst (λ (x : List ℕ). MakesAll mades x seens) k.left_is m.2 in
    ap₂ (λ (s : Seen) (ss : List Seen). s ∷ ss) k.seen_is (run_seen mades (left_on shelf made) seens rest)

-- ---- eight lists
stands_left : (made : Made) (xs : List ℕ) (k : Kept) → Stands xs k → Stands (left_on xs made) (lists_left k made)
stands_left made xs k st = go (has_four (answer_lent made))
  where
    go : (b : Bool) → Stands (if b then after xs (call_of made) else xs) (if b then kept_after k (call_of made) else k)
    go true = stands_after xs k st (call_of made)
    go false = st

stands_seen : (mades : List Made) (xs : List ℕ) (k : Kept) → Stands xs k → shelf_seen xs mades ≡ lists_seen k mades
stands_seen [] xs k st = refl
stands_seen (made ∷ mades) xs k st =
    ap₂ (λ (s : Seen) (ss : List Seen). s ∷ ss) (ap (seen_of made) (stands_said xs k st (call_of made)))
    (stands_seen mades (left_on xs made) (lists_left k made) (stands_left made xs k st))

-- a clearing leaves the cleared shelf, and no list has a table
pub lists_seen_lem : (shelf counts answer : List ℕ) → length shelf ≡ shelf_words → test_row (row_in counts) ≡ passed → has_four answer ≡ true → (mades : List Made)
    → shelf_seen shelf (clears counts answer ∷ mades) ≡ lists_seen (emptied counts) (clears counts answer ∷ mades)
lists_seen_lem shelf counts answer len right four mades =
    let clearing = clear_passed shelf counts (shelf_right (row_in counts) shelf len right) in
    let left : left_on shelf (clears counts answer) ≡ cleared (row_in counts) shelf = ap (λ (b : Bool). if b then after shelf (clear counts) else shelf) four ∙ sym clearing.1 in
    let lists : lists_left (emptied counts) (clears counts answer) ≡ emptied counts =
    ap {B = Kept} (λ (b : Bool). if b then kept_after (emptied counts) (clear counts) else emptied counts) four ∙ ap {B = Kept} (λ (o : Tested). on_row o (emptied counts) (λ place. emptied counts)) right in
    let says : said shelf (clear counts) ≡ on_row (test_row (row_in counts)) done (λ place. refusal 22 place) =
    sym clearing.0 ∙ sym (ap {B = Reply} (λ (o : Tested). on_row o done (λ place. refusal 22 place)) right) in
    ap₂ (λ (s : Seen) (ss : List Seen). s ∷ ss) (ap (seen_of (clears counts answer)) says)
    (ap (λ (x : List ℕ). shelf_seen x mades) left ∙ stands_seen mades (cleared (row_in counts) shelf) (emptied counts) (cleared_stands counts shelf right len)
    ∙ ap (λ (k : Kept). lists_seen k mades) (sym lists))

-- ---- no neighbour
module _ (s : ℕ) (xs ys : List ℕ) (k : Alike s xs ys) (made : Made) where
  left_left : names_other s (call_of made) ≡ true → Alike s (left_on xs made) ys
  left_left n = go (has_four (answer_lent made))
    where
      go : (b : Bool) → Alike s (if b then after xs (call_of made) else xs) ys
      go true = left_alike s xs ys k (call_of made) n
      go false = k

  left_own : names_other s (call_of made) ≡ false → Alike s (left_on xs made) (left_on ys made)
  left_own n = go (has_four (answer_lent made))
    where
      go : (b : Bool) → Alike s (if b then after xs (call_of made) else xs) (if b then after ys (call_of made) else ys)
      go true = stays_alike s xs ys k (call_of made) n
      go false = k

seen_same : (s : ℕ) (mades : List Made) (xs ys : List ℕ) → Alike s xs ys → own_seen s mades (shelf_seen xs mades) ≡ own_seen s (without_others s mades) (shelf_seen ys (without_others s mades))
seen_same s [] xs ys k = refl
seen_same s (made ∷ mades) xs ys k =
    go (names_other s call) refl
    (λ n. seen_same s mades (left_on xs made) ys (left_left s xs ys k made n))
    (λ n. seen_same s mades (left_on xs made) (left_on ys made) (left_own s xs ys k made n))
  where
    call : Call
    call = call_of made

    its : (shelf : List ℕ) → List Made → List Seen
    its shelf others = own_seen s others (shelf_seen shelf others)

    -- a call that is not left out
    stays : (o : Bool) → names s call ≡ o → its (left_on xs made) mades ≡ its (left_on ys made) (without_others s mades)
        → cond o (seen_of made (said xs call) ∷ its (left_on xs made) mades) (its (left_on xs made) mades)
        ≡ cond o (seen_of made (said ys call) ∷ its (left_on ys made) (without_others s mades)) (its (left_on ys made) (without_others s mades))
    stays true n e = ap₂ (λ (r : Seen) (rs : List Seen). r ∷ rs) (ap (seen_of made) (told_alike s xs ys k call n)) e
    stays false n e = e

    go : (b : Bool) → names_other s call ≡ b → (names_other s call ≡ true → its (left_on xs made) mades ≡ its ys (without_others s mades))
        → (names_other s call ≡ false → its (left_on xs made) mades ≡ its (left_on ys made) (without_others s mades))
        → its xs (made ∷ mades) ≡ its ys (cond b (without_others s mades) (made ∷ without_others s mades))
    go true n p q = ap (λ (o : Bool). cond o (seen_of made (said xs call) ∷ its (left_on xs made) mades) (its (left_on xs made) mades)) (not_this s (named call) n) ∙ p n
    go false n p q = stays (names s call) refl (q n)

pub alone_seen : (society : ℕ) (mades : List Made) (xs : List ℕ)
    → own_seen society mades (shelf_seen xs mades) ≡ own_seen society (without_others society mades) (shelf_seen xs (without_others society mades))
alone_seen society mades xs = seen_same society mades xs xs (record { long = refl; row = refl; span = λ h. refl })

-- ---- own calls and own count
module _ (s : ℕ) (m : s ≤ 7) (xs ys : List ℕ) (k : Near s xs ys) (made : Made) (call : Own) (e : call_of made ≡ own call) where
  -- the call that was made is the society's own, or another's
  named_so : (b : Bool) → names s (call_of made) ≡ b → names s (own call) ≡ b
  named_so b n = ap (names s) (sym e) ∙ n

  near_told : names s (call_of made) ≡ true → said xs (call_of made) ≡ said ys (call_of made)
  near_told n = ap {B = Reply} (said xs) e ∙ told_near s m xs ys k call (named_so true n) ∙ ap {B = Reply} (said ys) (sym e)

  near_own : names s (call_of made) ≡ true → Near s (left_on xs made) (left_on ys made)
  near_own n = go (has_four (answer_lent made))
    where
      go : (b : Bool) → Near s (if b then after xs (call_of made) else xs) (if b then after ys (call_of made) else ys)
      go true = subst (λ (c : Call). Near s (after xs c) (after ys c)) (sym e) (own_near s m xs ys k call (named_so true n))
      go false = k

  near_other : names s (call_of made) ≡ false → Near s (left_on xs made) ys
  near_other n = go (has_four (answer_lent made))
    where
      go : (b : Bool) → Near s (if b then after xs (call_of made) else xs) ys
      go true = subst (λ (c : Call). Near s (after xs c) ys) (sym e) (other_near s m xs ys k call (named_so false n))
      go false = k

seen_near : (s : ℕ) → s ≤ 7 → (mades : List Made) → NoClearing mades → (xs ys : List ℕ) → Near s xs ys → own_seen s mades (shelf_seen xs mades) ≡ own_seen s (own_made s mades) (shelf_seen ys (own_made s mades))
seen_near s m [] none xs ys k = refl
seen_near s m (made ∷ mades) none xs ys k =
    go (names s (call_of made)) refl
    (λ n. seen_near s m mades none.2 (left_on xs made) (left_on ys made) (near_own s m xs ys k made none.0 none.1 n))
    (λ n. seen_near s m mades none.2 (left_on xs made) ys (near_other s m xs ys k made none.0 none.1 n))
  where
    its : (shelf : List ℕ) → List Made → List Seen
    its shelf others = own_seen s others (shelf_seen shelf others)

    seen : (shelf : List ℕ) → Seen
    seen shelf = seen_of made (said shelf (call_of made))

    go : (b : Bool) → names s (call_of made) ≡ b → (names s (call_of made) ≡ true → its (left_on xs made) mades ≡ its (left_on ys made) (own_made s mades))
        → (names s (call_of made) ≡ false → its (left_on xs made) mades ≡ its ys (own_made s mades))
        → cond b (seen xs ∷ its (left_on xs made) mades) (its (left_on xs made) mades) ≡ its ys (cond b (made ∷ own_made s mades) (own_made s mades))
    go true n p q =
        ap₂ (λ (r : Seen) (rs : List Seen). r ∷ rs) (ap (seen_of made) (near_told s m xs ys k made none.0 none.1 n)) (p n)
        ∙ sym (ap (λ (o : Bool). cond o (seen ys ∷ its (left_on ys made) (own_made s mades)) (its (left_on ys made) (own_made s mades))) n)
    go false n p q = q n

pub decided_seen : (society : ℕ) → society ≤ 7 → (counts others xs ys : List ℕ) → ClearedWith counts xs → ClearedWith others ys → count_in (row_in counts) society ≡ count_in (row_in others) society
    → (mades more : List Made) → NoClearing mades → NoClearing more → own_made society mades ≡ own_made society more
    → own_seen society mades (shelf_seen xs mades) ≡ own_seen society more (shelf_seen ys more)
decided_seen s m counts others xs ys cx cy ec mades more a b e =
    seen_near s m mades a xs ys (near_cleared s m counts others xs ys cx cy ec)
    ∙ ap (λ (own-calls : List Made). own_seen s own-calls (shelf_seen ys own-calls)) e
    ∙ sym (seen_near s m more b ys ys (near_itself s m counts others xs ys cx cy ec))
