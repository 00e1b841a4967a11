-- A span as a list of tables: they are laid out in order, then zeros. Each move of slots is the list's own step, for any words w of a slot and any count c of slots.
use mathlib.Core.Path.{◌≡◌, refl, sym, ap, ap₂, ◌∙◌}
use mathlib.Core.Bool.{Bool, true, false, cond, not, ◌&&◌, ◌||◌}
use mathlib.Core.List.{List, [], ◌∷◌, ◌++◌, append-nil, append_assoc}
use Prim.Native.Nat.{ℕ, zero, suc, ◌+◌, ◌-◌, ◌*◌, ◌<◌, ◌≤◌, zero-le}
use native.Mathlib.Omega.{arith}
use lib.Dec.{eqb, ltb}
use lib.ListN.{length, take, drop, get_or, replicate, length-append, length-replicate}
use lib.Seq.{take_at, drop_at}
use borrow.Author.Tests.{le-leb, ltb-true, ltb-false}
use Rattle.jobs.specs.Job.{Job}
use Rattle.std.specs.Prelude.{Option, Some, None}
use Rattle.slots.specs.Slots.{most_cells, most_links, head_size, values_end, slot_words, head_of, padded, slot_of, is_full, is_empty, has_job, lowest, pick, later, or_else, at_slot, put_slot, dropped_slot, pushed, slot_for, kept_in, forgot_in}
use Rattle.checked.specs.Answers.{Reply, refusal, done}
use Rattle.shelf.specs.Shelf.{forget_reply}
use Rattle.shelf.specs.Fetched.{fetch_table, fetch_at, fetch_in}
use Rattle.slots.proofs.Stored.{padded_length}
use Rattle.slots.proofs.Steps.{slot_length, drop_first, put_first, put_next, lowest_step, replaced_in, forgot_step, replaced_step}
use Rattle.shelf.proofs.Picked.{forget_reply_step, fetch_step}
use Rattle.claims.specs.Lists.{Table, is_of, holds, replaced, removed, youngest, kept, table_for, fetched, forgotten}
use Rattle.claims.proofs.Every.{All}

-- ---- the words of a list of tables
abbrev pub slot : ℕ → Table → List ℕ
slot w t = slot_of w t.job t.loss t.gap t.values t.multipliers

unfoldable pub laid : ℕ → ℕ → List Table → List ℕ
laid w zero ts = []
laid w (suc c) [] = replicate w 0 ++ laid w c []
laid w (suc c) (t ∷ ts) = slot w t ++ laid w c ts

-- a table has 2 to 120 values and at most 160 multipliers
abbrev pub Fits : Table → Type 0
Fits t = (2 ≤ length t.values) × (length t.values ≤ most_cells) × (length t.multipliers ≤ most_links)

abbrev pub AllFit : List Table → Type 0
AllFit ts = All Fits ts

-- ---- tests of a slot
head_zero : (w : ℕ) (r : List ℕ) → 0 < w → get_or (replicate w 0 ++ r) 0 0 ≡ 0
head_zero zero r h = absurd (omega arith)
head_zero (suc w) r h = refl

module _ (w : ℕ) (wide : slot_words ≤ w) where
  slot_len : (t : Table) → Fits t → length (slot w t) ≡ w
  slot_len t f = slot_length w t.job t.loss t.gap t.values t.multipliers f.1 (omega (arith, f.2))

  zero_len : length (replicate {A = ℕ} w 0) ≡ w
  zero_len = length-replicate w 0

  module _ (t : Table) (f : Fits t) (r : List ℕ) where
    full : is_full (slot w t ++ r) ≡ true
    unfolding is_full slot_of
    full = rw (le-leb 2 (length t.values) f.0, le-leb (length t.values) most_cells f.1)

    has : (j : ℕ) → has_job j (slot w t ++ r) ≡ is_of j t
    unfolding has_job slot_of
    has j = ap (λ (b : Bool). b && eqb t.job j) full

    filled : is_empty (slot w t ++ r) ≡ false
    unfolding is_empty
    filled = ap not full

    -- reading a slot gives the table
    read : (j : Job) (room : ℕ) → fetch_at j room (slot w t ++ r) ≡ table_for j room t
    unfolding fetch_at slot_of
    read j room =
        let v = t.values in
        let y = t.multipliers in
        let n = length v in
        let L = length y in
        let h = head_of n t.job t.loss t.gap L in
        let p = padded most_cells v in
        let q = padded (w - values_end) y in
        let zs : List ℕ = replicate (most_cells - n) 0 in
        let us : List ℕ = replicate (w - values_end - L) 0 in
        let all : (h ++ (p ++ q)) ++ r ≡ h ++ (p ++ (q ++ r)) = append_assoc h (p ++ q) r ∙ ap (λ (x : List ℕ). h ++ x) (append_assoc p q r) in
        let front : length (h ++ p) ≡ values_end = length-append h p ∙ ap (λ (k : ℕ). head_size + k) (padded_length most_cells v f.1) in
        let vs : take n (drop head_size ((h ++ (p ++ q)) ++ r)) ≡ v = ap (λ (x : List ℕ). take n (drop head_size x)) all ∙ ap (take n) (append_assoc v zs (q ++ r)) ∙ take_at v (zs ++ (q ++ r)) n refl in
        let ys : take L (drop values_end ((h ++ (p ++ q)) ++ r)) ≡ y =
        ap (λ (x : List ℕ). take L (drop values_end x)) (all ∙ sym (append_assoc h p (q ++ r)))
        ∙ ap (take L) (drop_at (h ++ p) (q ++ r) values_end front ∙ append_assoc y us r) ∙ take_at y (us ++ r) L refl in
        ap₂ {C = Reply} (λ (a b : List ℕ). fetch_table j room n L a b) vs ys

  hollow : (r : List ℕ) → is_full (replicate w 0 ++ r) ≡ false
  unfolding is_full
  hollow r = rw (head_zero w r (omega arith))

  lacks : (r : List ℕ) (j : ℕ) → has_job j (replicate w 0 ++ r) ≡ false
  unfolding has_job
  lacks r j = rw (hollow r)

  empty : (r : List ℕ) → is_empty (replicate w 0 ++ r) ≡ true
  unfolding is_empty
  empty r = rw (hollow r)

  -- ---- no job is found among zeros
  seek_none : (j c : ℕ) → lowest (has_job j) w c (laid w c []) ≡ None
  unfolding laid lowest
  seek_none j zero = refl
  seek_none j (suc c) = lowest_step w (replicate w 0) (laid w c []) zero_len c (has_job j) false (lacks (laid w c []) j) ∙ ap later (seek_none j c)

  -- ---- a forget
  room_laid : (c : ℕ) (ts : List Table) → length ts ≤ c → laid w c ts ++ replicate w 0 ≡ laid w (suc c) ts
  unfolding laid
  room_laid zero [] h = sym (append-nil (replicate w 0))
  room_laid zero (t ∷ ts) h = absurd (omega arith)
  room_laid (suc c) [] h = append_assoc (replicate w 0) (laid w c []) (replicate w 0) ∙ ap (λ (l : List ℕ). replicate w 0 ++ l) (room_laid c [] zero-le)
  room_laid (suc c) (t ∷ ts) h = append_assoc (slot w t) (laid w c ts) (replicate w 0) ∙ ap (λ (l : List ℕ). slot w t ++ l) (room_laid c ts (omega arith))

  pub removed_laid : (j c : ℕ) (ts : List Table) → length ts ≤ c → AllFit ts → forgot_in w c j (laid w c ts) ≡ laid w c (removed j ts)
  unfolding laid forgot_in
  removed_laid j c [] h a = ap (λ (o : Option ℕ). at_slot o (λ p. dropped_slot w p (laid w c [])) (laid w c [])) (seek_none j c)
  removed_laid j zero (t ∷ ts) h a = absurd (omega arith)
  removed_laid j (suc c) (t ∷ ts) h a =
      forgot_step w (slot w t) (laid w c ts) (slot_len t a.0) c j (is_of j t) (has t a.0 (laid w c ts) j) ∙ go (is_of j t) (removed_laid j c ts (omega arith) a.1)
    where
      go : (b : Bool) → forgot_in w c j (laid w c ts) ≡ laid w c (removed j ts) → cond b (laid w c ts ++ replicate w 0) (slot w t ++ forgot_in w c j (laid w c ts)) ≡ laid w (suc c) (cond b ts (t ∷ removed j ts))
      go true e = room_laid c ts (omega arith)
      go false e = ap (λ (l : List ℕ). slot w t ++ l) e

  pub forgotten_laid : (j c : ℕ) (ts : List Table) → length ts ≤ c → AllFit ts → forget_reply w c j (laid w c ts) ≡ forgotten j ts
  unfolding laid forget_reply
  forgotten_laid j c [] h a = ap {B = Reply} (λ (o : Option ℕ). at_slot o (λ p. done) (refusal 12 0)) (seek_none j c)
  forgotten_laid j zero (t ∷ ts) h a = absurd (omega arith)
  forgotten_laid j (suc c) (t ∷ ts) h a =
      forget_reply_step w (slot w t) (laid w c ts) (slot_len t a.0) c j (is_of j t) (has t a.0 (laid w c ts) j) ∙ go (is_of j t) (forgotten_laid j c ts (omega arith) a.1)
    where
      go : (b : Bool) → forget_reply w c j (laid w c ts) ≡ forgotten j ts → cond b done (forget_reply w c j (laid w c ts)) ≡ cond (b || holds j ts) done (refusal 12 0)
      go true e = refl
      go false e = e

  -- ---- a fetch
  pub fetched_laid : (j : Job) (room c : ℕ) (ts : List Table) → length ts ≤ c → AllFit ts → fetch_in w c j room (laid w c ts) ≡ fetched j room ts
  unfolding laid fetch_in
  fetched_laid j room c [] h a = ap {B = Reply} (λ (o : Option ℕ). at_slot o (λ p. fetch_at j room (drop (w * p) (laid w c []))) (refusal 12 0)) (seek_none j.number c)
  fetched_laid j room zero (t ∷ ts) h a = absurd (omega arith)
  fetched_laid j room (suc c) (t ∷ ts) h a =
      fetch_step w (slot w t) (laid w c ts) (slot_len t a.0) c j (is_of j.number t) (has t a.0 (laid w c ts) j.number) room ∙ go (is_of j.number t) (fetched_laid j room c ts (omega arith) a.1)
    where
      go : (b : Bool) → fetch_in w c j room (laid w c ts) ≡ fetched j room ts → cond b (fetch_at j room (slot w t ++ laid w c ts)) (fetch_in w c j room (laid w c ts)) ≡ cond b (table_for j room t) (fetched j room ts)
      go true e = read t a.0 (laid w c ts) j room
      go false e = e

  -- ---- a keep: where the job is
  replaced_laid : (u : Table) (c : ℕ) (ts : List Table) → length ts ≤ c → AllFit ts → replaced_in w c u.job (slot w u) (laid w c ts) ≡ laid w c (replaced u ts)
  unfolding laid replaced_in
  replaced_laid u c [] h a = ap (λ (o : Option ℕ). at_slot o (λ p. put_slot w p (slot w u) (laid w c [])) (laid w c [])) (seek_none u.job c)
  replaced_laid u zero (t ∷ ts) h a = absurd (omega arith)
  replaced_laid u (suc c) (t ∷ ts) h a =
      replaced_step w (slot w t) (laid w c ts) (slot_len t a.0) c u.job (is_of u.job t) (has t a.0 (laid w c ts) u.job) (slot w u) ∙ go (is_of u.job t) (replaced_laid u c ts (omega arith) a.1)
    where
      go : (b : Bool) → replaced_in w c u.job (slot w u) (laid w c ts) ≡ laid w c (replaced u ts) → cond b (slot w u ++ laid w c ts) (slot w t ++ replaced_in w c u.job (slot w u) (laid w c ts)) ≡ laid w (suc c) (cond b (u ∷ ts) (t ∷ replaced u ts))
      go true e = refl
      go false e = ap (λ (l : List ℕ). slot w t ++ l) e

  -- ---- at the end
  seek_room : (c : ℕ) (ts : List Table) → length ts < c → AllFit ts → lowest is_empty w c (laid w c ts) ≡ Some (length ts)
  unfolding laid lowest
  seek_room zero ts h a = absurd (omega arith)
  seek_room (suc c) [] h a = lowest_step w (replicate w 0) (laid w c []) zero_len c is_empty true (empty (laid w c []))
  seek_room (suc c) (t ∷ ts) h a =
      lowest_step w (slot w t) (laid w c ts) (slot_len t a.0) c is_empty false (filled t a.0 (laid w c ts)) ∙ ap later (seek_room c ts (omega arith) a.1)

  seek_full : (c : ℕ) (ts : List Table) → length ts ≡ c → AllFit ts → lowest is_empty w c (laid w c ts) ≡ None
  unfolding laid lowest
  seek_full zero ts h a = refl
  seek_full (suc c) [] h a = absurd (omega arith)
  seek_full (suc c) (t ∷ ts) h a =
      lowest_step w (slot w t) (laid w c ts) (slot_len t a.0) c is_empty false (filled t a.0 (laid w c ts)) ∙ ap later (seek_full c ts (omega arith) a.1)

  appended_laid : (u : Table) (c : ℕ) (ts : List Table) → length ts < c → AllFit ts → put_slot w (length ts) (slot w u) (laid w c ts) ≡ laid w c (ts ++ (u ∷ []))
  unfolding laid
  appended_laid u zero ts h a = absurd (omega arith)
  appended_laid u (suc c) [] h a = put_first w (replicate w 0) (laid w c []) zero_len (slot w u)
  appended_laid u (suc c) (t ∷ ts) h a =
      put_next w (slot w t) (laid w c ts) (slot_len t a.0) (length ts) (slot w u) ∙ ap (λ (l : List ℕ). slot w t ++ l) (appended_laid u c ts (omega arith) a.1)

  -- ---- past the oldest
  last_laid : (u : Table) (c : ℕ) (ts : List Table) → length ts ≡ c → laid w c ts ++ slot w u ≡ laid w (suc c) (ts ++ (u ∷ []))
  unfolding laid
  last_laid u zero [] h = sym (append-nil (slot w u))
  last_laid u zero (t ∷ ts) h = absurd (omega arith)
  last_laid u (suc c) [] h = absurd (omega arith)
  last_laid u (suc c) (t ∷ ts) h = append_assoc (slot w t) (laid w c ts) (slot w u) ∙ ap (λ (l : List ℕ). slot w t ++ l) (last_laid u c ts (omega arith))

  pushed_laid : (u : Table) (c : ℕ) (ts : List Table) → 0 < c → length ts ≡ c → AllFit ts → pushed w (slot w u) (laid w c ts) ≡ laid w c (youngest ts ++ (u ∷ []))
  unfolding laid pushed
  pushed_laid u zero ts pos h a = absurd (omega arith)
  pushed_laid u (suc c) [] pos h a = absurd (omega arith)
  pushed_laid u (suc c) (t ∷ ts) pos h a = ap (λ (l : List ℕ). l ++ slot w u) (drop_first w (slot w t) (laid w c ts) (slot_len t a.0)) ∙ last_laid u c ts (omega arith)

  -- ---- a keep, by where the job was found
  abbrev is_at : Option ℕ → Bool
  is_at (Some p) = true
  is_at None = false

  sought : (j c : ℕ) (ts : List Table) → length ts ≤ c → AllFit ts → is_at (lowest (has_job j) w c (laid w c ts)) ≡ holds j ts
  unfolding laid
  sought j c [] h a = ap is_at (seek_none j c)
  sought j zero (t ∷ ts) h a = absurd (omega arith)
  sought j (suc c) (t ∷ ts) h a =
      ap is_at (lowest_step w (slot w t) (laid w c ts) (slot_len t a.0) c (has_job j) (is_of j t) (has t a.0 (laid w c ts) j)) ∙ go (is_of j t) (lowest (has_job j) w c (laid w c ts)) (sought j c ts (omega arith) a.1)
    where
      go : (b : Bool) (o : Option ℕ) → is_at o ≡ holds j ts → is_at (pick b (Some 0) (later o)) ≡ (b || holds j ts)
      go true o e = refl
      go false (Some p) e = e
      go false None e = e

  module _ (u : Table) (c : ℕ) (ts : List Table) (pos : 0 < c) (few : length ts ≤ c) (a : AllFit ts) where
    kept_at : (p : ℕ) → lowest (has_job u.job) w c (laid w c ts) ≡ Some p → kept_in w c u.job (slot w u) (laid w c ts) ≡ replaced_in w c u.job (slot w u) (laid w c ts)
    unfolding kept_in slot_for replaced_in
    kept_at p e =
        ap (λ (o : Option ℕ). at_slot (or_else o (lowest is_empty w c (laid w c ts))) (λ q. put_slot w q (slot w u) (laid w c ts)) (pushed w (slot w u) (laid w c ts))) e
        ∙ sym (ap (λ (o : Option ℕ). at_slot o (λ q. put_slot w q (slot w u) (laid w c ts)) (laid w c ts)) e)

    kept_new : (o : Option ℕ) → lowest (has_job u.job) w c (laid w c ts) ≡ None → lowest is_empty w c (laid w c ts) ≡ o
        → kept_in w c u.job (slot w u) (laid w c ts) ≡ at_slot o (λ q. put_slot w q (slot w u) (laid w c ts)) (pushed w (slot w u) (laid w c ts))
    unfolding kept_in slot_for
    kept_new o e f =
        ap (λ (r : Option ℕ). at_slot (or_else r (lowest is_empty w c (laid w c ts))) (λ q. put_slot w q (slot w u) (laid w c ts)) (pushed w (slot w u) (laid w c ts))) e
        ∙ ap (λ (r : Option ℕ). at_slot r (λ q. put_slot w q (slot w u) (laid w c ts)) (pushed w (slot w u) (laid w c ts))) f

    next_laid : (b : Bool) → ltb (length ts) c ≡ b → lowest (has_job u.job) w c (laid w c ts) ≡ None
        → kept_in w c u.job (slot w u) (laid w c ts) ≡ laid w c (cond b ts (youngest ts) ++ (u ∷ []))
    next_laid true e n =
        let l = ltb-true (length ts) c e in
        kept_new (Some (length ts)) n (seek_room c ts l a) ∙ appended_laid u c ts l a
    next_laid false e n =
        let l = ltb-false (length ts) c e in
        let f : length ts ≡ c = omega arith in
        kept_new None n (seek_full c ts f a) ∙ pushed_laid u c ts pos f a

    pub kept_laid : kept_in w c u.job (slot w u) (laid w c ts) ≡ laid w c (kept c u ts)
    kept_laid = go (lowest (has_job u.job) w c (laid w c ts)) refl
      where
        go : (o : Option ℕ) → lowest (has_job u.job) w c (laid w c ts) ≡ o → kept_in w c u.job (slot w u) (laid w c ts) ≡ laid w c (kept c u ts)
        go (Some p) e =
            let y : holds u.job ts ≡ true = sym (sought u.job c ts few a) ∙ ap is_at e in
            kept_at p e ∙ replaced_laid u c ts few a ∙ ap (λ (b : Bool). laid w c (cond b (replaced u ts) (cond (ltb (length ts) c) ts (youngest ts) ++ (u ∷ [])))) (sym y)
        go None e =
            let n : holds u.job ts ≡ false = sym (sought u.job c ts few a) ∙ ap is_at e in
            next_laid (ltb (length ts) c) refl e ∙ ap (λ (b : Bool). laid w c (cond b (replaced u ts) (cond (ltb (length ts) c) ts (youngest ts) ++ (u ∷ [])))) (sym n)
