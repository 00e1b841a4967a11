-- Which case each definition of a span's calls picks, by what the search found. For any w and c.
use mathlib.Core.Path.{◌≡◌, refl, sym, ap, ap₂, ◌∙◌, subst}
use mathlib.Core.Bool.{Bool, true, false, cond, ◌&&◌}
use mathlib.Core.List.{List, ◌++◌}
use Prim.Native.Nat.{ℕ, suc, ◌+◌, ◌*◌}
use native.Mathlib.Nat.{mul-zero}
use lib.Dec.{eqb}
use lib.ListN.{length, take, drop, get_or}
use lib.Seq.{get_or-drop, drop-drop}
use borrow.Author.Tests.{eq-eqb, ne_eqb}
use Rattle.jobs.specs.Job.{Job}
use Rattle.slots.specs.Slots.{head_size, values_end, has_job, lowest, pick, later, at_slot, slot_for, put_slot, pushed, dropped_slot, kept_in, forgot_in}
use Rattle.checked.specs.Answers.{Reply, refusal, done, overwritten}
use Rattle.shelf.specs.Shelf.{forget_reply}
use Rattle.shelf.specs.Fetched.{kept_verdict, handed, same_counts, fetch_table, fetch_at, fetch_in}
use Rattle.std.specs.Prelude.{Option, Some, None}
use Rattle.checked.specs.declared.Answer.{Answer}
use Rattle.slots.proofs.Lowest.{first_word}
use Rattle.slots.proofs.Steps.{drop_next, by_slot}

module _ (w c job : ℕ) (s : List ℕ) where
  -- ---- a keep
  pub kept_at : (x : List ℕ) (p : ℕ) → slot_for w c job s ≡ Some p → put_slot w p x s ≡ kept_in w c job x s
  unfolding kept_in
  kept_at x p e = sym (ap (λ (o : Option ℕ). at_slot o (λ q. put_slot w q x s) (pushed w x s)) e)

  pub kept_none : (x : List ℕ) → slot_for w c job s ≡ None → pushed w x s ≡ kept_in w c job x s
  unfolding kept_in
  kept_none x e = sym (ap (λ (o : Option ℕ). at_slot o (λ q. put_slot w q x s) (pushed w x s)) e)

  -- ---- a forget
  pub forget_at : (p : ℕ) (a : Answer) → lowest (has_job job) w c s ≡ Some p → a ≡ done.answer → (a ≡ (forget_reply w c job s).answer) × (dropped_slot w p s ≡ forgot_in w c job s)
  unfolding forget_reply forgot_in
  forget_at p a e f =
      (f ∙ sym (ap {B = Answer} (λ (o : Option ℕ). (at_slot o (λ q. done) (refusal 12 0)).answer) e), sym (ap (λ (o : Option ℕ). at_slot o (λ q. dropped_slot w q s) s) e))

  pub forget_none : (a : Answer) → lowest (has_job job) w c s ≡ None → a ≡ (refusal 12 0).answer → (a ≡ (forget_reply w c job s).answer) × (s ≡ forgot_in w c job s)
  unfolding forget_reply forgot_in
  forget_none a e f =
      (f ∙ sym (ap {B = Answer} (λ (o : Option ℕ). (at_slot o (λ q. done) (refusal 12 0)).answer) e), sym (ap (λ (o : Option ℕ). at_slot o (λ q. dropped_slot w q s) s) e))

-- ---- a fetch
module _ (w c : ℕ) (j : Job) (s : List ℕ) where
  pub fetch_found : (room p : ℕ) → lowest (has_job j.number) w c s ≡ Some p → fetch_at j room (drop (w * p) s) ≡ fetch_in w c j room s
  unfolding fetch_in
  fetch_found room p e = sym (ap {B = Reply} (λ (o : Option ℕ). at_slot o (λ q. fetch_at j room (drop (w * q) s)) (refusal 12 0)) e)

  pub fetch_none : (room : ℕ) → lowest (has_job j.number) w c s ≡ None → refusal 12 0 ≡ fetch_in w c j room s
  unfolding fetch_in
  fetch_none room e = sym (ap {B = Reply} (λ (o : Option ℕ). at_slot o (λ q. fetch_at j room (drop (w * q) s)) (refusal 12 0)) e)

-- ---- a forget and a fetch on c + 1 slots, by those on the c after the first
module _ (w : ℕ) (y rest : List ℕ) (len : length y ≡ w) (c : ℕ) where
  pub forget_reply_step : (job : ℕ) (b : Bool) → has_job job (y ++ rest) ≡ b → forget_reply w (suc c) job (y ++ rest) ≡ cond b done (forget_reply w c job rest)
  unfolding forget_reply
  forget_reply_step job b e = by_slot w y rest len c job b e (λ p. done) (refusal 12 0) ∙ go b (lowest (has_job job) w c rest)
    where
      go : (b : Bool) (o : Option ℕ) → at_slot (pick b (Some 0) (later o)) (λ p. done) (refusal 12 0) ≡ cond b done (at_slot o (λ p. done) (refusal 12 0))
      go true o = refl
      go false (Some p) = refl
      go false None = refl

  pub fetch_step : (j : Job) (b : Bool) → has_job j.number (y ++ rest) ≡ b → (room : ℕ) → fetch_in w (suc c) j room (y ++ rest) ≡ cond b (fetch_at j room (y ++ rest)) (fetch_in w c j room rest)
  unfolding fetch_in
  fetch_step j b e room = by_slot w y rest len c j.number b e (λ p. fetch_at j room (drop (w * p) (y ++ rest))) (refusal 12 0) ∙ go b (lowest (has_job j.number) w c rest)
    where
      go : (b : Bool) (o : Option ℕ) → at_slot (pick b (Some 0) (later o)) (λ p. fetch_at j room (drop (w * p) (y ++ rest))) (refusal 12 0) ≡ cond b (fetch_at j room (y ++ rest)) (at_slot o (λ p. fetch_at j room (drop (w * p) rest)) (refusal 12 0))
      go true o = ap {B = Reply} (λ (k : ℕ). fetch_at j room (drop k (y ++ rest))) (mul-zero w)
      go false (Some p) = ap {B = Reply} (λ (l : List ℕ). fetch_at j room l) (drop_next w y rest len p)
      go false None = refl

-- a call's two clauses about a reply, from the reply
pub replied : (r q : Reply) (a : Answer) (out last : List ℕ) → r ≡ q → a ≡ r.answer → last ≡ overwritten out r.values → (a ≡ q.answer) × (last ≡ overwritten out q.values)
replied r q a out last e f g = subst (λ (x : Reply). (a ≡ x.answer) × (last ≡ overwritten out x.values)) e (f, g)

-- ---- the slot at a word, by whether its counts are the job's
module _ (j : Job) (room at : ℕ) (s : List ℕ) where
  abbrev table_at : (cells links : ℕ) → Reply
  table_at cells links = fetch_table j room cells links (take cells (drop (at + head_size) s)) (take links (drop (at + values_end) s))

  at_table : fetch_at j room (drop at s) ≡ table_at (get_or s at 0) (get_or s (at + 6) 0)
  unfolding fetch_at
  at_table = rw (first_word s at, get_or-drop at s 6 0, drop-drop head_size at s, drop-drop values_end at s)

  counts_differ : (cells links : ℕ) → same_counts j cells links ≡ false → refusal 12 0 ≡ table_at cells links
  unfolding fetch_table
  counts_differ cells links e = rw e

  pub cells_differ : (get_or s at 0 ≡ j.cells → ⊥) → refusal 12 0 ≡ fetch_at j room (drop at s)
  cells_differ n = counts_differ (get_or s at 0) (get_or s (at + 6) 0) (ap (λ (b : Bool). b && eqb (get_or s (at + 6) 0) j.links) (ne_eqb (get_or s at 0) j.cells n)) ∙ sym at_table

  pub links_differ : (get_or s (at + 6) 0 ≡ j.links → ⊥) → refusal 12 0 ≡ fetch_at j room (drop at s)
  links_differ n =
      counts_differ (get_or s at 0) (get_or s (at + 6) 0) (ap (λ (b : Bool). eqb (get_or s at 0) j.cells && b) (ne_eqb (get_or s (at + 6) 0) j.links n) ∙ and_false (eqb (get_or s at 0) j.cells)) ∙ sym at_table
    where
      and_false : (b : Bool) → b && false ≡ false
      and_false true = refl
      and_false false = refl

  pub counts_same : (n links : ℕ) → n ≡ j.cells → links ≡ j.links → get_or s at 0 ≡ n → get_or s (at + 6) 0 ≡ links
      → handed room (take n (drop (at + head_size) s)) (kept_verdict j (take n (drop (at + head_size) s)) (take links (drop (at + values_end) s))) ≡ fetch_at j room (drop at s)
  unfolding fetch_table
  counts_same n links en el a b = sym (at_table ∙ ap₂ {C = Reply} table_at a b ∙ rw (eq-eqb n j.cells en, eq-eqb links j.links el))
