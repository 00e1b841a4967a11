-- An accepted table goes to the shelf as its packs have it: what was read of them stands in front of zeros, so its counts and values are the packs'.
use mathlib.Core.Path.{◌≡◌, sym, ap, ap₂, ◌∙◌, subst}
use mathlib.Core.Bool.{cond}
use mathlib.Core.List.{List, ◌++◌, map}
use Prim.Native.Nat.{ℕ, ◌+◌, ◌*◌, ◌≤◌}
use native.Mathlib.Nat.{zero-add}
use native.Mathlib.Omega.{arith}
use lib.IntN.{ℤ, pos, nat_abs}
use lib.ListN.{length, take, drop, replicate, length-drop}
use lib.Seq.{sets, length-take-le, take_at}
use Rattle.jobs.specs.Words.{word_at, count_at, cells_of, head_words, links_of, job_of}
use Rattle.jobs.specs.Packs.{read_job}
use Rattle.std.specs.Prelude.{Err}
use Rattle.refusals.specs.declared.Refusal.{Refusal}
use Rattle.measure.specs.Check.{Verdict, accepting, check_of}
use Rattle.measure.specs.Opening.{proposal_words}
use Rattle.checked.specs.declared.Answer.{Answer}
use Rattle.checked.specs.Checked.{taken_from, checked_of, values_of, multipliers_of}
use Rattle.checked.specs.Answers.{refused, accepted, answer_of}
use Rattle.checked.specs.Given.{Given}
use Rattle.checked.proofs.Values.{length_map}
use Rattle.checked.proofs.Packs.{packs_name, packs_multiply}
use Rattle.slots.specs.Slots.{slot_of}
use Rattle.shelf.specs.Shelf.{Layout, kept_on, kept_shelf, keep_reply}
use Rattle.shelf.specs.Given.{Rated, kept_from, table_kept}

-- ---- the numbers of a slot
pub numbers_part : (a n : ℕ) (rates : List ℤ) (rest values : List ℕ) → a + n ≤ length rates → values ≡ taken_from a n rates ++ rest → take n values ≡ taken_from a n rates
numbers_part a n rates rest values h e =
    ap (take n) e ∙ take_at (taken_from a n rates) rest n (length-take-le n (drop a (map nat_abs rates)) (rw length-drop (omega (arith, length_map nat_abs rates))))

-- where the count of links stands, after that many cells
pub links_place : (words : List ℤ) {n : ℕ} → n ≡ cells_of words → head_words words + 4 * n ≡ head_words words + 4 * cells_of words
links_place words e = ap (λ (k : ℕ). head_words words + 4 * k) e

-- the numbers of a proposal that a job's words and its numbers count on
pub rated_given : (words rates : List ℤ) → Given words rates → (n links : ℕ) → n ≡ cells_of words → links ≡ links_of words → Rated n links rates
rated_given words rates g n links en el =
    let v = g.values in
    subst (λ (k : ℕ). Rated k links rates) (sym en) (subst (λ (k : ℕ). Rated (cells_of words) k rates) (sym el) (record {
      cells_few = v.few;
      links_few = g.job.links;
      values = record {
        inside = omega (arith, v.inside);
        small = λ i h. subst (λ (k : ℕ). nat_abs (word_at rates k) ≤ 4294967295) (sym (zero-add i)) (omega (arith, v.small i h));
      };
      multipliers = g.multipliers;
    }))

-- a table kept for a society under a number that are a job's
pub kept_by_lem : (l : Layout) (words : List ℤ) (loss gap s j : ℕ) → s ≡ count_at words 0 → j ≡ count_at words 1 → (vs us ys zs : List ℕ) → vs ≡ us → ys ≡ zs → (shelf left : List ℕ)
    → left ≡ kept_on l s j (slot_of l.words j loss gap vs ys) shelf → left ≡ kept_from l words loss gap us zs shelf
kept_by_lem l words loss gap s j p q vs us ys zs r t shelf left e =
    e ∙ ap (λ (x : ℕ). kept_on l x j (slot_of l.words j loss gap vs ys) shelf) p
    ∙ ap (λ (x : ℕ). kept_on l (count_at words 0) x (slot_of l.words x loss gap vs ys) shelf) q
    ∙ ap₂ (λ (x y : List ℕ). kept_from l words loss gap x y shelf) r t

-- ---- two packs that the check has accepted
module _ (job proposal : List ℕ) (F G : ℤ) (e : check_of job proposal ≡ accepting F G)
    (scratch : List ℤ) (stored : scratch ≡ sets (replicate 2092 (pos 0)) 0 (read_job job).words)
    (rates : List ℤ) (read : rates ≡ sets (replicate 280 (pos 0)) 0 (proposal_words job proposal)) where
  abbrev ws : List ℤ
  ws = (read_job job).words

  pub kept_packs : (l : Layout) (a : Answer) → a ≡ record { number = 0; place = 0; loss = nat_abs F; gap = nat_abs G } → (shelf ys : List ℕ)
      → ys ≡ table_kept l scratch (nat_abs F) (nat_abs G) rates shelf
      → (a ≡ (keep_reply (checked_of job proposal)).answer) × (ys ≡ kept_shelf l (checked_of job proposal) shelf)
  unfolding checked_of kept_shelf keep_reply
  kept_packs l a p shelf ys k =
      let s = count_at ws 0 in
      let j = count_at ws 1 in
      let vs = values_of (job_of ws) proposal in
      let ms = multipliers_of (job_of ws) proposal in (
        p ∙ sym (ap {B = Answer} answer_of e),
        k
            ∙ packs_name job proposal F G e scratch stored rates read (λ s j vs. kept_on l s j (slot_of l.words j (nat_abs F) (nat_abs G) vs (taken_from (cells_of scratch) (links_of scratch) rates)) shelf)
            ∙ ap (λ (y : List ℕ). kept_on l s j (slot_of l.words j (nat_abs F) (nat_abs G) vs y) shelf) (packs_multiply job proposal F G e scratch stored rates read)
            ∙ sym (ap (λ (v : Verdict). cond (accepted v) (kept_on l s j (slot_of l.words j (answer_of v).loss (answer_of v).gap vs ms) shelf) shelf) e),
      )

-- ---- and two that it has refused
pub refused_packs : (l : Layout) (job proposal : List ℕ) (r : Refusal) → check_of job proposal ≡ Err r → (a : Answer) → a ≡ (refused r).answer
    → (shelf : List ℕ) → (a ≡ (keep_reply (checked_of job proposal)).answer) × (shelf ≡ kept_shelf l (checked_of job proposal) shelf)
unfolding checked_of kept_shelf keep_reply
refused_packs l job proposal r e a p shelf =
    let s = count_at (read_job job).words 0 in
    let j = count_at (read_job job).words 1 in
    let vs = values_of (job_of (read_job job).words) proposal in
    let ms = multipliers_of (job_of (read_job job).words) proposal in (
      p ∙ sym (ap {B = Answer} answer_of e),
      sym (ap (λ (v : Verdict). cond (accepted v) (kept_on l s j (slot_of l.words j (answer_of v).loss (answer_of v).gap vs ms) shelf) shelf) e),
    )
