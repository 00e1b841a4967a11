-- The words of the proposal after a pass: each is known and allowed, so they are a proposal for the job, and the first words that the code has are they.
use Prim.Native.Nat.{ℕ, ◌+◌, ◌-◌, ◌≤◌, ◌<◌, zero-le}
use mathlib.Core.Path.{◌≡◌, refl, ap, ◌∙◌}
use mathlib.Core.Logic.{inl}
use mathlib.Core.List.{List}
use native.Mathlib.Nat as N
use native.Mathlib.Omega.{arith}
use lib.IntN.{ℤ, pos, nat_abs}
use lib.Ieee.{Float, nan}
use lib.ListN.{length, get_or, take, replicate}
use Rattle.jobs.specs.Job.{Job}
use Rattle.jobs.specs.Words.{cells_of, links_of, word_at, job_of}
use Rattle.jobs.specs.Allowed.{Allowed, Proposed}
use Rattle.jobs.specs.declared.words.ReadJob.{ReadJob}
use Rattle.house.specs.Filled.{filled}
use Rattle.house.specs.Proposal.{value_of, words_of}
use Rattle.house.proofs.Boxed.{value_small, rounded_between}
use Rattle.house.proofs.Fills.{filled_at, filled_other, length_filled, take_filled}
use Rattle.house.proofs.Fitting as House
use Rattle.house.proofs.Handing.{take_zeros}
use Rattle.passes.specs.Hildreth.{State}
use Rattle.linked.specs.Proposal.{multiplier_word, linked_words}
use Rattle.passes.specs.OnWords.{state}

pub multiplier_small : (y : Float) → nat_abs (multiplier_word y) ≤ 1000000000
multiplier_small y = (rounded_between 0 1000000000 y zero-le (N.le_refl 1000000000)).1

module _ (j : Job) (s : State) where
  abbrev word : ℕ → ℤ
  word i = multiplier_word (get_or s.multipliers (i - j.cells) nan)

  count_is : length (linked_words j s) ≡ j.cells + j.links
  unfolding linked_words
  count_is = length_filled word j.links j.cells (words_of j s.values) ∙ House.count_is j s.values

  pub value_is : (i : ℕ) → i < j.cells → word_at (linked_words j s) i ≡ value_of j i (get_or s.values i nan)
  unfolding linked_words
  value_is i h = filled_other word j.links j.cells i (words_of j s.values) (pos 0) (inl h) ∙ House.value_is j s.values i h

  multiplier_is : (l : ℕ) → l < j.links → word_at (linked_words j s) (j.cells + l) ≡ word (j.cells + l)
  unfolding linked_words
  multiplier_is l h =
      filled_at word j.links j.cells (j.cells + l) (words_of j s.values) (pos 0) (omega arith) (omega arith)
      (rw (House.count_is j s.values) (omega arith))

  pub linked_proposed : Allowed j → Proposed j.cells j.links (linked_words j s)
  linked_proposed a = record {
    count = count_is;
    value = λ i h. rw (value_is i h) (record { natural = refl; small = value_small (a.cell i h) (get_or s.values i nan) });
    multiplier = λ l h. rw (multiplier_is l h) (record { natural = refl; small = multiplier_small (get_or s.multipliers (j.cells + l - j.cells) nan) });
  }

-- what the code has: room for the most words, of which the proposal takes the first
pub part_words : (j : Job) (v y : List Float) {n l : ℕ} {ws : List ℤ} → n ≡ j.cells → l ≡ j.links → n + l ≤ 280
    → ws ≡ filled (λ i. multiplier_word (get_or y (i - n) nan)) l n (filled (λ i. value_of j i (get_or v i nan)) n 0 (replicate 280 (pos 0)))
    → take (n + l) ws ≡ linked_words j (state v y)
unfolding linked_words words_of
part_words j v y {n} {l} {ws} en el h ew =
    let f : ℕ → ℤ = λ i. value_of j i (get_or v i nan) in
    let g : ℕ → ℤ = λ i. multiplier_word (get_or y (i - n) nan) in
    let values : take (n + l) (filled f n 0 (replicate 280 (pos 0))) ≡ filled f n 0 (replicate (n + l) (pos 0)) =
    take_filled f n 0 (n + l) (replicate 280 (pos 0)) (omega arith) ∙ ap (filled f n 0) (take_zeros (n + l) 280 h) in
    ap (take (n + l)) ew ∙ take_filled g l n (n + l) (filled f n 0 (replicate 280 (pos 0))) (omega arith) ∙ ap (filled g l n) values ∙ rw (en, el)

-- there are not more of them than there is room
pub words_most : (job : ReadJob) {n l : ℕ} → n ≡ cells_of job.words.now → l ≡ links_of job.words.now → n + l ≤ 280
words_most job en el = omega (arith, en, el, job.allowed.cells_few, job.allowed.links_few)

-- the words that the code has after a pass
pub part_is : (job : ReadJob) (v y : List Float) {n l : ℕ} {ws : List ℤ} → n ≡ cells_of job.words.now → l ≡ links_of job.words.now
    → ws ≡ filled (λ i. multiplier_word (get_or y (i - cells_of job.words.now) nan)) (links_of job.words.now) (cells_of job.words.now) (filled (λ i. value_of (job_of job.words.now) i (get_or v i nan)) (cells_of job.words.now) 0 (replicate 280 (pos 0)))
    → take (n + l - 0) ws ≡ linked_words (job_of job.words.now) (state v y)
part_is job v y {n} {l} {ws} en el ew =
    let j = job_of job.words.now in
    let less : n + l - 0 ≡ j.cells + j.links = omega (arith, en, el) in
    rw less (part_words j v y refl refl (words_most job refl refl) ew)
