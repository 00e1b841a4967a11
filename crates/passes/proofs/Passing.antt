-- One link improved, and one pass: what the code has after each is what the definitions say.
use Prim.Native.Nat.{ℕ, ◌+◌, ◌*◌, ◌<◌}
use mathlib.Core.Path.{◌≡◌, sym, ap, ap₂, subst, ◌∙◌}
use mathlib.Core.List.{List}
use native.Mathlib.Numerals.{add-one}
use lib.IntN.{ℤ}
use lib.ListN.{get_or, set}
use lib.Ieee.{Float, nan, binary64, sub, mul, of_int}
use Rattle.jobs.specs.Words.{count_at, links_of, start_of, job_of}
use Rattle.jobs.specs.declared.words.ReadJob.{ReadJob}
use Rattle.jobs.proofs.Places.{start_suc}
use Rattle.measure.specs.Given.{LinkAt}
use Rattle.measure.proofs.Places.{link_at_lem}
use Rattle.factor.specs.Solve.{solution_of}
use Rattle.passes.specs.Hildreth.{Link, half, right_for, sum_over, raised_of, half_change, fallen_from, Improved, improved_of, State, with_link, link_of}
use Rattle.passes.specs.OnWords.{link_at, state}

-- ---- one link

module _ (d l : List Float) (z n : ℕ) (k : Link) (y : Float) (v : List Float) where
  abbrev solution : List Float
  solution = solution_of d l z n (right_for k)

  abbrev new_is : Float
  new_is = raised_of y (sum_over k v) (of_int binary64 k.bound) (sum_over k solution)

  pub improved_is : {right x v' : List Float} {c s b new : Float} → right ≡ right_for k → x ≡ solution_of d l z n right → c ≡ sum_over k x → s ≡ sum_over k v
      → b ≡ of_int binary64 k.bound → new ≡ raised_of y s b c → v' ≡ fallen_from x (mul binary64 half (sub binary64 new y)) n 0 v
      → (new ≡ (improved_of d l z n k y v).multiplier) × (v' ≡ (improved_of d l z n k y v).values)
  unfolding improved_of
  improved_is {right} {x} {v'} {c} {s} {b} {new} er ex ec es eb en ev =
      let p : x ≡ solution = ex ∙ ap (solution_of d l z n) er in
      let q : new ≡ new_is = en ∙ rw (es, eb, ec, p) in
      (q, ev ∙ ap₂ (λ (x : List Float) (new : Float). fallen_from x (half_change new y) n 0 v) p q)

-- ---- one link of a pass

pub next_state : (ws : List ℤ) (d l : List Float) (z n i : ℕ) {s : ℕ} → s ≡ start_of ws i → (v y : List Float) {v' : List Float} {new : Float}
    → (new ≡ (improved_of d l z n (link_at ws s) (get_or y i nan) v).multiplier) × (v' ≡ (improved_of d l z n (link_at ws s) (get_or y i nan) v).values)
    → state v' (set y i new) ≡ with_link i (state v y) (improved_of d l z n (link_of (job_of ws) i) (get_or y i nan) v)
next_state ws d l z n i {s} e v y h =
    let q : improved_of d l z n (link_at ws s) (get_or y i nan) v ≡ improved_of d l z n (link_of (job_of ws) i) (get_or y i nan) v =
    ap {B = Improved} (λ (s : ℕ). improved_of d l z n (link_at ws s) (get_or y i nan) v) e in
    ap₂ {C = State} (λ (v : List Float) (new : Float). state v (set y i new)) (h.1 ∙ ap {B = List Float} (λ (i : Improved). i.values) q) (h.0 ∙ ap {B = Float} (λ (i : Improved). i.multiplier) q)

module _ (job : ReadJob) (i : ℕ) {s : ℕ} (e : s ≡ start_of job.words.now i) where
  pub at_link : i < links_of job.words.now → LinkAt job.words.now s
  at_link h = subst (λ (x : ℕ). LinkAt job.words.now x) (sym e) (link_at_lem job.allowed job.laid i h)

  pub next_starts : {s' : ℕ} → s' ≡ s + 2 * count_at job.words.now s + 2 → s' ≡ start_of job.words.now (i + 1)
  next_starts q =
      q ∙ ap (λ (x : ℕ). x + 2 * count_at job.words.now x + 2) e ∙ sym (start_suc job.words.now i) ∙ ap (start_of job.words.now) (sym (add-one i))
