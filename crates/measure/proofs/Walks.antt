-- The walk over the links: after l links that hold, the tally is that of their terms, the link parts are theirs, and s is where the next one starts.
use Prim.Native.Nat.{ℕ, ◌+◌, ◌*◌, ◌≤◌, ◌<◌}
use mathlib.Core.Path.{◌≡◌, refl, sym, ap, ap₂, subst, subst₂, ◌∙◌}
use mathlib.Core.Bool.{true, false}
use mathlib.Core.List.{List}
use native.Mathlib.Nat as N
use native.Mathlib.Omega.{arith}
use native.Mathlib.Numerals.{add-one}
use borrow.Author.Tests.{lt-ltb, le-ltb}
use lib.Dec.{lit<, leb→le}
use lib.IntN.{ℤ, pos, negsuc, nat_abs, ◌+ℤ◌, ◌-ℤ◌, ◌*ℤ◌}
use lib.Signed.{le_z, lt_z, le_z_yes, lt_z_yes, ≤ℤ_refl}
use mir.Syntax.{w64}
use mir.Val.{SFits, to_z}
use Rattle.whole.proofs.Order.{≤ℤ-sub, *ℤ-nonneg}
use Rattle.whole.proofs.Sums.{sum_zero, sum_step, sum_bound}
use Rattle.whole.proofs.Magnitude.{bound-+, bound-*}
use Rattle.whole.proofs.Fits.{Holds, Adds, partial_small, small_fits, gives}
use Rattle.jobs.specs.Job.{link_coefficient}
use Rattle.jobs.specs.Words.{word_at, count_at, cells_of, links_of, start_of, job_of}
use Rattle.jobs.specs.Allowed.{Upto}
use Rattle.jobs.proofs.Places.{upto_nonneg, start_suc}
use Rattle.tally.specs.declared.Tally.{Tally}
use Rattle.tally.specs.Given.{LinkNumbers, Tallies}
use Rattle.tally.specs.Tally.{tally_of, tallied_of}
use Rattle.tally.proofs.Locals.{read, rate_read, multiplier_read}
use Rattle.tally.proofs.Terms.{link_small, true_t}
use Rattle.tally.proofs.Totals.{Runs, not_lt_le, lt_not_le}
use Rattle.tally.proofs.Tallies.{tally_starts, tallies_call, tallies_next}
use Rattle.measure.specs.Gap.{link_sum}
use Rattle.measure.specs.Given.{Given, LinkAt, Linked, Scattering, Walking}
use Rattle.measure.specs.Running.{sum_at, bound_at, part_at, Added, walk_of}
use Rattle.measure.specs.OnWords.{multiplier_on, holds_on, link_term_on, held_on, parts_on, walk_on}
use Rattle.measure.proofs.Places.{link_at_lem}
use Rattle.measure.proofs.Lowest.{Passed, passed_start, passed_next, lowest_all, lowest_at}
use Rattle.measure.proofs.Scattered.{added_none, added_by, added_then, part_small, coefficient_read}
use Rattle.std.specs.Prelude.{Ok, Err}
use Rattle.refusals.specs.declared.Refusal.TheVariants.{BrokenLink}

-- ---- the sum of a link that starts at s

module _ {ws ps : List ℤ} {s : ℕ} (L : Linked ws ps s) where
  link_value : (m : ℕ) → m < count_at ws s → Upto 1000000 (word_at ps (count_at ws (s + 1 + 2 * m)))
  link_value m h = L.proposed.value (count_at ws (s + 1 + 2 * m)) (L.link.cell_inside m h)

  pub sum_adds : Adds (λ m. word_at ws (s + 2 + 2 * m) *ℤ word_at ps (count_at ws (s + 1 + 2 * m))) (count_at ws s) 10000000
  sum_adds = record {
    small = λ m h. bound-* (word_at ws (s + 2 + 2 * m)) (word_at ps (count_at ws (s + 1 + 2 * m))) (L.link.coefficient m h) (link_value m h).small;
    room = omega (arith, L.link.terms.small);
  }

  pub sum_term_fits : (m : ℕ) → m < count_at ws s → SFits w64 (word_at ws (s + 2 + 2 * m) *ℤ word_at ps (count_at ws (s + 1 + 2 * m)))
  sum_term_fits m h = small_fits (word_at ws (s + 2 + 2 * m) *ℤ word_at ps (count_at ws (s + 1 + 2 * m))) (sum_adds.small m h) (lit< tt)

  -- the product of the code, with the cell that was read
  pub sum_term_is : (m : ℕ) → m < count_at ws s → {cell : ℕ} → cell ≡ count_at ws (s + 1 + 2 * m)
      → read (word_at ws (s + 2 + 2 * m)) *ℤ read (word_at ps cell) ≡ word_at ws (s + 2 + 2 * m) *ℤ word_at ps (count_at ws (s + 1 + 2 * m))
  sum_term_is m h {cell} e = ap₂ ◌*ℤ◌ (coefficient_read L.link m h) (ap (λ (k : ℕ). read (word_at ps k)) e ∙ rate_read (link_value m h))

  sum_small : nat_abs (sum_at ws s (word_at ps)) ≤ 40000000
  unfolding sum_at
  sum_small = N.le_trans (partial_small sum_adds (count_at ws s) (N.le_refl (count_at ws s))) (omega (arith, L.link.terms.small))

-- ---- the links of a job, by the words where they start

pub sum_is : (ws ps : List ℤ) (l : ℕ) → sum_at ws (start_of ws l) (word_at ps) ≡ link_sum (job_of ws) l (word_at ps)
unfolding sum_at link_sum
sum_is ws ps l = refl

part_is : (ws : List ℤ) (l i : ℕ) (y : ℤ) → part_at ws (start_of ws l) y i ≡ y *ℤ link_coefficient (job_of ws) l i
unfolding part_at
part_is ws l i y = refl

module _ {ws ps : List ℤ} (G : Given ws ps) where
  pub numbers_at : (l : ℕ) → l < links_of ws → LinkNumbers (multiplier_on ws ps l) (bound_at ws (start_of ws l)) (sum_at ws (start_of ws l) (word_at ps))
  numbers_at l h = record {
    y_in = G.proposed.multiplier l h;
    b_small = (G.allowed.link l h).bound;
    s_small = sum_small (record { link = link_at_lem G.allowed G.laid l h; proposed = G.proposed });
  }

  pub link_term_small : (l : ℕ) → l < links_of ws → nat_abs (link_term_on ws ps l) ≤ 7000000000000000000
  link_term_small l q =
      subst (λ (x : ℤ). nat_abs (multiplier_on ws ps l *ℤ ((job_of ws).bound l -ℤ x)) ≤ 7000000000000000000) (sum_is ws ps l)
      (N.le_trans (link_small (numbers_at l q)) (leb→le 1040000000000000000 7000000000000000000 tt))

  -- the terms of links that hold
  pub links_run : (k : ℕ) → k ≤ links_of ws → Passed (holds_on ws ps) k → Runs (job_of ws).tolerance (pos 0) (link_term_on ws ps) k
  links_run k h p = record {
    tolerance_in = G.allowed.tolerance;
    start_least = ≤ℤ_refl (pos 0);
    start_small = leb→le 0 8000000000000000000 tt;
    least = λ l q. *ℤ-nonneg (upto_nonneg (G.proposed.multiplier l (N.lt_of_lt_of_le q h))) (≤ℤ-sub {a = link_sum (job_of ws) l (word_at ps)} {b = (job_of ws).bound l} (le_z_yes (true_t (p l q))));
    small = λ l q. link_term_small l (N.lt_of_lt_of_le q h);
  }

  -- the parts of all links
  pub parts_small : (k i : ℕ) → k ≤ links_of ws → nat_abs (parts_on ws ps k i) ≤ 6400000000000
  parts_small k i h =
      N.le_trans (sum_bound k (λ l. multiplier_on ws ps l *ℤ link_coefficient (job_of ws) l i) 40000000000 (λ l q. one l (N.lt_of_lt_of_le q h)))
      (omega (arith, G.allowed.links_few))
    where
      one : (l : ℕ) → l < links_of ws → nat_abs (multiplier_on ws ps l *ℤ link_coefficient (job_of ws) l i) ≤ 40000000000
      one l q =
          subst (λ (x : ℤ). nat_abs x ≤ 40000000000) (part_is ws l i (multiplier_on ws ps l))
          (part_small (link_at_lem G.allowed G.laid l q) (G.proposed.multiplier l q) i)

-- ---- the link at which a loop over the links stands

module _ {ws ps : List ℤ} (G : Given ws ps) {n l s : ℕ} (en : n ≡ cells_of ws) (h : l < links_of ws) (es : s ≡ start_of ws l) where
  pub here_link : LinkAt ws s
  here_link = subst (λ (x : ℕ). LinkAt ws x) (sym es) (link_at_lem G.allowed G.laid l h)

  pub here_multiplier : read (word_at ps (n + l)) ≡ multiplier_on ws ps l
  here_multiplier = ap (λ (x : ℕ). read (word_at ps (x + l))) en ∙ multiplier_read (G.proposed.multiplier l h)

  pub here_next : {s' : ℕ} → s' ≡ s + 2 * count_at ws s + 2 → s' ≡ start_of ws (l + 1)
  here_next e = e ∙ ap (λ (x : ℕ). x + 2 * count_at ws x + 2) es ∙ sym (start_suc ws l) ∙ ap (start_of ws) (sym (add-one l))

  -- with the sum and the bound that the code has
  module _ {x b : ℤ} (ex : x ≡ sum_at ws s (word_at ps)) (eb : b ≡ bound_at ws s) where
    x_at : x ≡ sum_at ws (start_of ws l) (word_at ps)
    x_at = ex ∙ ap (λ (k : ℕ). sum_at ws k (word_at ps)) es

    b_at : b ≡ (job_of ws).bound l
    b_at = eb ∙ ap (bound_at ws) es

    pub here_sum : read x ≡ link_sum (job_of ws) l (word_at ps)
    here_sum = gives x_at (small_fits (sum_at ws (start_of ws l) (word_at ps)) (numbers_at G l h).s_small (lit< tt)) ∙ sum_is ws ps l

    pub here_bound : read b ≡ (job_of ws).bound l
    here_bound = gives b_at (small_fits ((job_of ws).bound l) (numbers_at G l h).b_small (lit< tt))

    pub here_numbers : LinkNumbers (read (word_at ps (n + l))) (read b) (read x)
    here_numbers = rw (here_multiplier, here_bound, here_sum ∙ sym (sum_is ws ps l)) (numbers_at G l h)

    pub here_term : {t : ℤ} → t ≡ read (word_at ps (n + l)) *ℤ (read b -ℤ read x) → t ≡ link_term_on ws ps l
    here_term q = q ∙ ap₂ ◌*ℤ◌ here_multiplier (ap₂ ◌-ℤ◌ here_bound here_sum)

    pub here_read : {t : ℤ} → t ≡ read (word_at ps (n + l)) *ℤ (read b -ℤ read x) → read t ≡ link_term_on ws ps l
    here_read q = gives (here_term q) (small_fits (link_term_on ws ps l) (link_term_small G l h) (lit< tt))

-- ---- the walk

pub record Along (ws ps parts₀ : List ℤ) (l s : ℕ) (tally : Tally) (parts : List ℤ) : Type 0 where
  pub starts : s ≡ start_of ws l
  pub passed : Passed (holds_on ws ps) l
  pub tally_is : tally ≡ tallied_of (job_of ws).tolerance (pos 0) (link_term_on ws ps) l
  pub parts_added : Added (parts_on ws ps l) parts₀ parts

module _ {ws ps : List ℤ} {n : ℕ} {parts₀ : List ℤ} (W : Walking ws ps n parts₀) where
  pub walk_start : {s : ℕ} {tally : Tally} → s ≡ start_of ws 0 → tally ≡ record { total = pos 0; largest = negsuc 0; place = 0 } → Along ws ps parts₀ 0 s tally parts₀
  walk_start es et = record {
    starts = es;
    passed = passed_start (holds_on ws ps);
    tally_is = et ∙ tally_starts (job_of ws).tolerance (pos 0) (link_term_on ws ps);
    parts_added = added_none parts₀ (λ i. sum_zero (λ l. multiplier_on ws ps l *ℤ link_coefficient (job_of ws) l i));
  }

  -- at the link l
  module _ {l s : ℕ} {tally : Tally} {parts : List ℤ} (h : l < links_of ws) (I : Along ws ps parts₀ l s tally parts) where
    pub walk_scattering : Scattering ws s (read (word_at ps (n + l))) parts
    walk_scattering = record {
      link = here_link W.given W.n_is h I.starts;
      y_in = subst (λ (x : ℤ). Upto 1000000000 x) (sym (here_multiplier W.given W.n_is h I.starts)) (W.given.proposed.multiplier l h);
      room = omega (arith, W.n_is, W.room, I.parts_added.long);
      small = λ i q.
          subst (λ (x : ℤ). nat_abs x ≤ 7000000000000) (sym (I.parts_added.at i ∙ ap (λ (x : ℤ). x +ℤ parts_on ws ps l i) (W.zeros i)))
          (N.le_trans (bound-+ (pos 0) (parts_on ws ps l i) (N.le_refl 0) (parts_small W.given l i (N.le_of_lt h))) (leb→le 6400000000000 7000000000000 tt));
    }

    -- with the sum and the bound that the code has
    module _ {x b : ℤ} (ex : x ≡ sum_at ws s (word_at ps)) (eb : b ≡ bound_at ws s) where
      x_is : read x ≡ link_sum (job_of ws) l (word_at ps)
      x_is = here_sum W.given W.n_is h I.starts ex eb

      b_is : read b ≡ (job_of ws).bound l
      b_is = here_bound W.given W.n_is h I.starts ex eb

      fails : lt_z (read b) (read x) ≡ true → holds_on ws ps l ≡ false
      fails e = subst₂ (λ (x b : ℤ). le_z x b ≡ false) x_is b_is (lt_not_le (read x) (read b) (lt_z_yes (true_t e)))

      found : lt_z (read b) (read x) ≡ true → held_on ws ps ≡ l
      found e = lowest_at (holds_on ws ps) (links_of ws) l h I.passed (fails e)

      pub walk_broken : lt_z (read b) (read x) ≡ true → Err (BrokenLink l) ≡ walk_on ws ps
      unfolding walk_of
      walk_broken e = rw (found e, lt-ltb l (links_of ws) h)

      pub walk_broken_parts : lt_z (read b) (read x) ≡ true
          → Added (parts_on ws ps (held_on ws ps)) parts₀ parts
      walk_broken_parts e = rw (found e) I.parts_added

      -- the link holds
      module _ (e : lt_z (read b) (read x) ≡ false) where
        held : holds_on ws ps l ≡ true
        held = subst₂ (λ (x b : ℤ). le_z x b ≡ true) x_is b_is (not_lt_le (read x) (read b) e)

        passed : Passed (holds_on ws ps) (l + 1)
        passed = passed_next (holds_on ws ps) l I.passed held

        run : Runs (job_of ws).tolerance (pos 0) (link_term_on ws ps) (l + 1)
        run = links_run W.given (l + 1) (omega arith) passed

        module _ {tolerance : ℕ} (et : Holds tolerance (job_of ws).tolerance) {t : ℤ} (q : t ≡ read (word_at ps (n + l)) *ℤ (read b -ℤ read x)) where
          t_is : t ≡ link_term_on ws ps l
          t_is = here_term W.given W.n_is h I.starts ex eb q

          pub walk_tallies : Tallies (to_z w64 tolerance) tally (read t)
          walk_tallies = tallies_call run (omega arith) I.tally_is et.is t_is

          pub walk_next : {g : Tally} {parts' : List ℤ} {s' : ℕ} → g ≡ tally_of (to_z w64 tolerance) tally (read t) l
              → Added (part_at ws s (read (word_at ps (n + l)))) parts parts' → s' ≡ s + 2 * count_at ws s + 2
              → Along ws ps parts₀ (l + 1) s' g parts'
          walk_next {g} {parts'} {s'} eg A es = record {
            starts = here_next W.given W.n_is h I.starts es;
            passed = passed;
            tally_is = tallies_next run (omega arith) I.tally_is et.is t_is eg;
            parts_added =
                added_by
                (λ i.
                ap₂ (λ (k : ℕ) (y : ℤ). parts_on ws ps l i +ℤ part_at ws k y i) I.starts (here_multiplier W.given W.n_is h I.starts)
                ∙ ap (λ (z : ℤ). parts_on ws ps l i +ℤ z) (part_is ws l i (multiplier_on ws ps l))
                ∙ sym (sum_step l (λ l. multiplier_on ws ps l *ℤ link_coefficient (job_of ws) l i)))
                (added_then I.parts_added A);
          }

  -- after the last link
  module _ {l s : ℕ} {tally : Tally} {parts : List ℤ} (e : l ≡ links_of ws) (I : Along ws ps parts₀ l s tally parts) where
    all : held_on ws ps ≡ links_of ws
    all = lowest_all (holds_on ws ps) (links_of ws) (subst (λ (x : ℕ). Passed (holds_on ws ps) x) e I.passed)

    pub walk_held : Ok tally ≡ walk_on ws ps
    unfolding walk_of
    walk_held = rw (all, le-ltb (links_of ws) (links_of ws) (N.le_refl (links_of ws))) (ap Ok (I.tally_is ∙ ap (tallied_of (job_of ws).tolerance (pos 0) (link_term_on ws ps)) e))

    pub walk_held_parts : Added (parts_on ws ps (held_on ws ps)) parts₀ parts
    walk_held_parts = subst (λ (k : ℕ). Added (parts_on ws ps k) parts₀ parts) (e ∙ sym all) I.parts_added
