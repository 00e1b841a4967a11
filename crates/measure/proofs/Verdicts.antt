-- What the check hands from one step to the next: the boxes, the walk over the links, and the gap that the running total decides.
use Prim.Native.Nat.{ℕ, ◌+◌, ◌≤◌, ◌<◌}
use mathlib.Core.Path.{◌≡◌, refl, sym, ap, ap₂, subst, subst₂, ◌∙◌}
use mathlib.Core.Bool.{Bool, true, false}
use mathlib.Core.List.{List}
use native.Mathlib.Nat as N
use native.Mathlib.Omega.{arith}
use borrow.Author.Tests.{lt-ltb, le-ltb, ltb-false}
use lib.Dec.{lit<, ltb, leb→le}
use lib.IntN.{ℤ, pos, nat_abs, ◌+ℤ◌, ◌*ℤ◌, +ℤ_idl, +ℤ_comm}
use lib.ListN.{replicate, length-replicate}
use lib.Signed.{◌≤ℤ◌, le_z, lt_z, le_z_yes}
use mir.Syntax.{w64}
use mir.Val.{SFits}
use Rattle.whole.specs.Sum.{sum}
use Rattle.whole.proofs.Sums.{sum_zero}
use Rattle.whole.proofs.Fits.{small_fits, gives}
use Rattle.std.specs.Prelude.{if◌then◌else◌}
use Rattle.numbers.proofs.Clash.{clash}
use Rattle.jobs.specs.Job.{link_coefficient}
use Rattle.jobs.specs.Words.{word_at, cells_of, links_of, job_of}
use Rattle.jobs.proofs.Places.{zeros_at}
use Rattle.tally.specs.declared.Tally.{Tally}
use Rattle.tally.specs.Largest.{largest_of}
use Rattle.tally.specs.Given.{Led}
use Rattle.tally.specs.Tally.{run_of, top_of, tallied_of, place_of}
use Rattle.tally.proofs.Locals.{read, tolerance_fits}
use Rattle.tally.proofs.Terms.{true_t}
use Rattle.tally.proofs.Totals.{Runs, run_least, run_small, run_fits, Tells, tells_start, run_tells, not_le_lt, lt_not_le}
use Rattle.tally.proofs.Largest.{top_small, largest_few}
use Rattle.measure.specs.Gap.{gap_of}
use Rattle.measure.specs.Largest.{largest_place}
use Rattle.measure.specs.Check.{Verdict, accepting, lowest_failing, verdict_of, verdict_for}
use Rattle.measure.specs.Given.{Given, Smoothing, Walking, Totalling, Parted, Judging}
use Rattle.measure.specs.Running.{Walked, Added, walk_of, outside, met_of, walked_links}
use Rattle.measure.specs.OnWords.{multiplier_on, in_box_on, holds_on, loss_on, smooth_on, cell_term_on, link_term_on, gap_on, judged_on, held_on, parts_on, walk_on, met_on, walked_on}
use Rattle.measure.proofs.Directions.{loss_in_64}
use Rattle.measure.proofs.Largest.{place_is}
use Rattle.measure.proofs.Lowest.{Passed, lowest_all, passed_all}
use Rattle.measure.proofs.Scattered.{added_none}
use Rattle.measure.proofs.Walks.{links_run, parts_small}
use Rattle.measure.proofs.Totalled.{cells_run}
use Rattle.std.specs.Prelude.{Ok, Err}
use Rattle.refusals.specs.declared.Refusal.{Refusal}
use Rattle.refusals.specs.Refusals.{number_of}
use Rattle.refusals.specs.declared.Refusal.TheVariants.{OutsideBox, BrokenLink, GapAbove}

-- ---- 7, 8, and what is left

abbrev met_by : (ws ps : List ℤ) → (outside broken : Bool) → Walked
met_by ws ps outside broken =
    if outside then Err (OutsideBox (lowest_failing (in_box_on ws ps) (cells_of ws))) else
    if broken then Err (BrokenLink (held_on ws ps)) else
    Ok (tallied_of (job_of ws).tolerance (pos 0) (link_term_on ws ps) (links_of ws))

-- the verdict goes by what the boxes and the walk over the links answer
abbrev on_met : Walked → (kept : Verdict) → Verdict
on_met (Err r) kept = Err r
on_met (Ok tally) kept = kept

met_verdict : (ws ps : List ℤ) → on_met (met_on ws ps) (judged_on ws ps) ≡ verdict_for (job_of ws) ps
unfolding verdict_of met_of walk_of
met_verdict ws ps = go (outside (job_of ws) (word_at ps)) (ltb (held_on ws ps) (links_of ws))
  where
    go : (a b : Bool) → on_met (met_by ws ps a b) (judged_on ws ps)
        ≡ (if a then Err (OutsideBox (lowest_failing (in_box_on ws ps) (cells_of ws))) else if b then Err (BrokenLink (held_on ws ps)) else judged_on ws ps)
    go true b = refl
    go false true = refl
    go false false = refl

module _ (ws ps : List ℤ) {w : Walked} (ew : w ≡ met_on ws ps) where
  pub met_refused : {r : Refusal} → w ≡ Err r → Err r ≡ verdict_for (job_of ws) ps
  met_refused q = ap (λ (x : Walked). on_met x (judged_on ws ps)) (sym q ∙ ew) ∙ met_verdict ws ps

  pub met_judged : {t : Tally} → w ≡ Ok t → judged_on ws ps ≡ verdict_for (job_of ws) ps
  met_judged q = ap (λ (x : Walked). on_met x (judged_on ws ps)) (sym q ∙ ew) ∙ met_verdict ws ps

-- a table that does not meet its job is refused with 7 or 8
pub unmet_number : (ws ps : List ℤ) {r : Refusal} → met_on ws ps ≡ Err r → (7 ≤ number_of r) × (number_of r ≤ 8)
unfolding met_of walk_of
unmet_number ws ps {r} e = go (outside (job_of ws) (word_at ps)) (ltb (held_on ws ps) (links_of ws)) e
  where
    go : (a b : Bool) → met_by ws ps a b ≡ Err r → (7 ≤ number_of r) × (number_of r ≤ 8)
    go true b e = let q : 7 ≡ number_of r = cc in (omega (arith, q), omega (arith, q))
    go false true e = let q : 8 ≡ number_of r = cc in (omega (arith, q), omega (arith, q))
    go false false e = clash (cc)

-- ---- the boxes, then the walk

module _ {ws ps : List ℤ} {n : ℕ} {parts₀ : List ℤ} (W : Walking ws ps n parts₀) {cell : ℕ} (ek : cell ≡ lowest_failing (in_box_on ws ps) (cells_of ws)) where
  module _ (h : cell < n) where
    out : outside (job_of ws) (word_at ps) ≡ true
    out = ap₂ ltb (sym ek) (sym W.n_is) ∙ lt-ltb cell n h

    pub meet_outside : Err (OutsideBox cell) ≡ met_on ws ps
    unfolding met_of
    meet_outside = ap {B = Walked} (λ (p : ℕ). Err (OutsideBox p)) ek ∙ ap (λ (b : Bool). if b then Err (OutsideBox (lowest_failing (in_box_on ws ps) (cells_of ws))) else walk_on ws ps) (sym out)

    pub meet_none : Added (parts_on ws ps (walked_on ws ps)) parts₀ parts₀
    unfolding walked_links
    meet_none =
        added_none parts₀ (λ i. ap (λ (b : Bool). parts_on ws ps (if b then 0 else held_on ws ps) i) out ∙ sum_zero (λ l. multiplier_on ws ps l *ℤ link_coefficient (job_of ws) l i))

  module _ (h : n ≤ cell) where
    inside : outside (job_of ws) (word_at ps) ≡ false
    inside = ap₂ ltb (sym ek) (sym W.n_is) ∙ le-ltb cell n h

    pub meet_walked : {w : Walked} → w ≡ walk_on ws ps → w ≡ met_on ws ps
    unfolding met_of
    meet_walked q = q ∙ ap (λ (b : Bool). if b then Err (OutsideBox (lowest_failing (in_box_on ws ps) (cells_of ws))) else walk_on ws ps) (sym inside)

    pub meet_added : {parts : List ℤ} → Added (parts_on ws ps (held_on ws ps)) parts₀ parts → Added (parts_on ws ps (walked_on ws ps)) parts₀ parts
    unfolding walked_links
    meet_added {parts} A = subst (λ (b : Bool). Added (parts_on ws ps (if b then 0 else held_on ws ps)) parts₀ parts) (sym inside) A

-- ---- a table that meets its job

pub walking : {ws ps : List ℤ} → Given ws ps → {n : ℕ} → n ≡ cells_of ws → Walking ws ps n (replicate 120 (pos 0))
walking G en = record { given = G; n_is = en; room = rw (length-replicate 120 (pos 0)) (omega (arith, en, G.allowed.cells_few)); zeros = zeros_at 120 }

record MetWith (ws ps : List ℤ) (t : Tally) : Type 0 where
  boxed : outside (job_of ws) (word_at ps) ≡ false
  linked : ltb (held_on ws ps) (links_of ws) ≡ false
  tally_is : t ≡ tallied_of (job_of ws).tolerance (pos 0) (link_term_on ws ps) (links_of ws)

met_with : (ws ps : List ℤ) (t : Tally) → met_on ws ps ≡ Ok t → MetWith ws ps t
unfolding met_of walk_of
met_with ws ps t e = go (outside (job_of ws) (word_at ps)) (ltb (held_on ws ps) (links_of ws)) refl refl e
  where
    go : (a b : Bool) → outside (job_of ws) (word_at ps) ≡ a → ltb (held_on ws ps) (links_of ws) ≡ b → met_by ws ps a b ≡ Ok t → MetWith ws ps t
    go true b p q e = clash (cc)
    go false true p q e = clash (cc)
    go false false p q e = record { boxed = p; linked = q; tally_is = cc }

module _ {ws ps : List ℤ} {n : ℕ} {parts₀ : List ℤ} (W : Walking ws ps n parts₀) {t : Tally} (e : met_on ws ps ≡ Ok t) where
  met : MetWith ws ps t
  met = met_with ws ps t e

  kept : Passed (holds_on ws ps) (links_of ws)
  kept = passed_all (holds_on ws ps) (links_of ws) (ltb-false (held_on ws ps) (links_of ws) met.linked)

  all_walked : walked_on ws ps ≡ links_of ws
  unfolding walked_links
  all_walked = ap (λ (b : Bool). if b then 0 else held_on ws ps) met.boxed ∙ lowest_all (holds_on ws ps) (links_of ws) kept

  pub meet_judging : {parts : List ℤ} → Added (parts_on ws ps (walked_on ws ps)) parts₀ parts → Judging ws ps n t parts
  meet_judging {parts} A = record {
    parted = record {
      table = record {
        given = W.given;
        n_is = W.n_is;
        boxes = subst (λ (x : ℕ). Passed (in_box_on ws ps) x) (sym W.n_is) (passed_all (in_box_on ws ps) (cells_of ws) (ltb-false (lowest_failing (in_box_on ws ps) (cells_of ws)) (cells_of ws) met.boxed));
      };
      kept = kept;
      parts_room = subst (λ (x : ℕ). n ≤ x) (sym A.long) W.room;
      parts_are = λ i h.
          A.at i ∙ ap₂ (λ (x : ℤ) (k : ℕ). x +ℤ parts_on ws ps k i) (W.zeros i) all_walked
          ∙ +ℤ_idl (parts_on ws ps (links_of ws) i);
    };
    tally_is = met.tally_is;
  }

-- ---- its differences

module _ {ws ps : List ℤ} {n : ℕ} {parts : List ℤ} (P : Parted ws ps n parts) where
  pub parted_smoothing : Smoothing ws ps n parts
  parted_smoothing = record {
    given = P.table.given;
    n_is = P.table.n_is;
    room = P.parts_room;
    small = λ i h.
        subst (λ (x : ℤ). nat_abs x ≤ 6400000000000) (sym (P.parts_are i h))
        (parts_small P.table.given (links_of ws) i (N.le_refl (links_of ws)));
  }

  pub parted_totalling : {parts' : List ℤ} → Added (smooth_on ws ps) parts parts' → {start : ℤ} → pos 0 ≤ℤ start → nat_abs start ≤ 8000000000000000000 → Totalling ws ps n parts' start
  parted_totalling A l s = record {
    given = P.table.given;
    n_is = P.table.n_is;
    room = omega (arith, P.parts_room, A.long);
    parts_are = λ i h. A.at i ∙ ap (λ (x : ℤ). x +ℤ smooth_on ws ps i) (P.parts_are i h);
    boxes = P.table.boxes;
    start_least = l;
    start_small = s;
  }

-- ---- 9, or the loss and the gap

module _ {ws ps : List ℤ} {n : ℕ} {links : Tally} {parts : List ℤ} (J : Judging ws ps n links parts) where
  abbrev given : Given ws ps
  given = J.parted.table.given

  abbrev n_is : n ≡ cells_of ws
  n_is = J.parted.table.n_is

  module _ {parts' : List ℤ} (A : Added (smooth_on ws ps) parts parts') where
    linked : Runs (job_of ws).tolerance (pos 0) (link_term_on ws ps) (links_of ws)
    linked = links_run (given) (links_of ws) (N.le_refl (links_of ws)) J.parted.kept

    total_is : links.total ≡ run_of (job_of ws).tolerance (pos 0) (link_term_on ws ps) (links_of ws)
    total_is = ap (λ (x : Tally). x.total) J.tally_is

    total_small : nat_abs links.total ≤ 8000000000000000000
    total_small = subst (λ (x : ℤ). nat_abs x ≤ 8000000000000000000) (sym total_is) (run_small linked (links_of ws) (N.le_refl (links_of ws)))

    plain : Totalling ws ps n parts' links.total
    plain =
        parted_totalling J.parted A (subst (λ (x : ℤ). pos 0 ≤ℤ x) (sym total_is) (run_least linked (links_of ws) (N.le_refl (links_of ws)))) total_small

    total_read : read links.total ≡ links.total
    total_read = gives refl (small_fits links.total total_small (lit< tt))

    pub judge_totalling : Totalling ws ps n parts' (read links.total)
    judge_totalling = subst (λ (x : ℤ). Totalling ws ps n parts' x) (sym total_read) plain

    -- with the cells' tally and the tolerance that the code has
    module _ {cells : Tally} {t : ℤ} (eg : cells ≡ tallied_of (job_of ws).tolerance (read links.total) (cell_term_on ws ps) (cells_of ws))
        (et : t ≡ (job_of ws).tolerance) where
      abbrev g : ℤ
      g = cells.total

      celled : Runs (job_of ws).tolerance links.total (cell_term_on ws ps) (cells_of ws)
      celled = subst (λ (x : ℕ). Runs (job_of ws).tolerance links.total (cell_term_on ws ps) x) (n_is) (cells_run plain)

      g_is : g ≡ run_of (job_of ws).tolerance links.total (cell_term_on ws ps) (cells_of ws)
      g_is = ap (λ (x : Tally). x.total) eg ∙ ap (λ (x : ℤ). run_of (job_of ws).tolerance x (cell_term_on ws ps) (cells_of ws)) total_read

      both : pos 0 +ℤ sum (links_of ws) (link_term_on ws ps) +ℤ sum (cells_of ws) (cell_term_on ws ps)
          ≡ gap_on ws ps
      unfolding gap_of
      both =
          ap (λ (x : ℤ). x +ℤ sum (cells_of ws) (cell_term_on ws ps)) (+ℤ_idl (sum (links_of ws) (link_term_on ws ps)))
          ∙ +ℤ_comm (sum (links_of ws) (link_term_on ws ps)) (sum (cells_of ws) (cell_term_on ws ps))

      -- the total decides exactly whether the gap is at most the tolerance
      tells : Tells (job_of ws).tolerance (gap_on ws ps) g
      tells =
          subst₂ (λ (s x : ℤ). Tells (job_of ws).tolerance s x) both (sym g_is)
          (run_tells celled
          (subst (λ (x : ℤ). Tells (job_of ws).tolerance (pos 0 +ℤ sum (links_of ws) (link_term_on ws ps)) x) (sym total_is)
          (run_tells linked (tells_start (job_of ws).tolerance (pos 0)) (links_of ws) (N.le_refl (links_of ws))))
          (cells_of ws) (N.le_refl (cells_of ws)))

      g_read : read g ≡ g
      g_read = gives refl (subst (λ (x : ℤ). SFits w64 x) (sym g_is) (run_fits celled (cells_of ws) (N.le_refl (cells_of ws))))

      test_is : le_z (read g) (read t) ≡ le_z g (job_of ws).tolerance
      test_is = ap₂ le_z g_read (gives et (tolerance_fits given.allowed.tolerance))

      abbrev judged_by : Bool → Verdict
      judged_by o =
          if o then accepting (loss_on ws ps) (gap_on ws ps) else Err (GapAbove (largest_place (job_of ws) (word_at ps) (multiplier_on ws ps)))

      pub judged_accepts : {f : ℤ} → f ≡ loss_on ws ps → le_z (read g) (read t) ≡ true
          → accepting (read f) (read g) ≡ judged_on ws ps
      judged_accepts {f} q e =
          let k : g ≡ gap_on ws ps = tells.exact (le_z_yes (true_t (sym test_is ∙ e))) in
          ap₂ accepting (gives q (loss_in_64 (given))) (g_read ∙ k)
          ∙ ap judged_by (sym (ap (λ (x : ℤ). le_z x (job_of ws).tolerance) (sym k) ∙ sym test_is ∙ e))

      pub judge_led : Led n cells links
      judge_led = record {
        cells_small = subst (λ (x : Tally). nat_abs x.largest ≤ 7000000000000000000) (sym eg) (top_small (cell_term_on ws ps) (cells_of ws) 7000000000000000000 (leb→le 1 7000000000000000000 tt) celled.small);
        links_small = subst (λ (x : Tally). nat_abs x.largest ≤ 7000000000000000000) (sym J.tally_is) (top_small (link_term_on ws ps) (links_of ws) 7000000000000000000 (leb→le 1 7000000000000000000 tt) linked.small);
        few = subst (λ (x : Tally). n + x.place ≤ 280) (sym J.tally_is)
            (omega (arith, n_is, given.allowed.cells_few, given.allowed.links_few, largest_few (link_term_on ws ps) (links_of ws)));
      }

      place_told : {p : ℕ} → p ≡ place_of n cells links → p ≡ largest_place (job_of ws) (word_at ps) (multiplier_on ws ps)
      place_told q =
          q ∙ ap₂ (λ (x y : Tally). place_of n x y) eg J.tally_is
          ∙ ap (λ (k : ℕ). if lt_z (top_of (cell_term_on ws ps) (cells_of ws)) (top_of (link_term_on ws ps) (links_of ws)) then k + largest_of (link_term_on ws ps) (links_of ws) else largest_of (cell_term_on ws ps) (cells_of ws)) (n_is)
          ∙ place_is (job_of ws) (word_at ps) (multiplier_on ws ps) some (celled.least 0 some)
        where
          some : 0 < cells_of ws
          some = omega (arith, given.allowed.cells_some)

      pub judged_refuses : le_z (read g) (read t) ≡ false → {p : ℕ} → p ≡ place_of n cells links → Err (GapAbove p) ≡ judged_on ws ps
      judged_refuses e q =
          ap {B = Verdict} (λ (p : ℕ). Err (GapAbove p)) (place_told q)
          ∙ ap judged_by
          (sym
          (lt_not_le (gap_on ws ps) (job_of ws).tolerance (tells.past (not_le_lt g (job_of ws).tolerance (sym test_is ∙ e)))))
