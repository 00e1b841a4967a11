-- The loop over the cells: each cell term is within its range, and the tally is that of those that were passed.
use Prim.Native.Nat.{ℕ, ◌+◌, ◌≤◌, ◌<◌}
use mathlib.Core.Path.{◌≡◌, refl, sym, ap, subst, ◌∙◌}
use mathlib.Core.List.{List}
use native.Mathlib.Nat as N
use lib.Dec.{lit<, leb→le}
use lib.IntN.{ℤ, pos, nat_abs, ◌+ℤ◌, ◌-ℤ◌, ◌*ℤ◌}
use lib.Signed.{◌≤ℤ◌, le_z, le_z_yes}
use mir.Syntax.{w64}
use mir.Val.{to_z}
use Rattle.whole.proofs.Magnitude.{bound-+}
use Rattle.whole.proofs.Solve.{ring, ◌⊕◌, ◌≗◌}
use Rattle.whole.proofs.Fits.{Holds, small_fits, gives}
use Rattle.certificate.proofs.Terms.{cell_terms_not_negative}
use Rattle.numbers.proofs.Both.{both}
use Rattle.jobs.specs.Words.{word_at, cells_of, links_of, job_of}
use Rattle.tally.specs.declared.term.Supplied.{Supplied}
use Rattle.tally.specs.declared.Tally.{Tally}
use Rattle.tally.specs.Supplied.{limit, amount_of}
use Rattle.tally.specs.Given.{CellNumbers, Amount, Tallies}
use Rattle.tally.specs.Tally.{tally_of, tallied_of}
use Rattle.tally.proofs.Locals.{read, rate_read, weight_read}
use Rattle.tally.proofs.Terms.{cell_small, supplied_amount, supplied_small, true_t}
use Rattle.tally.proofs.Totals.{Runs}
use Rattle.tally.proofs.Tallies.{tallies_call, tallies_next}
use Rattle.measure.specs.Gap.{residual_of}
use Rattle.measure.specs.Given.{Given, ResidualAt, CellAt, Totalling}
use Rattle.measure.specs.OnWords.{smooth_on, link_part_on, residual_on, residual_with, cell_term_with, supplied_with, cell_term_on}
use Rattle.measure.proofs.Walks.{parts_small}
use Rattle.measure.proofs.Directions.{smooth_small}
use Rattle.measure.proofs.Residuals.{slopes_small, slopes}

-- ---- the cell term

module _ {ws ps : List ℤ} {i : ℕ} {r : ℤ} (C : CellAt ws ps i r) where
  cell_numbers_lem : CellNumbers ((job_of ws).weight i) r ((job_of ws).floor i) ((job_of ws).ceiling i) (word_at ps i)
  cell_numbers_lem = record {
    w_in = (C.given.allowed.cell i C.inside).weight;
    box = record {
      r_small = C.r_small;
      lo_in = (C.given.allowed.cell i C.inside).floor;
      hi_in = (C.given.allowed.cell i C.inside).ceiling;
      v_in = C.given.proposed.value i C.inside;
    };
  }

  w_read : read ((job_of ws).weight i) ≡ (job_of ws).weight i
  w_read = weight_read cell_numbers_lem.w_in

  r_read : read r ≡ r
  r_read = gives refl (small_fits r C.r_small (lit< tt))

  lo_read : read ((job_of ws).floor i) ≡ (job_of ws).floor i
  lo_read = rate_read cell_numbers_lem.box.lo_in

  hi_read : read ((job_of ws).ceiling i) ≡ (job_of ws).ceiling i
  hi_read = rate_read cell_numbers_lem.box.hi_in

  v_read : read (word_at ps i) ≡ word_at ps i
  v_read = rate_read cell_numbers_lem.box.v_in

  -- with the words that the code has
  pub cell_call : {w lo hi : ℤ} → w ≡ (job_of ws).weight i → lo ≡ (job_of ws).floor i → hi ≡ (job_of ws).ceiling i
      → CellNumbers (read w) (read r) (read lo) (read hi) (read (word_at ps i))
  cell_call ew el eh = rw (ew, el, eh, w_read, r_read, lo_read, hi_read, v_read) cell_numbers_lem

  cell_term_small : nat_abs (cell_term_with ws ps i r) ≤ 7000000000000000000
  cell_term_small = cell_small ((job_of ws).weight i) r ((job_of ws).floor i) ((job_of ws).ceiling i) (word_at ps i) cell_numbers_lem

  pub cell_amount : {t : Supplied} → t ≡ supplied_with ws ps i r → Amount t
  cell_amount e =
      subst (λ (t : Supplied). Amount t) (sym e) (supplied_small ((job_of ws).weight i) r ((job_of ws).floor i) ((job_of ws).ceiling i) (word_at ps i) cell_numbers_lem)

  pub cell_amount_is : {t : Supplied} → t ≡ supplied_with ws ps i r → amount_of t ≡ cell_term_with ws ps i r
  cell_amount_is e = ap amount_of e ∙ supplied_amount ((job_of ws).weight i) r ((job_of ws).floor i) ((job_of ws).ceiling i) (word_at ps i)

-- ---- the cells of a job and a proposal

module _ {ws ps : List ℤ} (G : Given ws ps) where
  -- what is added to the residual of the cell i
  abbrev added : ℕ → ℤ
  added i = link_part_on ws ps i +ℤ smooth_on ws ps i

  added_most : (i : ℕ) → nat_abs (added i) ≤ 6912000000000
  added_most i = bound-+ (link_part_on ws ps i) (smooth_on ws ps i) (parts_small G (links_of ws) i (N.le_refl (links_of ws))) (smooth_small G i)

  plain_at : (i : ℕ) → i < cells_of ws → ResidualAt ws ps i (added i)
  plain_at i h = record { given = G; inside = h; part_small = added_most i }

  plain_is : (i : ℕ) → residual_with ws ps i (added i) ≡ residual_on ws ps i
  unfolding residual_of
  plain_is i =
      ring 3 (λ a l s. a ⊕ (l ⊕ s) ≗ a ⊕ s ⊕ l) tt (pos 2 *ℤ (job_of ws).weight i *ℤ (word_at ps i -ℤ (job_of ws).crude i)) (link_part_on ws ps i) (smooth_on ws ps i)

  residual_small : (i : ℕ) → i < cells_of ws → nat_abs (residual_on ws ps i) ≤ 7000000000000
  residual_small i h =
      subst (λ (x : ℤ). nat_abs x ≤ 7000000000000) (plain_is i)
      (N.le_trans (slopes_small (slopes (plain_at i h) refl refl)) (leb→le 6916000000000 7000000000000 tt))

  cell_at : (i : ℕ) → i < cells_of ws → CellAt ws ps i (residual_on ws ps i)
  cell_at i h = record { given = G; inside = h; r_small = residual_small i h }

  -- no cell term leaves 64 bits
  pub cell_terms_small : (i : ℕ) → i < cells_of ws → nat_abs (cell_term_on ws ps i) ≤ 7000000000000000000
  cell_terms_small i h = cell_term_small (cell_at i h)

-- ---- the loop over the cells

pub totalling_by : {ws ps : List ℤ} {n : ℕ} {parts : List ℤ} {start start' : ℤ} → start ≡ start' → Totalling ws ps n parts start → Totalling ws ps n parts start'
totalling_by {ws} {ps} {n} {parts} e H = subst (λ (x : ℤ). Totalling ws ps n parts x) e H

module _ {ws ps : List ℤ} {n : ℕ} {parts : List ℤ} {start : ℤ} (H : Totalling ws ps n parts start) where
  inside : {i : ℕ} → i < n → i < cells_of ws
  inside {i} h = subst (λ (x : ℕ). i < x) H.n_is h

  part_read : (i : ℕ) → i < n → read (word_at parts i) ≡ added H.given i
  part_read i h = gives (H.parts_are i h) (small_fits (added H.given i) (added_most H.given i) (lit< tt))

  pub total_residual : (i : ℕ) → i < n → ResidualAt ws ps i (read (word_at parts i))
  total_residual i h = subst (λ (x : ℤ). ResidualAt ws ps i x) (sym (part_read i h)) (plain_at H.given i (inside h))

  residual_is : (i : ℕ) → i < n → {r : ℤ} → r ≡ residual_with ws ps i (read (word_at parts i)) → r ≡ residual_on ws ps i
  residual_is i h q = q ∙ ap (λ (x : ℤ). residual_with ws ps i x) (part_read i h) ∙ plain_is H.given i

  box_of : (i : ℕ) → i < n → ((job_of ws).floor i ≤ℤ word_at ps i) × (word_at ps i ≤ℤ (job_of ws).ceiling i)
  box_of i h =
      let b = both (le_z ((job_of ws).floor i) (word_at ps i)) (le_z (word_at ps i) ((job_of ws).ceiling i)) (H.boxes i h) in
      (le_z_yes (true_t b.0), le_z_yes (true_t b.1))

  pub cells_run : Runs (job_of ws).tolerance start (cell_term_on ws ps) n
  cells_run = record {
    tolerance_in = H.given.allowed.tolerance;
    start_least = H.start_least;
    start_small = H.start_small;
    least = λ i h.
        cell_terms_not_negative limit ((job_of ws).weight i) (residual_on ws ps i) ((job_of ws).floor i) ((job_of ws).ceiling i) (word_at ps i)
        (box_of i h).0 (box_of i h).1;
    small = λ i h. cell_terms_small H.given i (inside h);
  }

  -- in the round i
  module _ {i : ℕ} (h : i < n) {r : ℤ}
      (q : r ≡ residual_with ws ps i (read (word_at parts i))) where
    pub r_is : read r ≡ residual_on ws ps i
    r_is = gives (residual_is i h q) (small_fits (residual_on ws ps i) (residual_small H.given i (inside h)) (lit< tt))

    pub total_cell : CellAt ws ps i (read r)
    total_cell = subst (λ (x : ℤ). CellAt ws ps i x) (sym r_is) (cell_at H.given i (inside h))

    -- with what the code has for the cell term
    module _ {s : Supplied} (u : s ≡ supplied_with ws ps i (read r)) where
      pub total_amount : Amount s
      total_amount = cell_amount total_cell u

      module _ {t : ℤ} (w : t ≡ amount_of s) {tolerance : ℕ} {tally : Tally} (et : Holds tolerance (job_of ws).tolerance)
          (T : tally ≡ tallied_of (job_of ws).tolerance start (cell_term_on ws ps) i) where
        t_is : t ≡ cell_term_on ws ps i
        t_is = w ∙ cell_amount_is total_cell u ∙ ap (λ (x : ℤ). cell_term_with ws ps i x) r_is

        pub total_tallies : Tallies (to_z w64 tolerance) tally (read t)
        total_tallies = tallies_call cells_run h T et.is t_is

        pub total_next : {g : Tally} → g ≡ tally_of (to_z w64 tolerance) tally (read t) i
            → g ≡ tallied_of (job_of ws).tolerance start (cell_term_on ws ps) (i + 1)
        total_next eg = tallies_next cells_run h T et.is t_is eg
