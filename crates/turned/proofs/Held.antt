-- Refusal 4 in reverse: as many rows hold the order across of positive weights. Within a row the columns are turned about, and then the rows themselves; neither count
-- sees it.
use Prim.Native.Nat.{ℕ, ◌+◌, ◌*◌, ◌<◌}
use mathlib.Core.Path.{◌≡◌, refl, sym, ap, ap₂, ◌∙◌}
use mathlib.Core.Bool.{Bool}
use native.Mathlib.Nat as N
use lib.Dec.{leb}
use lib.IntN.{pos}
use lib.Signed.{lt_z}
use Rattle.std.specs.Prelude.{if◌then◌else◌}
use Rattle.whole.specs.Turned.{grid_map}
use Rattle.whole.proofs.Turned.{Involution}
use Rattle.whole.proofs.Grids.{map_at, cell_inside}
use Rattle.jobs.specs.Job.{Job}
use Rattle.jobs.specs.Allowed.{positives, rows_held}
use Rattle.turned.proofs.Tallies.{Tally, tally_turned}

abbrev positive : Job → ℕ → Bool
positive j i = lt_z (pos 0) (j.weight i)

-- the positive weights of a row that starts at a cell
row_tally : (j : Job) (start : ℕ) → Tally (λ c. positive j (start + c)) (λ i k. positives j (start + i) k)
unfolding positives
row_tally j start = record {
  none = λ i. refl;
  more = λ i k. ap (λ (x : ℕ). (if positive j (start + i) then 1 else 0) + positives j x k) (sym (N.add-suc start i));
}

abbrev holds : Job → ℕ → Bool
holds j r = leb j.across (positives j (r * j.columns) j.columns)

-- the rows that hold enough of them
rows_tally : (j : Job) → Tally (holds j) (λ r k. rows_held j (r * j.columns) k)
unfolding rows_held
rows_tally j = record {
  none = λ i. refl;
  more = λ r k. ap (λ (x : ℕ). (if holds j r then 1 else 0) + rows_held j x k) (sym (N.suc-mul r j.columns));
}

module _ (j r : Job) (same_columns : r.columns ≡ j.columns) (same_across : r.across ≡ j.across) (rows : ℕ) (α β : ℕ → ℕ)
    (I : Involution rows α) (J : Involution j.columns β)
    (turned : (i : ℕ) → i < rows * j.columns → r.weight i ≡ j.weight (grid_map j.columns α β i)) where
  abbrev width : ℕ
  width = j.columns

  same_positives : (m : ℕ) → m < rows → positives r (m * width) width ≡ positives j (α m * width) width
  same_positives m h =
      ap (λ (x : ℕ). positives r x width) (sym (N.add-zero (m * width)))
      ∙ tally_turned J (row_tally r (m * width)) (row_tally j (α m * width))
      (λ c l. ap (lt_z (pos 0)) (turned (m * width + c) (cell_inside rows width m c h l) ∙ ap j.weight (map_at width α β m c l)))
      ∙ ap (λ (x : ℕ). positives j x width) (N.add-zero (α m * width))

  same_holds : (m : ℕ) → m < rows → holds r m ≡ holds j (α m)
  same_holds m h =
      ap₂ (λ (a c : ℕ). leb a (positives r (m * c) c)) same_across same_columns ∙ ap (leb j.across) (same_positives m h)

  pub same_held : rows_held r 0 rows ≡ rows_held j 0 rows
  same_held =
      ap (λ (x : ℕ). rows_held r x rows) (sym (N.zero-mul r.columns))
      ∙ tally_turned I (rows_tally r) (rows_tally j) same_holds
      ∙ ap (λ (x : ℕ). rows_held j x rows) (N.zero-mul j.columns)
