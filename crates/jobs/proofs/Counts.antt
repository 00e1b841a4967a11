-- What a job's words read back as: a count is a small number, which a cast keeps; the constant and the tolerance are words as they are.
use Prim.Native.Nat.{ℕ, zero, suc, ◌+◌, ◌*◌, ◌≤◌, ◌<◌}
use mathlib.Core.Path.{◌≡◌, refl, subst, ◌∙◌}
use mathlib.Core.Bool.{Bool, true, false}
use mathlib.Core.List.{List}
use native.Mathlib.Nat as N
use native.Mathlib.Omega.{arith}
use borrow.Author.Tests.{ne_eqb, eqb-true}
use lib.Dec.{lit<}
use lib.IntN.{ℤ, pos, nat_abs}
use lib.ListN.{length}
use mir.Syntax.{w64}
use mir.Val.{SFits, to_z, of_z}
use mir.Facts.{to_z-of_z}
use Rattle.whole.proofs.Fits.{small_fits, gives}
use Rattle.fields.specs.Table.{order_used}
use Rattle.jobs.specs.Words.{word_at, count_at, cells_of, is_grid, head_words, columns_of, job_of}
use Rattle.jobs.specs.Allowed.{Upto, CellAllowed, Counts, Allowed, Laid}
use Rattle.jobs.proofs.Places.{head_of_grid, head_some, cells_inside, columns_few}
use Rattle.jobs.proofs.Shapes.{order_line, columns_grid, order_grid, across_grid, second_grid}

-- a signed local that holds a natural number
pub natural_read : {most : ℕ} (x : ℤ) → Upto most x → SFits w64 x → to_z w64 (of_z w64 x) ≡ pos (nat_abs x)
natural_read x h f = to_z-of_z f ∙ h.natural

pub counts_read : {ws : List ℤ} {at : ℕ} → Counts ws at → to_z w64 (of_z w64 (word_at ws at)) ≡ pos (count_at ws at)
counts_read {ws} {at} h = gives h.natural (small_fits (pos (count_at ws at)) h.small (lit< tt))

-- an order field is at most the order used
field_used : (x : ℕ) → x ≤ order_used x
field_used zero = omega arith
field_used (suc x) = rw (ne_eqb (suc x) 0 (omega arith)) (N.le_refl (suc x))

module _ {ws : List ℤ} (A : Allowed (job_of ws)) (L : Laid ws) where
  pub constant_read : to_z w64 (of_z w64 (job_of ws).constant) ≡ (job_of ws).constant
  constant_read = gives refl (small_fits (job_of ws).constant A.constant.small (lit< tt))

  pub tolerance_read : to_z w64 (of_z w64 (job_of ws).tolerance) ≡ (job_of ws).tolerance
  tolerance_read = gives refl (small_fits (job_of ws).tolerance A.tolerance.small (lit< tt))

  inside : {p : ℕ} → p ≤ 6 → p < length ws
  inside h = omega (arith, head_some ws, cells_inside L)

  pub cells_counts : Counts ws 2
  cells_counts = record { inside = inside (omega arith); natural = L.cells; small = omega (arith, A.cells_few) }

  -- an order field is at most 5
  field_few : (t : Bool) → is_grid ws ≡ t → count_at ws 3 ≤ 1000
  field_few true e = omega (arith, eqb-true (count_at ws 3) 5 e)
  field_few false e = omega (arith, A.order_few, order_line ws e, field_used (count_at ws 3))

  pub order_counts : Counts ws 3
  order_counts = record { inside = inside (omega arith); natural = L.order; small = field_few (is_grid ws) refl }

  pub links_counts : {n : ℕ} → n ≡ cells_of ws → Counts ws (head_words ws + 4 * n)
  links_counts e = rw e (record { inside = omega (arith, cells_inside L); natural = L.links; small = omega (arith, A.links_few) })

  -- a grid's own words
  module _ (g : is_grid ws ≡ true) where
    grid_inside : {p : ℕ} → p ≤ 11 → p < length ws
    grid_inside h = omega (arith, head_of_grid ws g, cells_inside L)

    pub columns_counts : Counts ws 5
    columns_counts =
        let few : columns_of ws ≤ cells_of ws = omega (arith, columns_few L A) in
        record { inside = grid_inside (omega arith); natural = (L.grid g).columns; small = omega (arith, columns_grid ws g, few, A.cells_few) }

    pub down_counts : Counts ws 6
    down_counts = record { inside = grid_inside (omega arith); natural = (L.grid g).down; small = omega (arith, order_grid ws g, A.order_few) }

    pub across_counts : Counts ws 7
    across_counts = record { inside = grid_inside (omega arith); natural = (L.grid g).across; small = omega (arith, across_grid ws g, A.across_few) }

    pub second_read : to_z w64 (of_z w64 (word_at ws 8)) ≡ word_at ws 8
    second_read = gives refl (small_fits (word_at ws 8) {c = 999} (subst (λ (z : ℤ). nat_abs z ≤ 999) (second_grid ws g) A.second.small) (lit< tt))

-- the word m of the cell i
pub cell_read : (ws : List ℤ) → Allowed (job_of ws) → (i m : ℕ) → i < cells_of ws → m < 4
    → to_z w64 (of_z w64 (word_at ws (head_words ws + m + 4 * i))) ≡ word_at ws (head_words ws + m + 4 * i)
cell_read ws A i m h l = gives refl (small_fits (word_at ws (head_words ws + m + 4 * i)) {c = 1000000} (small m l) (lit< tt))
  where
    C : CellAllowed (job_of ws) i
    C = A.cell i h

    small : (m : ℕ) → m < 4 → nat_abs (word_at ws (head_words ws + m + 4 * i)) ≤ 1000000
    small zero l = let e : head_words ws + 0 + 4 * i ≡ head_words ws + 4 * i = omega arith in rw e C.crude.small
    small (suc zero) l = omega (arith, C.weight.small)
    small (suc (suc zero)) l = C.floor.small
    small (suc (suc (suc zero))) l = C.ceiling.small
    small (suc (suc (suc (suc m)))) l = absurd (omega arith)
