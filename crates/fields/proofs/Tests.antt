-- Tests that the code makes in another shape than the table.
use Prim.Native.Nat.{ℕ, ◌+◌, ◌-◌, ◌*◌, ◌/◌, ◌%◌, ◌≤◌, ◌<◌}
use mathlib.Core.Path.{◌≡◌}
use mathlib.Core.Bool.{Bool, true, false}
use native.Mathlib.Nat.{le-div_iff_mul-le}
use native.Mathlib.Omega.{arith}
use borrow.Author.Tests.{leb-false, ne_eqb}
use lib.Dec.{leb, eqb}
use Rattle.std.specs.Prelude.{if◌then◌else◌}
use Rattle.fields.specs.Table.{within, are_columns, rows_wanted}
use Rattle.fields.proofs.Rows.{within_both}

-- whether so many rows of x cells are n cells can be told by the quotient first: it says whether the product passes n
pub rows_fit : (n rows x : ℕ) → 2 ≤ x → rows ≤ n / x → rows * x ≤ n
rows_fit n rows x h l = (le-div_iff_mul-le {k = x} {x = rows} {y = n} (omega arith)).0 l

pub too_many : (n rows x : ℕ) → 2 ≤ x → n / x < rows → eqb (rows * x) n ≡ false
too_many n rows x h l = ne_eqb (rows * x) n (λ e. absurd (omega (arith, (le-div_iff_mul-le {k = x} {x = rows} {y = n} (omega arith)).1 (omega (arith, e)))))

pub not_columns : (n rows x : ℕ) → within 2 120 x ≡ true → leb rows (n / x) ≡ false → are_columns n rows x ≡ false
not_columns n rows x h l = rw (h, too_many n rows x (within_both 2 120 x h).0 (leb-false rows (n / x) l))

-- the rows wanted after a row's end are no more than before
pub rows_fewer : (want : ℕ) → rows_wanted want ≤ want / 8
rows_fewer want = go (eqb (want % 8) 0)
  where
    go : (t : Bool) → (if t then want / 8 - 1 else want / 8) ≤ want / 8
    go true = omega arith
    go false = omega arith
