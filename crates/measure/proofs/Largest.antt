-- The terms of a gap by their places, and the place of the largest, which the tallies of the cells and of the links give.
use Prim.Native.Nat.{ℕ, ◌+◌, ◌-◌, ◌<◌}
use mathlib.Core.Path.{◌≡◌, refl, ap, ◌∙◌}
use mathlib.Core.Bool.{Bool}
use native.Mathlib.Omega.{arith}
use borrow.Author.Tests.{lt-ltb, le-ltb}
use lib.IntN.{ℤ, pos}
use lib.Signed.{◌≤ℤ◌, lt_z}
use Rattle.std.specs.Prelude.{if◌then◌else◌}
use Rattle.jobs.specs.Job.{Job}
use Rattle.tally.specs.Largest.{largest_of}
use Rattle.tally.specs.Tally.{top_of}
use Rattle.tally.proofs.Largest.{largest_some, largest_one, tops, leads}
use Rattle.measure.specs.Gap.{cell_term_of, link_term_of}
use Rattle.measure.specs.Largest.{term_at, largest_place}

pub front_is : (j : Job) (v y : ℕ → ℤ) (i : ℕ) → i < j.cells → term_at j v y i ≡ cell_term_of j v y i
front_is j v y i h = ap (λ (o : Bool). if o then cell_term_of j v y i else link_term_of j v y (i - j.cells)) (lt-ltb i j.cells h)

pub back_is : (j : Job) (v y : ℕ → ℤ) (l : ℕ) → term_at j v y (j.cells + l) ≡ link_term_of j v y l
back_is j v y l =
    let e : j.cells + l - j.cells ≡ l = omega arith in
    ap (λ (o : Bool). if o then cell_term_of j v y (j.cells + l) else link_term_of j v y (j.cells + l - j.cells)) (le-ltb (j.cells + l) j.cells (omega arith))
    ∙ ap (link_term_of j v y) e

-- the tallies of the cells and of the links give the place of the largest term of the gap
pub place_is : (j : Job) (v y : ℕ → ℤ) → 0 < j.cells → pos 0 ≤ℤ cell_term_of j v y 0
    → (if lt_z (top_of (cell_term_of j v y) j.cells) (top_of (link_term_of j v y) j.links) then j.cells + largest_of (link_term_of j v y) j.links else largest_of (cell_term_of j v y) j.cells)
    ≡ largest_place j v y
place_is j v y some least = largest_one {t = term_at j v y}
    (leads some least (front_is j v y) (back_is j v y) (tops (cell_term_of j v y) j.cells) (tops (link_term_of j v y) j.links)
    (lt_z (top_of (cell_term_of j v y) j.cells) (top_of (link_term_of j v y) j.links)) refl)
    (largest_some (term_at j v y) (j.cells + j.links) (omega arith))
