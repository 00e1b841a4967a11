-- What the steps of a tally come to: the running total that is settled once it passes the tolerance, the largest term so far and its place.
use Rattle.std.specs.Prelude.{ℕ, zero, suc, ◌+◌, ℤ, negsuc, ◌+ℤ◌}
use Rattle.std.specs.Int.Signed.{le_z, lt_z}
use Rattle.std.specs.Prelude.{if◌then◌else◌}
use Rattle.tally.specs.declared.Tally.{Tally}
use Rattle.tally.specs.Largest.{largest_of}

-- One term more, unless the total is past the tolerance T already.
abbrev pub settled_of : (T total t : ℤ) → ℤ
settled_of T total t = if le_z total T then total +ℤ t else total

-- The settled total of n terms, from a start.
unfoldable pub run_of : (T start : ℤ) → (t : ℕ → ℤ) → (n : ℕ) → ℤ
run_of T start t zero = start
run_of T start t (suc n) = settled_of T (run_of T start t n) (t n)

-- The largest of n terms; below every term that is not negative where there is none.
unfoldable pub top_of : (t : ℕ → ℤ) → (n : ℕ) → ℤ
top_of t zero = negsuc 0
top_of t (suc n) = t (largest_of t (suc n))

-- A tally with one term more, from its place: the total is settled, and a larger term takes the lead.
abbrev pub tally_of : (T : ℤ) → Tally → (t : ℤ) → (place : ℕ) → Tally
tally_of T tally t place = record {
  total = settled_of T tally.total t;
  largest = if lt_z tally.largest t then t else tally.largest;
  place = if lt_z tally.largest t then place else tally.place;
}

-- The tally of n terms, from a start of the total.
abbrev pub tallied_of : (T start : ℤ) → (t : ℕ → ℤ) → (n : ℕ) → Tally
tallied_of T start t n = record { total = run_of T start t n; largest = top_of t n; place = largest_of t n }

-- The place of the largest term, by the tally of n cells and that of the links: a cell's if they tie.
abbrev pub place_of : (n : ℕ) → (cells links : Tally) → ℕ
place_of n cells links = if lt_z cells.largest links.largest then n + links.place else cells.place
