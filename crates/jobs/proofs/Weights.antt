-- The count of positive weights, row by row: what a row lacks falls as its weights are read, and a row that lacks none is one less to want. The walk
-- carries the two numbers in one.
use Prim.Native.Nat.{ℕ, ◌+◌, ◌-◌, ◌/◌, ◌%◌, ◌≤◌, ◌<◌}
use mathlib.Core.Path.{◌≡◌, refl, sym, ap}
use mathlib.Core.Bool.{Bool, true, false, ◌&&◌}
use native.Mathlib.Omega.{arith}
use borrow.Author.Tests.{leb-true, leb-false, ltb-true, ltb-false, eqb-true, eqb-false, le-leb, lt-leb, lt-ltb, le-ltb}
use lib.Dec.{leb, ltb, eqb}
use Rattle.std.specs.Prelude.{if◌then◌else◌}
use Rattle.fields.specs.declared.cells.Cells.{Cells}
use Rattle.fields.specs.Table.{paired, lacking, rows_wanted, weighed}

-- what a row lacks after a weight, and the rows wanted after a row that lacks so many
abbrev pub lack_after : (lack x : ℕ) → ℕ
lack_after lack x = if ltb 0 x then lack - 1 else lack

abbrev pub want_after : (want lack : ℕ) → ℕ
want_after want lack = if eqb lack 0 then want - 1 else want

pub no_more : (lack x : ℕ) → lack_after lack x ≤ lack
no_more lack x = go (ltb 0 x)
  where
    go : (t : Bool) → (if t then lack - 1 else lack) ≤ lack
    go true = omega arith
    go false = omega arith

-- ---- the two numbers in one

pub pair_first : (a b : ℕ) → b < 8 → paired a b / 8 ≡ a
pair_first a b h = omega arith

pair_second : (a b : ℕ) → b < 8 → paired a b % 8 ≡ b
pair_second a b h = omega arith

pair_lacks : (want lack x : ℕ) → lack < 8 → lacking (paired want lack) x ≡ paired want (lack_after lack x)
pair_lacks want lack x h = rw (pair_second want lack h) (go (ltb 0 x) (ltb 0 lack) refl)
  where
    go : (s t : Bool) → ltb 0 lack ≡ t → (if s && t then paired want lack - 1 else paired want lack) ≡ paired want (if s then lack - 1 else lack)
    go true true e = omega (arith, ltb-true 0 lack e)
    go true false e = omega (arith, ltb-false 0 lack e)
    go false t e = refl

pair_wants : (want lack : ℕ) → lack < 8 → rows_wanted (paired want lack) ≡ want_after want lack
pair_wants want lack h = rw (pair_second want lack h, pair_first want lack h)

-- the cell of a walk, and the cell after its weight: in its row, and at the row's end
module _ (n columns across : ℕ) where
  abbrev pub cell_at : (want lack column cell : ℕ) → Cells
  cell_at want lack column cell = record { n = n; row = paired columns across; want = paired want lack; column = column; cell = cell }

  module _ (want lack column i x : ℕ) (few : across < 8) (small : lack < 8) where
    pub weighed_inside : column + 1 < columns → weighed (cell_at want lack column i) x ≡ cell_at want (lack_after lack x) (column + 1) i
    weighed_inside h = rw (pair_first columns across few, lt-ltb (column + 1) columns h, pair_lacks want lack x small)

    pub weighed_end : columns ≤ column + 1 → weighed (cell_at want lack column i) x ≡ cell_at (want_after want (lack_after lack x)) across 0 i
    weighed_end h =
        let less : lack_after lack x < 8 = omega (arith, no_more lack x) in
        rw (pair_first columns across few, le-ltb (column + 1) columns h, pair_lacks want lack x small, pair_wants want (lack_after lack x) less, pair_second columns across few)

-- ---- what they count

-- what a weight counts, and what a row counts that lacks so many of p
abbrev pub counts : ℕ → ℕ
counts x = if ltb 0 x then 1 else 0

abbrev pub full : (lack p : ℕ) → ℕ
full lack p = if leb lack p then 1 else 0

one_less : (lack p : ℕ) → leb (lack - 1) p ≡ leb lack (1 + p)
one_less lack p = go (leb (lack - 1) p) refl
  where
    go : (t : Bool) → leb (lack - 1) p ≡ t → t ≡ leb lack (1 + p)
    go true e = sym (le-leb lack (1 + p) (omega (arith, leb-true (lack - 1) p e)))
    go false e = sym (lt-leb lack (1 + p) (omega (arith, leb-false (lack - 1) p e)))

-- inside a row
pub lacks_less : (lack x p : ℕ) → full (lack_after lack x) p ≡ full lack (counts x + p)
lacks_less lack x p = go (ltb 0 x)
  where
    go : (t : Bool) → full (if t then lack - 1 else lack) p ≡ full lack ((if t then 1 else 0) + p)
    go true = ap (λ (t : Bool). if t then 1 else 0) (one_less lack p)
    go false = let e : 0 + p ≡ p = omega arith in rw e

-- at a row's end
none_lacks : (lack : ℕ) → leb lack 0 ≡ eqb lack 0
none_lacks lack = go (leb lack 0) (eqb lack 0) refl refl
  where
    go : (s t : Bool) → leb lack 0 ≡ s → eqb lack 0 ≡ t → s ≡ t
    go true true a b = refl
    go true false a b = absurd (eqb-false lack 0 b (omega (arith, leb-true lack 0 a)))
    go false true a b = absurd (omega (arith, leb-false lack 0 a, eqb-true lack 0 b))
    go false false a b = refl

pub row_held : (want lack q : ℕ) → want_after want lack ≤ q → want ≤ full lack 0 + q
row_held want lack q h = rw (none_lacks lack) (go (eqb lack 0) h)
  where
    go : (t : Bool) → (if t then want - 1 else want) ≤ q → want ≤ (if t then 1 else 0) + q
    go true h = omega arith
    go false h = omega arith

pub held_row : (want lack q : ℕ) → want ≤ full lack 0 + q → want_after want lack ≤ q
held_row want lack q h = go (eqb lack 0) (rw (none_lacks lack) at h)
  where
    go : (t : Bool) → want ≤ (if t then 1 else 0) + q → (if t then want - 1 else want) ≤ q
    go true h = omega arith
    go false h = omega arith
