-- A step of the factoring, in the form that the code answers it, and a row among its places.
use Rattle.std.proofs.Common.{◌≡◌, ℕ, zero, suc, ◌+◌, ◌-◌, ◌≤◌, List, [], ◌∷◌, ◌++◌, length, take, drop, replicate, sym, refl, ap, ◌∙◌, arith}
use lib.Ieee.{Float}
use lib.ListN.{length-replicate}
use lib.Seq.{sets, length-sets, sets-eq}
use Rattle.factor.specs.Factor.{Pivot, Band, Made, lowest, start_of, judged, value_of, factor_step}
use Rattle.factor.proofs.Turns.{value_judged, made_length}
use Rattle.house.specs.declared.factoring.Step.{Step}
use Rattle.house.specs.Band.{zero64}
use Rattle.house.specs.Factoring.{answered}

-- a part of a list of zeros
pub take_same : {A : Type 0} (x : A) (m k : ℕ) → m ≤ k → take m (replicate k x) ≡ replicate m x
take_same x zero k h = refl
take_same x (suc m) zero h = absurd (omega arith)
take_same x (suc m) (suc k) h = ap (λ (xs : List _). x ∷ xs) (take_same x m k (omega arith))

pub blank_part : (n : ℕ) {count m : ℕ} → count ≡ m → m ≤ n → take (count - 0) (replicate n zero64) ≡ replicate m zero64
blank_part n {count} {m} e h = let q : count - 0 ≡ m = omega arith in rw q (take_same zero64 m n h)

-- that part, with a row in its place, is the row before the rest
pub row_put : (n : ℕ) {ys zs : List Float} {count : ℕ} → ys ≡ zs → count ≡ length zs → length zs ≤ n → ys ++ drop (count - 0) (replicate n zero64) ≡ sets (replicate n zero64) 0 ys
row_put n {ys} {zs} {count} ey e h =
    let q : count - 0 ≡ 0 + length ys = omega (arith, ap length ey) in
    ap (λ (k : ℕ). ys ++ drop k (replicate n zero64)) q ∙ sym (sets-eq ys (replicate n zero64) 0 (rw (length-replicate n zero64) (omega (arith, ap length ey))))

take_front : (ys xs : List Float) → take (length ys) (ys ++ xs) ≡ ys
take_front [] xs = refl
take_front (y ∷ ys) xs = ap (λ (r : List Float). y ∷ r) (take_front ys xs)

pub step_answered : (m : Made) {p : Pivot} {lj all : List Float} {x : Float} → (p ≡ judged m.pivot) × (lj ≡ m.multipliers) → x ≡ value_of p
    → all ≡ sets (replicate 4 zero64) 0 lj → record { pivot = p; row = record { pivot = x; multipliers = all } } ≡ answered m
step_answered m {p} {lj} {all} {x} e ex ea =
    let y : x ≡ m.pivot = ex ∙ ap value_of e.0 ∙ value_judged m.pivot in
    let z : all ≡ sets (replicate 4 zero64) 0 m.multipliers = ea ∙ ap (sets (replicate 4 zero64) 0) e.1 in
    rw (e.0, z, y)

-- a line's step among its places: what it answers is the definition's, and the part of its row that is put is the row
module _ (band : Band) (d l : List Float) (z j : ℕ) (few : z ≤ 4) {s : Step} (e : s ≡ answered (factor_step (band j) d l z j)) where
  abbrev made : Made
  made = factor_step (band j) d l z j

  own : length made.multipliers ≡ j - lowest j z
  own = made_length (band j) d l z j

  back : (ys : List Float) → length ys ≤ 4 → take (length ys) (sets (replicate 4 zero64) 0 ys) ≡ ys
  back ys h = ap (take (length ys)) (sets-eq ys (replicate 4 zero64) 0 (omega arith)) ∙ take_front ys (drop (0 + length ys) (replicate 4 zero64))

  row : s.row.multipliers ≡ sets (replicate 4 zero64) 0 made.multipliers
  row = ap {B = List Float} (λ (s : Step). s.row.multipliers) e

  pub line_length : length s.row.multipliers ≡ 4
  line_length = ap length row ∙ length-sets (replicate 4 zero64) 0 made.multipliers

  pub line_told : (s.pivot ≡ judged made.pivot) × (s.row.pivot ≡ value_of s.pivot)
      × (sets l (start_of z j) (take (j - lowest j z) s.row.multipliers) ≡ sets l (start_of z j) made.multipliers)
  line_told =
      let p : s.pivot ≡ judged made.pivot = ap {B = Pivot} (λ (s : Step). s.pivot) e in
      let q : take (j - lowest j z) s.row.multipliers ≡ made.multipliers = rw (row, ← own) (back made.multipliers (omega (arith, own))) in
      (p, ap {B = Float} (λ (s : Step). s.row.pivot) e ∙ sym (ap value_of p ∙ value_judged made.pivot), ap (sets l (start_of z j)) q)

-- a step by the entries of its row
pub step_of : (d l : List Float) (z j : ℕ) {entries row l1 lj : List Float} {p : Pivot} → entries ≡ row
    → (p ≡ judged (factor_step entries d l z j).pivot) × (l1 ≡ sets l (start_of z j) (factor_step entries d l z j).multipliers) × (lj ≡ (factor_step entries d l z j).multipliers)
    → (p ≡ judged (factor_step row d l z j).pivot) × (l1 ≡ sets l (start_of z j) (factor_step row d l z j).multipliers)
step_of d l z j e q = (q.0 ∙ rw e, q.1 ∙ rw e)
