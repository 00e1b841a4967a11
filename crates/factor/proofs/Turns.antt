-- One turn of each loop of the factor and the solve, and its end: the loops run as their definitions do.
use mathlib.Core.Path.{◌≡◌, refl, sym, ap, ◌∙◌}
use mathlib.Core.Bool.{Bool, true, false}
use mathlib.Core.List.{List, ◌++◌}
use Prim.Native.Nat.{ℕ, zero, suc, ◌+◌, ◌-◌, ◌*◌, ◌≤◌, ◌<◌}
use native.Mathlib.Nat as N
use native.Mathlib.Omega.{arith}
use native.Mathlib.Numerals.{add-one}
use lib.ListN.{length, get_or, set, take, drop, length-set, length-replicate, length-take, length-drop}
use lib.Dec.{eqb, ltb}
use borrow.Author.Tests.{eqb-true, eqb-false, ltb-true, ltb-false}
use Rattle.std.proofs.lemmas.Slice.{put_mid-paste}
use Rattle.std.proofs.lemmas.List.Edits.{sets-eq}
use borrow.Rule.Slice.PartMut.{put_mid}
use lib.Seq.{paste, take-length, sets, length-sets, get_or-set_same, get_or-set_other, get_or-take, get_or-drop}
use lib.IntN.{pos}
use lib.Ieee.{Float, fin, binary64, sub, div, lt, of_bits, nan}
use Rattle.std.specs.Prelude.{Ok, Err}
use Rattle.factor.specs.Factor.{Band, Made, Pivot, Ending, Factor, pivot_at, multiplier_at, start_of, row_at, less_by, lowest, product_of, multiplier_of, row_from, no_multipliers, pivot_of, least, judged_by, judged, value_of, factor_step, on_pivot, factor_from}
use Rattle.factor.specs.Places.{Placed}
use Rattle.factor.specs.Solve.{highest, lower_term, upper_term, forward_from, divided_from, backward_from}

-- from i to n, a turn is left for i and one for each number after it
turn : (i n : ℕ) → i < n → n - i ≡ suc (n - (i + 1))
turn i n h = omega arith

none : (i n : ℕ) → n ≤ i → n - i ≡ 0
none i n h = omega arith

-- ---- the places of a row among those of all rows

pub start_next : (z j : ℕ) → start_of z (j + 1) ≡ start_of z j + (j - lowest j z)
unfolding start_of
start_next z j = ap (start_of z) (add-one j)

-- rows that come later start later
start_later : (z i k : ℕ) → start_of z i ≤ start_of z (i + k)
start_later z i zero = let e : i + 0 ≡ i = omega arith in rw e (N.le_refl (start_of z i))
start_later z i (suc k) =
    let e : i + suc k ≡ i + k + 1 = omega arith in
    rw (e, start_next z (i + k)) (omega (arith, start_later z i k))

pub start_rises : (z i j : ℕ) → i ≤ j → start_of z i ≤ start_of z j
start_rises z i j h = let e : i + (j - i) ≡ j = omega arith in rw e at (start_later z i (j - i))

-- a wider band has no fewer multipliers
pub start_wider : (z y j : ℕ) → z ≤ y → start_of z j ≤ start_of y j
unfolding start_of
start_wider z y zero h = omega arith
start_wider z y (suc j) h = let l = start_wider z y j h in omega arith

-- the starts of a band of at most 48
start_most : (z j : ℕ) → start_of z j ≤ j * z
unfolding start_of
start_most z zero = omega arith
start_most z (suc j) = omega (arith, start_most z j, N.suc-mul j z)

pub start_small : (z j : ℕ) → z ≤ 48 → j ≤ 121 → start_of z j ≤ 5808
start_small z j h k = N.le_trans (start_most z j) (N.le_trans (N.mul-le-mul_left j h) (omega arith))

-- the places below j, and the place j
pub starts_more : (z j : ℕ) (made : List ℕ) → j < length made → ((i : ℕ) → i < j → get_or made i 0 ≡ start_of z i) → (i : ℕ) → i < j + 1 → get_or (set made j (start_of z j)) i 0 ≡ start_of z i
starts_more z j made l h i k = go (eqb i j) refl
  where
    below : (q : i ≡ j → ⊥) (t : Bool) → ltb i j ≡ t → i < j
    below q true e = ltb-true i j e
    below q false e = absurd (q (omega (arith, ltb-false i j e)))

    go : (t : Bool) → eqb i j ≡ t → get_or (set made j (start_of z j)) i 0 ≡ start_of z i
    go true e = let q : i ≡ j = eqb-true i j e in rw q (get_or-set_same made j (start_of z j) 0 l)
    go false e = get_or-set_other made j i (start_of z j) 0 (eqb-false i j e) ∙ h i (below (eqb-false i j e) (ltb i j) refl)

-- a list with the starts of some rows has those of fewer
pub fewer_rows : {z n m : ℕ} {starts : List ℕ} {l : List Float} → m ≤ n → Placed z n starts l → Placed z m starts l
fewer_rows {z} {n} {m} h p = record { listed = record { at = λ i k. p.listed.at i (omega arith) }; room = N.le_trans (start_rises z m n h) p.room }

-- a list as long has as much room
pub as_long : {z n : ℕ} {starts : List ℕ} {l m : List Float} → Placed z n starts l → length m ≡ length l → Placed z n starts m
as_long p e = record { listed = p.listed; room = rw e p.room }

-- a row of its own length fits its places
pub row_fits : {z at k : ℕ} {starts : List ℕ} {l : List Float} (j : ℕ) → Placed z (j + 1) starts l → at ≡ get_or starts j 0 → k ≡ j - lowest j z → at + k ≤ length l
row_fits {z} j p e h = omega (arith, e, p.listed.at j (omega arith), h, start_next z j, p.room)

-- where the row i stands
module _ {z n : ℕ} {starts : List ℕ} {l : List Float} (p : Placed z n starts l) (i : ℕ) (h : i < n) {at end : ℕ} (ea : at ≡ get_or starts i 0) (ee : end ≡ get_or starts (i + 1) 0) where
  pub row_starts : at ≡ start_of z i
  row_starts = ea ∙ p.listed.at i (omega arith)

  pub row_ends : end ≡ at + (i - lowest i z)
  row_ends = ee ∙ p.listed.at (i + 1) (omega arith) ∙ start_next z i ∙ ap (λ (k : ℕ). k + (i - lowest i z)) (sym row_starts)

  pub row_inside : end ≤ length l
  row_inside = N.le_trans (rw (← p.listed.at (i + 1) (omega arith), ← ee) at (start_rises z (i + 1) n (omega arith))) p.room

  -- a part of that many places is the row
  pub row_part : take (end - at) (drop at l) ≡ row_at z l i
  row_part =
      let e : end - at ≡ i - lowest i z = omega (arith, row_ends) in
      rw (e, row_starts)

  pub row_length : length (take (end - at) (drop at l)) ≡ i - lowest i z
  row_length = simp (length-take, length-drop) (omega (arith, row_ends, row_inside))

-- a multiplier of the row m, read where it stands
module _ {z n : ℕ} {starts : List ℕ} {l : List Float} (p : Placed z n starts l) (m j : ℕ) (h : m < n) (near : m ≤ j + z) (k : j < m) {at : ℕ} (ea : at ≡ get_or starts m 0) where
  read_at : at ≡ start_of z m
  read_at = ea ∙ p.listed.at m (omega arith)

  pub read_inside : at + (m - j - 1) < length l
  read_inside =
      let next = start_next z m in
      let rises = start_rises z (m + 1) n (omega arith) in
      omega (arith, read_at, next, rises, p.room)

  pub multiplier_read : get_or l (at + (m - j - 1)) nan ≡ multiplier_at (row_at z l m) m j
  multiplier_read =
      ap (λ (k : ℕ). get_or l (k + (m - j - 1)) nan) read_at
      ∙ sym (get_or-take (m - lowest m z) (drop (start_of z m) l) (m - j - 1) nan (omega arith) ∙ get_or-drop (start_of z m) l (m - j - 1) nan)

module _ (t : ℕ → Float) (m n : ℕ) (x : Float) where
  pub less_more : m < n → less_by t m (n - m) x ≡ less_by t (m + 1) (n - (m + 1)) (sub binary64 x (t m))
  unfolding less_by
  less_more h = ap (λ (k : ℕ). less_by t m k x) (turn m n h)

  pub less_done : n ≤ m → less_by t m (n - m) x ≡ x
  unfolding less_by
  less_done h = ap (λ (k : ℕ). less_by t m k x) (none m n h)

module _ (z : ℕ) (entries d l : List Float) (j lo i : ℕ) (made : List Float) where
  pub multipliers_more : i < j → row_from z entries d l j lo (j - i) i made ≡ row_from z entries d l j lo (j - (i + 1)) (i + 1) (set made (j - i - 1) (multiplier_of z entries d l j lo i made))
  unfolding row_from
  multipliers_more h = ap (λ (k : ℕ). row_from z entries d l j lo k i made) (turn i j h)

  pub multipliers_done : j ≤ i → row_from z entries d l j lo (j - i) i made ≡ made
  unfolding row_from
  multipliers_done h = ap (λ (k : ℕ). row_from z entries d l j lo k i made) (none i j h)

-- a row keeps its places
pub length_row : (z : ℕ) (entries d l : List Float) (j lo n i : ℕ) (made : List Float) → length (row_from z entries d l j lo n i made) ≡ length made
unfolding row_from
length_row z entries d l j lo zero i made = refl
length_row z entries d l j lo (suc n) i made =
    let x = multiplier_of z entries d l j lo i made in
    length_row z entries d l j lo n (i + 1) (set made (j - i - 1) x) ∙ length-set made (j - i - 1) x

-- ---- a step's answer, by the comparison with 1/1,024

pub value_judged : (x : Float) → value_of (judged x) ≡ x
value_judged x = go (lt least x)
  where
    go : (b : Bool) → value_of (judged_by b x) ≡ x
    go true = refl
    go false = refl

module _ (x : Float) where
  pub accepted : lt (of_bits binary64 0x3f50_0000_0000_0000) x ≡ true → Ok x ≡ judged x
  unfolding of_bits
  accepted e = ap {B = Pivot} (λ (b : Bool). judged_by b x) (sym e)

  pub thin : lt (of_bits binary64 0x3f50_0000_0000_0000) x ≡ false → Err x ≡ judged x
  unfolding of_bits
  thin e = ap {B = Pivot} (λ (b : Bool). judged_by b x) (sym e)

module _ (entries d l : List Float) (z j : ℕ) where
  pub step_is : {lo : ℕ} {blank lj : List Float} {x : Float} → lo ≡ lowest j z → blank ≡ no_multipliers (j - lowest j z) → lj ≡ row_from z entries d l j lo (j - lo) lo blank
      → x ≡ less_by (product_of lj j lj j d) lo (j - lo) (get_or entries 0 nan) → (judged x ≡ judged (factor_step entries d l z j).pivot) × (lj ≡ (factor_step entries d l z j).multipliers)
  unfolding factor_step pivot_of
  step_is {lo} {blank} {lj} {x} el eb ej ex =
      let p : lj ≡ row_from z entries d l j (lowest j z) (j - lowest j z) (lowest j z) (no_multipliers (j - lowest j z)) = rw (ej, el, eb) in
      (ap judged (ex ∙ rw (p, el)), p)

  pub made_length : length (factor_step entries d l z j).multipliers ≡ j - lowest j z
  unfolding factor_step
  made_length =
      length_row z entries d l j (lowest j z) (j - lowest j z) (lowest j z) (no_multipliers (j - lowest j z))
      ∙ length-replicate (j - lowest j z) (fin false 0 (pos 0))

-- ---- a row to its places

-- what a copy into a part leaves
pub put_all : (l row now : List Float) (at k : ℕ) → at + length row ≤ length l → now ≡ row → k ≡ length row → put_mid at k l now ≡ sets l at row
put_all l row now at k h e f =
    let p : put_mid at k l now ≡ paste l at row (length row) = put_mid-paste at k l now row (length row) e (sym f) refl in
    p ∙ ap (λ (r : List Float). take at l ++ r ++ drop (at + length row) l) (take-length row) ∙ sym (sets-eq row l at h)

-- ---- the factoring, row by row

module _ (band : Band) (z j : ℕ) (d l : List Float) (n : ℕ) (h : j < n) where
  abbrev made : Made
  made = factor_step (band j) d l z j

  opened : factor_from band z (n - j) j d l ≡ on_pivot (judged made.pivot) j (set d j made.pivot) (sets l (start_of z j) made.multipliers) (factor_from band z (n - (j + 1)) (j + 1) (set d j made.pivot) (sets l (start_of z j) made.multipliers))
  unfolding factor_from
  opened = ap {B = Factor} (λ (k : ℕ). factor_from band z k j d l) (turn j n h)

  -- the row made, with the answer of its pivot
  module _ {y : Float} (g : y ≡ made.pivot) {lj : List Float} (f : lj ≡ made.multipliers) {x : Float} where
    pub factor_more : judged y ≡ Ok x → factor_from band z (n - j) j d l ≡ factor_from band z (n - (j + 1)) (j + 1) (set d j y) (sets l (start_of z j) lj)
    factor_more a = rw (← f, ← g, a) at opened

    pub factor_thin : judged y ≡ Err x → factor_from band z (n - j) j d l ≡ record { ending = Err (record { cell = j; pivot = x }); pivots = set d j y; multipliers = sets l (start_of z j) lj }
    factor_thin a = rw (← f, ← g, a) at opened

  -- the same, by an answer that carries its pivot
  module _ {p : Pivot} (e : p ≡ judged made.pivot) {y : Float} (g : y ≡ value_of p) {l1 : List Float} (f : l1 ≡ sets l (start_of z j) made.multipliers) where
    told : y ≡ made.pivot
    told = g ∙ ap value_of e ∙ value_judged made.pivot

    same : judged y ≡ p
    same = ap {B = Pivot} judged told ∙ sym e

    pub answer_more : {x : Float} → p ≡ Ok x → factor_from band z (n - j) j d l ≡ factor_from band z (n - (j + 1)) (j + 1) (set d j y) l1
    answer_more a = factor_more told refl (same ∙ a) ∙ ap (factor_from band z (n - (j + 1)) (j + 1) (set d j y)) (sym f)

    pub answer_thin : {x : Float} → p ≡ Err x → factor_from band z (n - j) j d l ≡ record { ending = Err (record { cell = j; pivot = x }); pivots = set d j y; multipliers = l1 }
    answer_thin {x} a = factor_thin told refl (same ∙ a) ∙ ap {B = Factor} (λ (l : List Float). record { ending = Err (record { cell = j; pivot = x }); pivots = set d j y; multipliers = l }) (sym f)

pub factor_done : (band : Band) (z j n : ℕ) (d l : List Float) → n ≤ j → factor_from band z (n - j) j d l ≡ record { ending = Ok tt; pivots = d; multipliers = l }
unfolding factor_from
factor_done band z j n d l h = ap {B = Factor} (λ (k : ℕ). factor_from band z k j d l) (none j n h)

-- the multipliers keep their places
pub factor_length : (band : Band) (z n j : ℕ) (d l : List Float) → length (factor_from band z n j d l).multipliers ≡ length l
unfolding factor_from
factor_length band z zero j d l = refl
factor_length band z (suc n) j d l =
    let step = factor_step (band j) d l z j in
    let d1 = set d j step.pivot in
    let l1 = sets l (start_of z j) step.multipliers in
    go (judged step.pivot) d1 l1 (factor_from band z n (j + 1) d1 l1) (factor_length band z n (j + 1) d1 l1) ∙ length-sets l (start_of z j) step.multipliers
  where
    go : (p : Pivot) (d l : List Float) (rest : Factor) → length rest.multipliers ≡ length l → length (on_pivot p j d l rest).multipliers ≡ length l
    go (Ok x) d l rest h = h
    go (Err x) d l rest h = refl

-- the parts of an equal factor are equal
pub parts : {e : Ending} {d l : List Float} {f : Factor} → record { ending = e; pivots = d; multipliers = l } ≡ f → (e ≡ f.ending) × (d ≡ f.pivots) × (l ≡ f.multipliers)
parts q = (ap {B = Ending} (λ (f : Factor). f.ending) q, ap {B = List Float} (λ (f : Factor). f.pivots) q, ap {B = List Float} (λ (f : Factor). f.multipliers) q)

-- ---- forward, division, backward

module _ (l : List Float) (z j n : ℕ) (y : List Float) where
  pub forward_more : j < n → forward_from l z (n - j) j y ≡ forward_from l z (n - (j + 1)) (j + 1) (set y j (less_by (lower_term (row_at z l j) j y) (lowest j z) (j - lowest j z) (get_or y j nan)))
  unfolding forward_from
  forward_more h = ap (λ (k : ℕ). forward_from l z k j y) (turn j n h)

  pub forward_done : n ≤ j → forward_from l z (n - j) j y ≡ y
  unfolding forward_from
  forward_done h = ap (λ (k : ℕ). forward_from l z k j y) (none j n h)

module _ (d : List Float) (j n : ℕ) (y : List Float) where
  pub divided_more : j < n → divided_from d (n - j) j y ≡ divided_from d (n - (j + 1)) (j + 1) (set y j (div binary64 (get_or y j nan) (pivot_at d j)))
  unfolding divided_from
  divided_more h = ap (λ (k : ℕ). divided_from d k j y) (turn j n h)

  pub divided_done : n ≤ j → divided_from d (n - j) j y ≡ y
  unfolding divided_from
  divided_done h = ap (λ (k : ℕ). divided_from d k j y) (none j n h)

module _ (l : List Float) (z n : ℕ) (v : List Float) where
  pub backward_more : (left : ℕ) → 0 < left
      → backward_from l z n left v ≡ backward_from l z n (left - 1) (set v (left - 1) (less_by (upper_term z l (left - 1) v) (left - 1 + 1) (highest (left - 1) z n - (left - 1)) (get_or v (left - 1) nan)))
  unfolding backward_from
  backward_more zero h = absurd (omega arith)
  backward_more (suc j) h = let e : suc j - 1 ≡ j = omega arith in rw e

  pub backward_done : (left : ℕ) → left ≤ 0 → backward_from l z n left v ≡ v
  unfolding backward_from
  backward_done zero h = refl
  backward_done (suc j) h = absurd (omega arith)
