-- Bounds and cases of the terms of the gap, over plain numbers: a box term is at most 7·10^18, a square term a little over 4·10^18, a link term
-- 1.04·10^18.
use Prim.Native.Nat.{ℕ, zero, suc, ◌+◌, ◌-◌, ◌*◌, ◌≤◌, ◌<◌, zero-le}
use mathlib.Core.Path.{◌≡◌, refl, sym, ap, ap₂, subst, subst₂, ◌∙◌}
use mathlib.Core.Bool.{Bool, true, false, cond, ◌&&◌}
use native.Mathlib.Nat as N
use native.Mathlib.Omega.{arith}
use lib.Dec.{T, lit<, leb, leb→le, ltb, ltb→lt}
use lib.IntN.{ℤ, pos, negsuc, nat_abs, ◌+ℤ◌, ◌-ℤ◌, ◌*ℤ◌, +ℤ_idl}
use lib.Signed.{◌≤ℤ◌, le_z, lt_z, le_z_yes, quot_z}
use borrow.Author.Tests.{ltb-true, ltb-false, leb-true, le-ltb, le-leb}
use mir.Syntax.{w64}
use mir.Val.{SFits, of_z}
use Rattle.whole.proofs.Order.{≤ℤ-trans}
use Rattle.whole.proofs.Magnitude.{bound--, bound-*, nat_abs_le_of, nat_abs_sq}
use Rattle.whole.proofs.Fits.{small_fits, gives}
use Rattle.certificate.specs.Terms.{box_term, square_term, smaller, square_counts, cell_term}
use Rattle.std.specs.Prelude.{if◌then◌else◌}
use Rattle.numbers.proofs.Clash.{clash}
use Rattle.jobs.specs.Allowed.{Upto}
use Rattle.jobs.proofs.Places.{upto_le}
use Rattle.tally.specs.declared.term.Supplied.{Supplied}
use Rattle.tally.specs.declared.term.Supplied.TheVariants.{ByBox, ByWeight}
use Rattle.tally.specs.Supplied.{limit, lesser_of, supplied, amount_of}
use Rattle.tally.specs.Given.{Boxed, Squares, CellNumbers, LinkNumbers, Amount}
use Rattle.tally.proofs.Locals.{read, rate_read, weight_read, multiplier_read}

-- ---- the box term

-- two numbers up to c are at most c apart
apart : (a b c : ℕ) → a ≤ c → b ≤ c → nat_abs (pos a -ℤ pos b) ≤ c
apart a zero c h k = omega arith
apart a (suc b) c h k = go (ltb a (suc b)) (λ t. ltb→lt a (suc b) t)
  where
    go : (o : Bool) → (T o → a < suc b) → nat_abs (cond o (negsuc (suc b - suc a)) (pos (a - suc b))) ≤ c
    go true f = let l : a < suc b = f tt in omega arith
    go false f = omega arith

pub apart_small : {a b : ℤ} {c : ℕ} → Upto c a → Upto c b → nat_abs (a -ℤ b) ≤ c
apart_small {a} {b} {c} h k =
    subst₂ (λ (x y : ℤ). nat_abs (x -ℤ y) ≤ c) (sym h.natural) (sym k.natural) (apart (nat_abs a) (nat_abs b) c h.small k.small)

box_above : (r lo hi v : ℤ) → lt_z (pos 0) r ≡ true → r *ℤ (v -ℤ lo) ≡ box_term r lo hi v
box_above (pos zero) lo hi v e = absurd (omega (arith, ltb-true 0 0 e))
box_above (pos (suc n)) lo hi v e = refl
box_above (negsuc n) lo hi v e = clash (cc)

box_below : (r lo hi v : ℤ) → lt_z r (pos 0) ≡ true → (pos 0 -ℤ r) *ℤ (hi -ℤ v) ≡ box_term r lo hi v
box_below (pos n) lo hi v e = absurd (omega (arith, ltb-true n 0 e))
box_below (negsuc n) lo hi v e = ap (λ (x : ℤ). x *ℤ (hi -ℤ v)) (+ℤ_idl (pos (suc n)))

box_level : (r lo hi v : ℤ) → lt_z (pos 0) r ≡ false → lt_z r (pos 0) ≡ false → pos 0 ≡ box_term r lo hi v
box_level (pos zero) lo hi v e q = refl
box_level (pos (suc n)) lo hi v e q = absurd (omega (arith, ltb-false 0 (suc n) e))
box_level (negsuc n) lo hi v e q = clash (cc)

box_small : (r lo hi v : ℤ) → Boxed r lo hi v → nat_abs (box_term r lo hi v) ≤ 7000000000000000000
box_small (pos zero) lo hi v h = zero-le
box_small (pos (suc n)) lo hi v h = bound-* (pos (suc n)) (v -ℤ lo) h.r_small (apart_small h.v_in h.lo_in)
box_small (negsuc n) lo hi v h = bound-* (pos (suc n)) (hi -ℤ v) h.r_small (apart_small h.hi_in h.v_in)

-- the expressions of the code, and what they come to
module _ {r lo hi v : ℤ} (h : Boxed r lo hi v) where
  r_is : read r ≡ r
  r_is = gives refl (small_fits r h.r_small (lit< tt))

  pub up_is : read v -ℤ read lo ≡ v -ℤ lo
  up_is = ap₂ ◌-ℤ◌ (rate_read h.v_in) (rate_read h.lo_in)

  pub up_fits : SFits w64 (v -ℤ lo)
  up_fits = small_fits (v -ℤ lo) (apart_small h.v_in h.lo_in) (lit< tt)

  pub above_is : read r *ℤ read (read v -ℤ read lo) ≡ r *ℤ (v -ℤ lo)
  above_is = ap₂ ◌*ℤ◌ r_is (gives up_is up_fits)

  pub above_fits : SFits w64 (r *ℤ (v -ℤ lo))
  above_fits = small_fits (r *ℤ (v -ℤ lo)) (bound-* r (v -ℤ lo) h.r_small (apart_small h.v_in h.lo_in)) (lit< tt)

  pub above_result : lt_z (pos 0) (read r) ≡ true → read (read r *ℤ read (read v -ℤ read lo)) ≡ box_term r lo hi v
  above_result e = gives above_is above_fits ∙ box_above r lo hi v (sym (ap (λ (x : ℤ). lt_z (pos 0) x) r_is) ∙ e)

  turned_small : nat_abs (pos 0 -ℤ r) ≤ 7000000000000
  turned_small = bound-- (pos 0) r (N.le_refl 0) h.r_small

  pub turned_is : pos 0 -ℤ read r ≡ pos 0 -ℤ r
  turned_is = ap (λ (x : ℤ). pos 0 -ℤ x) r_is

  pub turned_fits : SFits w64 (pos 0 -ℤ r)
  turned_fits = small_fits (pos 0 -ℤ r) turned_small (lit< tt)

  pub down_is : read hi -ℤ read v ≡ hi -ℤ v
  down_is = ap₂ ◌-ℤ◌ (rate_read h.hi_in) (rate_read h.v_in)

  pub down_fits : SFits w64 (hi -ℤ v)
  down_fits = small_fits (hi -ℤ v) (apart_small h.hi_in h.v_in) (lit< tt)

  pub below_is : read (pos 0 -ℤ read r) *ℤ read (read hi -ℤ read v) ≡ (pos 0 -ℤ r) *ℤ (hi -ℤ v)
  below_is = ap₂ ◌*ℤ◌ (gives turned_is turned_fits) (gives down_is down_fits)

  pub below_fits : SFits w64 ((pos 0 -ℤ r) *ℤ (hi -ℤ v))
  below_fits = small_fits ((pos 0 -ℤ r) *ℤ (hi -ℤ v)) (bound-* (pos 0 -ℤ r) (hi -ℤ v) turned_small (apart_small h.hi_in h.v_in)) (lit< tt)

  pub below_result : lt_z (read r) (pos 0) ≡ true → read (read (pos 0 -ℤ read r) *ℤ read (read hi -ℤ read v)) ≡ box_term r lo hi v
  below_result e = gives below_is below_fits ∙ box_below r lo hi v (sym (ap (λ (x : ℤ). lt_z x (pos 0)) r_is) ∙ e)

  pub level_result : lt_z (pos 0) (read r) ≡ false → lt_z (read r) (pos 0) ≡ false → pos 0 ≡ box_term r lo hi v
  level_result e q =
      box_level r lo hi v (sym (ap (λ (x : ℤ). lt_z (pos 0) x) r_is) ∙ e) (sym (ap (λ (x : ℤ). lt_z x (pos 0)) r_is) ∙ q)

-- ---- the square term

minus_one : (m : ℕ) → 1 ≤ m → pos m -ℤ pos 1 ≡ pos (m - 1)
minus_one m h = rw (le-ltb m 1 h)

-- the expressions of the code, all natural numbers
module _ {w r : ℤ} (h : Squares w r) where
  pub four_is : pos 4 *ℤ read w ≡ pos (4 * nat_abs w)
  four_is = ap (λ (x : ℤ). pos 4 *ℤ x) (weight_read h.w_in ∙ h.w_in.natural)

  pub four_fits : SFits w64 (pos (4 * nat_abs w))
  four_fits = small_fits (pos (4 * nat_abs w)) {c = 4000} (omega (arith, h.w_in.small)) (lit< tt)

  pub some_divisor : 0 < of_z w64 (pos 4 *ℤ read w)
  some_divisor = rw four_is (omega (arith, h.w_some))

  squared_small : nat_abs r * nat_abs r ≤ 4000000000000000000
  squared_small = N.mul-le-mul h.r_small h.r_small

  pub times_is : read r *ℤ read r ≡ pos (nat_abs r * nat_abs r)
  times_is = ap (λ (x : ℤ). x *ℤ x) (gives refl (small_fits r h.r_small (lit< tt))) ∙ nat_abs_sq r

  pub times_fits : SFits w64 (pos (nat_abs r * nat_abs r))
  times_fits = small_fits (pos (nat_abs r * nat_abs r)) squared_small (lit< tt)

  pub less_is : read (pos 4 *ℤ read w) -ℤ pos 1 ≡ pos (4 * nat_abs w - 1)
  less_is = ap (λ (x : ℤ). x -ℤ pos 1) (gives four_is four_fits) ∙ minus_one (4 * nat_abs w) (omega (arith, h.w_some))

  pub less_fits : SFits w64 (pos (4 * nat_abs w - 1))
  less_fits = small_fits (pos (4 * nat_abs w - 1)) {c = 4000} (omega (arith, h.w_in.small)) (lit< tt)

  over_small : nat_abs r * nat_abs r + (4 * nat_abs w - 1) ≤ 4000000000000004000
  over_small = omega (arith, squared_small, h.w_in.small)

  pub over_is : read (read r *ℤ read r) +ℤ read (read (pos 4 *ℤ read w) -ℤ pos 1) ≡ pos (nat_abs r * nat_abs r + (4 * nat_abs w - 1))
  over_is = ap₂ ◌+ℤ◌ (gives times_is times_fits) (gives less_is less_fits)

  pub over_fits : SFits w64 (pos (nat_abs r * nat_abs r + (4 * nat_abs w - 1)))
  over_fits = small_fits (pos (nat_abs r * nat_abs r + (4 * nat_abs w - 1))) over_small (lit< tt)

  quotient_small : nat_abs (square_term w r) ≤ 4000000000000004000
  quotient_small = N.le_trans (N.div-le_self (nat_abs r * nat_abs r + (4 * nat_abs w - 1)) (4 * nat_abs w)) over_small

  pub quotient_is : quot_z (read (read (read r *ℤ read r) +ℤ read (read (pos 4 *ℤ read w) -ℤ pos 1))) (read (pos 4 *ℤ read w)) ≡ square_term w r
  quotient_is = ap₂ quot_z (gives over_is over_fits) (gives four_is four_fits)

  pub quotient_fits : SFits w64 (square_term w r)
  quotient_fits = small_fits (square_term w r) quotient_small (lit< tt)

-- ---- where the square counts

some_weight : (w : ℤ) → lt_z (pos 0) w ≡ true → 1 ≤ nat_abs w
some_weight (pos n) e = ltb-true 0 n e
some_weight (negsuc n) e = clash (cc)

pub squares_of : (w r : ℤ) → Upto 1000 w → square_counts limit w r ≡ true → Squares w r
squares_of w r h e = go (lt_z (pos 0) w) refl e
  where
    go : (o : Bool) → lt_z (pos 0) w ≡ o → (o && leb (nat_abs r) limit) ≡ true → Squares w r
    go true q e = record { w_in = h; w_some = some_weight w q; r_small = leb-true (nat_abs r) limit e }
    go false q e = clash (cc)

-- ---- the cell term

smaller_small : (a b : ℤ) {m : ℕ} → nat_abs a ≤ m → nat_abs b ≤ m → nat_abs (smaller a b) ≤ m
smaller_small a b {m} h k = go (le_z a b)
  where
    go : (o : Bool) → nat_abs (cond o a b) ≤ m
    go true = h
    go false = k

pub cell_small : (w r lo hi v : ℤ) → CellNumbers w r lo hi v → nat_abs (cell_term limit w r lo hi v) ≤ 7000000000000000000
cell_small w r lo hi v h = go (square_counts limit w r) refl
  where
    go : (o : Bool) → square_counts limit w r ≡ o → nat_abs (cond o (smaller (box_term r lo hi v) (square_term w r)) (box_term r lo hi v)) ≤ 7000000000000000000
    go true e =
        smaller_small (box_term r lo hi v) (square_term w r) (box_small r lo hi v h.box)
        (N.le_trans (quotient_small (squares_of w r h.w_in e)) (leb→le 4000000000000004000 7000000000000000000 tt))
    go false e = box_small r lo hi v h.box

-- no square is below 0
below_square : (z : ℤ) (q : ℕ) → le_z z (pos 0) ≡ true → le_z z (pos q) ≡ true
below_square (pos n) q e = le-leb n q (N.le_trans (leb-true n 0 e) zero-le)
below_square (negsuc n) q e = refl

-- in code: its calls and its answers
module _ {w r lo hi v : ℤ} (h : CellNumbers w r lo hi v) where
  w_read : read w ≡ w
  w_read = weight_read h.w_in

  r_read : read r ≡ r
  r_read = gives refl (small_fits r h.box.r_small (lit< tt))

  lo_read : read lo ≡ lo
  lo_read = rate_read h.box.lo_in

  hi_read : read hi ≡ hi
  hi_read = rate_read h.box.hi_in

  v_read : read v ≡ v
  v_read = rate_read h.box.v_in

  pub box_call : Boxed (read r) (read lo) (read hi) (read v)
  box_call = rw (r_read, lo_read, hi_read, v_read) h.box

  counts_told : {t o : Bool} → t ≡ square_counts limit (read w) (read r) → t ≡ o → square_counts limit w r ≡ o
  counts_told e q = sym (ap₂ (square_counts limit) w_read r_read) ∙ sym e ∙ q

  module _ {b : ℤ} (e : b ≡ box_term (read r) (read lo) (read hi) (read v)) where
    box_read : read b ≡ box_term r lo hi v
    box_read =
        gives (e ∙ ap₂ (λ (r lo : ℤ). box_term r lo (read hi) (read v)) r_read lo_read ∙ ap₂ (λ (hi v : ℤ). box_term r lo hi v) hi_read v_read)
        (small_fits (box_term r lo hi v) (box_small r lo hi v h.box) (lit< tt))

    abbrev picked : Bool → Supplied
    picked o = if o then lesser_of (box_term r lo hi v) (square_term w r) else ByBox (box_term r lo hi v)

    pub by_none : le_z (read b) (pos 0) ≡ true → ByBox (read b) ≡ supplied w r lo hi v
    by_none q = ap ByBox box_read ∙ go (square_counts limit w r)
      where
        low : le_z (box_term r lo hi v) (square_term w r) ≡ true
        low = below_square (box_term r lo hi v) _ (ap (λ (z : ℤ). le_z z (pos 0)) (sym box_read) ∙ q)

        go : (o : Bool) → ByBox (box_term r lo hi v) ≡ picked o
        go true = ap (λ (o : Bool). if o then ByBox (box_term r lo hi v) else ByWeight (square_term w r)) (sym low)
        go false = refl

    pub by_box : {t : Bool} → t ≡ square_counts limit (read w) (read r) → t ≡ false → ByBox (read b) ≡ supplied w r lo hi v
    by_box u q = ap ByBox box_read ∙ ap picked (sym (counts_told u q))

    module _ {t : Bool} (u : t ≡ square_counts limit (read w) (read r)) (q : t ≡ true) where
      squares : Squares w r
      squares = squares_of w r h.w_in (counts_told u q)

      pub square_call : Squares (read w) (read r)
      square_call = rw (w_read, r_read) squares

      pub by_lesser : {s : ℤ} {m : Supplied} → s ≡ square_term (read w) (read r) → m ≡ lesser_of (read b) (read s) → m ≡ supplied w r lo hi v
      by_lesser x y =
          y ∙ ap₂ lesser_of box_read (gives (x ∙ ap₂ square_term w_read r_read) (quotient_fits squares)) ∙ ap picked (sym (counts_told u q))

-- ---- who supplied a cell term

lesser_amount : (a b : ℤ) → amount_of (lesser_of a b) ≡ smaller a b
lesser_amount a b = go (le_z a b)
  where
    go : (o : Bool) → amount_of (if o then ByBox a else ByWeight b) ≡ cond o a b
    go true = refl
    go false = refl

-- the amount supplied is the cell term
pub supplied_amount : (w r lo hi v : ℤ) → amount_of (supplied w r lo hi v) ≡ cell_term limit w r lo hi v
supplied_amount w r lo hi v = go (square_counts limit w r)
  where
    go : (o : Bool) → amount_of (if o then lesser_of (box_term r lo hi v) (square_term w r) else ByBox (box_term r lo hi v))
        ≡ cond o (smaller (box_term r lo hi v) (square_term w r)) (box_term r lo hi v)
    go true = lesser_amount (box_term r lo hi v) (square_term w r)
    go false = refl

pub supplied_small : (w r lo hi v : ℤ) → CellNumbers w r lo hi v → Amount (supplied w r lo hi v)
supplied_small w r lo hi v h = record { small = subst (λ (x : ℤ). nat_abs x ≤ 7000000000000000000) (sym (supplied_amount w r lo hi v)) (cell_small w r lo hi v h) }

pub true_t : {b : Bool} → b ≡ true → T b
true_t e = subst (λ (x : Bool). T x) (sym e) tt

-- ---- the link term

module _ {y b s : ℤ} (h : LinkNumbers y b s) where
  pub room_is : read b -ℤ read s ≡ b -ℤ s
  room_is = ap₂ ◌-ℤ◌ (gives refl (small_fits b h.b_small (lit< tt))) (gives refl (small_fits s h.s_small (lit< tt)))

  pub room_fits : SFits w64 (b -ℤ s)
  room_fits = small_fits (b -ℤ s) (bound-- b s h.b_small h.s_small) (lit< tt)

  pub link_small : nat_abs (y *ℤ (b -ℤ s)) ≤ 1040000000000000000
  link_small = bound-* y (b -ℤ s) h.y_in.small (bound-- b s h.b_small h.s_small)

  pub link_is : read y *ℤ read (read b -ℤ read s) ≡ y *ℤ (b -ℤ s)
  link_is = ap₂ ◌*ℤ◌ (multiplier_read h.y_in) (gives room_is room_fits)

  pub link_fits : SFits w64 (y *ℤ (b -ℤ s))
  link_fits = small_fits (y *ℤ (b -ℤ s)) link_small (lit< tt)

-- ---- the running total

-- a total that is not past the tolerance is small
pub not_past : {tolerance total : ℤ} → Upto 1000000000000000 tolerance → pos 0 ≤ℤ total → total ≤ℤ tolerance → nat_abs total ≤ 1000000000000000
not_past h k l = nat_abs_le_of (≤ℤ-trans l (upto_le h)) (≤ℤ-trans (le_z_yes tt) k)
