-- A value that is rounded out lies in its box.
use Rattle.std.proofs.Common.{◌≡◌, ℕ, ◌+◌, ◌*◌, ◌<◌, ◌≤◌, Bool, true, false, T, ℤ, pos, nat_abs, ◌≤ℤ◌, sym, refl, ap, ◌∙◌, subst, arith, lit<, leb→le}
use native.Mathlib.Nat as N
use lib.Ieee.{Float, binary64, lt, of_int}
use lib.Ieee.Positive.{num, den, den_pos}
use Rattle.std.specs.Prelude.{if◌then◌else◌}
use Rattle.jobs.specs.Job.{Job}
use Rattle.jobs.specs.Allowed.{CellAllowed}
use Rattle.whole.proofs.Order.{pos_le}
use Rattle.house.specs.Rounding.{nearest_up, rounded_out}
use Rattle.house.specs.Proposal.{value_of}
use Rattle.house.proofs.Halves.{whole_value, within}
use Rattle.house.proofs.Nearest.{from_below, from_above, nearest_is}

-- x lies between lo and hi
Between : (lo hi x : ℕ) → Type 0
Between lo hi x = (lo ≤ x) × (x ≤ hi)

nearest_between : (lo hi : ℕ) (v : Float) → lo ≤ 1000000000 → hi ≤ 1000000000 → T (lt (of_int binary64 (pos lo)) v) → T (lt v (of_int binary64 (pos hi))) → Between lo hi (nearest_up v)
unfolding Between
nearest_between lo hi v l h a b =
    let w = within (of_int binary64 (pos lo)) v (of_int binary64 (pos hi)) lo hi (whole_value lo (omega arith)) (whole_value hi (omega arith)) a b in
    let d : 0 < den v * 2 = N.mul-pos (den_pos v) (lit< tt) in
    let swap : (x : ℕ) → x * 2 * den v ≡ x * (den v * 2) = λ x. N.mul_assoc x 2 (den v) ∙ ap (λ (k : ℕ). x * k) (N.mul_comm 2 (den v)) in
    let low : lo * (den v * 2) ≤ num v * 2 + den v = subst (λ (k : ℕ). k ≤ num v * 2 + den v) (swap lo) (from_below (num v) (den v) lo (N.le_of_lt w.1)) in
    let high : num v * 2 + den v < (hi + 1) * (den v * 2) = subst (λ (k : ℕ). num v * 2 + den v < k) (swap (hi + 1)) (from_above (num v) (den v) hi w.2) in
    rw (nearest_is v w.0) ((N.le-div_iff_mul-le d).1 low, under hi ((N.div-lt_iff_lt-mul d).1 high))
  where
    under : (hi : ℕ) {x : ℕ} → x < hi + 1 → x ≤ hi
    under hi h = omega arith

pub rounded_between : (lo hi : ℕ) (v : Float) → lo ≤ hi → hi ≤ 1000000000 → (lo ≤ rounded_out lo hi v) × (rounded_out lo hi v ≤ hi)
unfolding rounded_out Between
rounded_between lo hi v l h = go (lt (of_int binary64 (pos lo)) v) (lt v (of_int binary64 (pos hi))) refl refl
  where
    go : (a b : Bool) → lt (of_int binary64 (pos lo)) v ≡ a → lt v (of_int binary64 (pos hi)) ≡ b
        → (lo ≤ (if a then if b then nearest_up v else hi else lo)) × ((if a then if b then nearest_up v else hi else lo) ≤ hi)
    go false b e f = (N.le_refl lo, l)
    go true false e f = (l, N.le_refl hi)
    go true true e f = nearest_between lo hi v (N.le_trans l h) h (subst T (sym e) tt) (subst T (sym f) tt)

module _ {j : Job} {i : ℕ} (c : CellAllowed j i) (v : Float) where
  order : nat_abs (j.floor i) ≤ nat_abs (j.ceiling i)
  order = pos_le (subst (λ (x : ℤ). x ≤ℤ pos (nat_abs (j.ceiling i))) c.floor.natural (subst (λ (x : ℤ). j.floor i ≤ℤ x) c.ceiling.natural c.box))

  pub value_between : (nat_abs (j.floor i) ≤ nat_abs (value_of j i v)) × (nat_abs (value_of j i v) ≤ nat_abs (j.ceiling i))
  value_between = rounded_between (nat_abs (j.floor i)) (nat_abs (j.ceiling i)) v order (N.le_trans c.ceiling.small (leb→le 1000000 1000000000 tt))

  pub value_small : nat_abs (value_of j i v) ≤ 1000000
  value_small = N.le_trans value_between.1 c.ceiling.small
