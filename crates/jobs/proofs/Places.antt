-- Where the words of an allowed job stand, and that there are few of them; what a number from 0 to a most tells, and what room of zeros holds.
use Prim.Native.Nat.{ℕ, zero, suc, ◌+◌, ◌-◌, ◌*◌, ◌≤◌, ◌<◌}
use mathlib.Core.Path.{◌≡◌, refl, sym, ap, subst, ◌∙◌}
use mathlib.Core.Bool.{Bool, true, false}
use mathlib.Core.List.{List}
use native.Mathlib.Nat as N
use native.Mathlib.Omega.{arith}
use lib.IntN.{ℤ, pos, nat_abs}
use lib.ListN.{length, replicate}
use lib.Signed.{◌≤ℤ◌}
use Rattle.whole.proofs.Order.{pos_nonneg, pos_mono}
use Rattle.jobs.specs.Words.{word_at, count_at, cells_of, is_grid, head_words, rows_of, columns_of, order_of, links_of, start_of, job_of}
use Rattle.jobs.specs.Allowed.{Upto, Allowed, Laid}

pub upto_nonneg : {most : ℕ} {z : ℤ} → Upto most z → pos 0 ≤ℤ z
upto_nonneg {most} {z} h = subst (λ (x : ℤ). pos 0 ≤ℤ x) (sym h.natural) (pos_nonneg (nat_abs z))

pub upto_le : {most : ℕ} {z : ℤ} → Upto most z → z ≤ℤ pos most
upto_le {most} {z} h = subst (λ (x : ℤ). x ≤ℤ pos most) (sym h.natural) (pos_mono h.small)

pub zeros_at : (m i : ℕ) → word_at (replicate m (pos 0)) i ≡ pos 0
zeros_at zero i = refl
zeros_at (suc m) zero = refl
zeros_at (suc m) (suc i) = zeros_at m i

-- ---- the head

pub head_of_grid : (ws : List ℤ) → is_grid ws ≡ true → head_words ws ≡ 11
unfolding head_words
head_of_grid ws e = rw e

pub head_of_line : (ws : List ℤ) → is_grid ws ≡ false → head_words ws ≡ 6
unfolding head_words
head_of_line ws e = rw e

pub head_some : (ws : List ℤ) → 6 ≤ head_words ws
head_some ws = go (is_grid ws) refl
  where
    go : (t : Bool) → is_grid ws ≡ t → 6 ≤ head_words ws
    go true e = omega (arith, head_of_grid ws e)
    go false e = omega (arith, head_of_line ws e)

pub head_few : (ws : List ℤ) → head_words ws ≤ 11
head_few ws = go (is_grid ws) refl
  where
    go : (t : Bool) → is_grid ws ≡ t → head_words ws ≤ 11
    go true e = omega (arith, head_of_grid ws e)
    go false e = omega (arith, head_of_line ws e)

-- ---- where links start

pub start_zero : (ws : List ℤ) → start_of ws 0 ≡ head_words ws + 1 + 4 * cells_of ws
unfolding start_of
start_zero ws = omega arith

pub start_suc : (ws : List ℤ) (j : ℕ) → start_of ws (suc j) ≡ start_of ws j + 2 * count_at ws (start_of ws j) + 2
unfolding start_of
start_suc ws j = refl

start_more : (ws : List ℤ) (j k : ℕ) → start_of ws j ≤ start_of ws (j + k)
start_more ws j zero = N.le_of_eq (ap (start_of ws) (sym (N.add-zero j)))
start_more ws j (suc k) = rw N.add-suc (omega (arith, start_more ws j k, start_suc ws (j + k)))

pub start_mono : (ws : List ℤ) {j k : ℕ} → j ≤ k → start_of ws j ≤ start_of ws k
start_mono ws {j} {k} h = let e : j + (k - j) ≡ k = omega arith in rw e at (start_more ws j (k - j))

-- ---- the words of an allowed job

module _ {ws : List ℤ} (laid : Laid ws) where
  pub cells_inside : head_words ws + 1 + 4 * cells_of ws ≤ length ws
  cells_inside = omega (arith, start_zero ws, start_mono ws {j = 0} {k = links_of ws} (omega arith), laid.ends)

  pub link_inside : (j : ℕ) → j < links_of ws → start_of ws j + 2 * count_at ws (start_of ws j) + 2 ≤ length ws
  link_inside j h = omega (arith, start_suc ws j, start_mono ws {j = suc j} {k = links_of ws} h, laid.ends)

  module _ (allowed : Allowed (job_of ws)) where
    start_few : (j : ℕ) → j ≤ links_of ws → start_of ws j ≤ 492 + 10 * j
    start_few zero h = omega (arith, start_zero ws, head_few ws, allowed.cells_few)
    start_few (suc j) h = omega (arith, start_suc ws j, start_few j (N.le_trans (N.le-suc j) h), (allowed.link j h).terms_few)

    pub words_few : length ws ≤ 2092
    words_few = omega (arith, start_few (links_of ws) (N.le_refl (links_of ws)), laid.ends, allowed.links_few)

    -- ---- the shape

    pub columns_some : 1 ≤ columns_of ws
    columns_some = go (columns_of ws) refl
      where
        go : (c : ℕ) → columns_of ws ≡ c → 1 ≤ c
        go zero e = absurd (omega (arith, allowed.cells_some, sym allowed.cells_are ∙ ap (λ (c : ℕ). rows_of ws * c) e))
        go (suc c) e = omega arith

    -- the differences down lie inside the cells
    pub order_inside : order_of ws * columns_of ws + columns_of ws ≤ cells_of ws
    order_inside =
        let h : suc (order_of ws) * columns_of ws ≤ rows_of ws * columns_of ws = N.mul-le-mul_right (columns_of ws) allowed.order_less in
        omega (arith, h, N.suc-mul (order_of ws) (columns_of ws), allowed.cells_are)

    pub columns_few : columns_of ws ≤ cells_of ws
    columns_few = omega (arith, order_inside)
