-- One direction of smoothing, of any order, stride and width: its differences are at most 8,000,000, their squares come to 7.424·10^15 at most, and what a cell
-- gets back is at most 128,000,000. Both directions of a job together: with constants that come to 1,000 at most, the loss is at most 7.6·10^18.
use Prim.Native.Nat.{ℕ, suc, ◌+◌, ◌-◌, ◌*◌, ◌%◌, ◌≤◌, ◌<◌, zero-le}
use mathlib.Core.Path.{◌≡◌, refl, sym, ap, ap₂, subst, ◌∙◌}
use mathlib.Core.Logic.{◌⊎◌, inl, inr}
use mathlib.Core.Bool.{Bool, true, false}
use mathlib.Core.List.{List}
use native.Mathlib.Nat as N
use native.Mathlib.Omega.{arith}
use borrow.Author.Rules.{rules}
use borrow.Author.Tests.{lt-ltb}
use lib.Dec.{lit<, leb→le, ltb}
use lib.IntN.{ℤ, pos, nat_abs, ◌+ℤ◌, ◌*ℤ◌}
use lib.ListN.{length, replicate, length-replicate}
use mir.Syntax.{w64}
use mir.Val.{SFits, to_z}
use Rattle.whole.specs.Sum.{sum}
use Rattle.whole.proofs.Ring.{*ℤ-assoc}
use Rattle.whole.proofs.Rows.{coefficient_times}
use Rattle.whole.proofs.Solve.{ring, num, ◌⊕◌, ◌⊗◌, ◌≗◌}
use Rattle.whole.proofs.Sums.{sum_zero, sum_step, sum_cong, sum_ext, sum-*l, sum_bound}
use Rattle.whole.proofs.Magnitude.{bound-+, bound-*}
use Rattle.whole.proofs.Fits.{Holds, Adds, small_fits, fits_by, gives}
use Rattle.certificate.specs.Problem.{squared}
use Rattle.certificate.specs.Differences.{form_at, difference, coefficient, returned}
use Rattle.certificate.proofs.Differences.{returned_is_gathered, gathered_size}
use Rattle.std.specs.Prelude.{if◌then◌else◌}
use Rattle.jobs.specs.Words.{word_at, cells_of, columns_of, order_of, across_of, second_of, job_of}
use Rattle.jobs.specs.Allowed.{Upto, ShapeAllowed}
use Rattle.jobs.proofs.Places.{zeros_at, columns_some, columns_few, order_inside}
use Rattle.rows.specs.Rows.{row_of, IsRow}
use Rattle.rows.proofs.Rule.{row_small, row_size}
use Rattle.tally.proofs.Locals.{read}
use Rattle.measure.specs.Loss.{family_with, form_within, difference_within, family_of, family_across, across_at, roughness, loss_of}
use Rattle.measure.specs.Given.{Given, Differs, GivesBack, Smooths, Smoothing}
use Rattle.measure.specs.Running.{Added, back_at}
use Rattle.measure.specs.OnWords.{fit_on, loss_on, rough_on, smooth_on}
use Rattle.measure.proofs.Differences.{row_coefficients, row_coefficient, row_form, difference_small, difference_less}
use Rattle.measure.proofs.Losses.{fit_at_most}
use Rattle.measure.proofs.Scattered.{terms_small, added_none, added_by, added_then}

pub end_inside : (width : ℕ) {row : List ℤ} {z stride i : ℕ} {v : List ℤ} → Differs row z stride i v → i % width + z * stride < length v
end_inside width {row} {z} {stride} {i} D = omega (arith, N.mod-le i width, D.inside)

-- ---- one direction, by the row of its order

pub smooths_by : {v : List ℤ} {n z stride width : ℕ} {k l : ℤ} {parts : List ℤ} → k ≡ l → Smooths v n z stride width k parts → Smooths v n z stride width l parts
smooths_by {v} {n} {z} {stride} {width} {parts = parts} e S = subst (λ (x : ℤ). Smooths v n z stride width x parts) e S

module _ {v : List ℤ} {n z stride width : ℕ} {k : ℤ} {parts₀ : List ℤ} (S : Smooths v n z stride width k parts₀) where
  abbrev count : ℕ
  count = n - z * stride

  abbrev D : ℕ → ℤ
  D f = difference_within width (family_with z stride n) (word_at v) f

  wide : z ≤ z * stride
  wide = omega (arith, N.mul-le-mul (N.le_refl z) S.stride_some)

  rate_at : (f m : ℕ) → f < count → m ≤ z → Upto 1000000 (word_at v (f + m * stride))
  rate_at f m h l = S.rates (f + m * stride) (omega (arith, h, N.mul-le-mul_right stride l, S.reach))

  pub smooth_differs : {row : List ℤ} → IsRow z row → (f : ℕ) → f < count → Differs row z stride f v
  smooth_differs R f h = record {
    coefficients = row_coefficients R S.order_few;
    inside = omega (arith, h, S.reach, S.inside);
    rates = λ m l. rate_at f m h l;
  }

  within_most : (most : ℕ) (f : ℕ) → nat_abs (form_at (row_of z) z stride f (word_at v)) ≤ most → nat_abs (D f) ≤ most
  within_most most f h = go (ltb (f % width + z * stride) width)
    where
      go : (t : Bool) → nat_abs (if t then form_at (row_of z) z stride f (word_at v) else pos 0) ≤ most
      go true = h
      go false = zero-le

  each_small : (f : ℕ) → f < count → nat_abs (D f) ≤ 8000000
  each_small f h = within_most 8000000 f (difference_small z stride f (word_at v) S.order_some S.order_few (λ m l. rate_at f m h l))

  each_less : z ≤ 3 → (f : ℕ) → f < count → nat_abs (D f) ≤ 4000000
  each_less t f h = within_most 4000000 f (difference_less z stride f (word_at v) S.order_some S.order_few (λ m l. rate_at f m h l) t)

  abbrev rough : ℤ
  rough = roughness (family_with z stride n) D

  -- either there are at most 116 differences, of order 4, or each is at most 4,000,000
  rough_at_most : nat_abs rough ≤ 7424000000000000
  rough_at_most = go (N.eq-or-lt_of_le S.order_few)
    where
      squares : (most : ℕ) → ((f : ℕ) → f < count → nat_abs (D f) ≤ most) → nat_abs rough ≤ count * (most * most)
      squares most each = sum_bound count (λ f. squared (D f)) (most * most) (λ f h. bound-* (D f) (D f) (each f h) (each f h))

      go : (z ≡ 4) ⊎ (z < 4) → nat_abs rough ≤ 7424000000000000
      go (inl e) = omega (arith, squares 8000000 each_small, S.cells_few, wide)
      go (inr l) = omega (arith, squares 4000000 (each_less (N.le_of_suc-le-suc l)), S.cells_few, wide, S.order_some)

  back_at_most : (i : ℕ) → nat_abs (returned (family_with z stride n) D i) ≤ 128000000
  back_at_most i =
      subst (λ (x : ℤ). nat_abs x ≤ 128000000) (sym (returned_is_gathered (family_with z stride n) D i (λ f l. refl)))
      (N.le_trans (gathered_size (family_with z stride n) D i 8000000 each_small) (N.mul-le-mul_right 8000000 (row_size z S.order_few)))

  -- what the difference f adds to the cell i, and the first f of them
  abbrev double : ℕ → ℤ
  double f = pos 2 *ℤ k *ℤ D f

  abbrev backs : (f i : ℕ) → ℤ
  backs f i = sum f (λ g. back_at (row_of z) z stride g (double g) i)

  double_small : (f : ℕ) → f < count → nat_abs (double f) ≤ 16000000000
  double_small f h = bound-* (pos 2 *ℤ k) (D f) (bound-* (pos 2) k (N.le_refl 2) S.constant) (each_small f h)

  back_small : (f i : ℕ) → f < count → nat_abs (back_at (row_of z) z stride f (double f) i) ≤ 480000000000
  back_small f i h =
      subst (λ (x : ℤ). nat_abs x ≤ 480000000000) (coefficient_times (suc z) (λ m. f + m * stride) (row_of z) (double f) i)
      (N.le_trans
      (terms_small (λ m. f + m * stride) (row_of z) (double f) (suc z) i (double_small f h) (λ m l. row_small z m S.order_few (omega (arith, l, S.order_few))))
      (omega (arith, S.order_few)))

  pub squares_adds : Adds (λ f. squared (D f)) count 64000000000000
  squares_adds = record { small = λ f h. bound-* (D f) (D f) (each_small f h) (each_small f h); room = omega (arith, S.cells_few) }

  -- the loop over the differences: in the round f, d is the difference that the code has
  pub smooth_start : Added (backs 0) parts₀ parts₀
  smooth_start = added_none parts₀ (λ i. sum_zero (λ g. back_at (row_of z) z stride g (double g) i))

  module _ {row : List ℤ} (R : IsRow z row) {f : ℕ} (h : f < count) {d : ℤ} (e : d ≡ form_within width (word_at row) z stride f (word_at v)) where
    d_read : read d ≡ D f
    d_read =
        gives (e ∙ ap (λ (x : ℤ). if ltb (f % width + z * stride) width then x else pos 0) (row_form R stride f (word_at v)))
        (small_fits (D f) (each_small f h) (lit< tt))

    pub twice_fits : SFits w64 (pos 2 *ℤ k)
    twice_fits = small_fits (pos 2 *ℤ k) (bound-* (pos 2) k (N.le_refl 2) S.constant) (lit< tt)

    pub double_is : read (pos 2 *ℤ k) *ℤ read d ≡ double f
    double_is = ap₂ ◌*ℤ◌ (gives refl twice_fits) d_read

    pub double_fits : SFits w64 (double f)
    double_fits = small_fits (double f) (double_small f h) (lit< tt)

    pub square_is : read d *ℤ read d ≡ squared (D f)
    square_is = ap₂ ◌*ℤ◌ d_read d_read

    pub square_fits : SFits w64 (squared (D f))
    square_fits = small_fits (squared (D f)) (squares_adds.small f h) (lit< tt)

    module _ {parts : List ℤ} (A : Added (backs f) parts₀ parts) {y : ℤ} (ey : y ≡ double f) where
      now_small : (i : ℕ) → i < n → nat_abs (word_at parts i) ≤ 100000000000000000
      now_small i l =
          subst (λ (x : ℤ). nat_abs x ≤ 100000000000000000) (sym (A.at i))
          (N.le_trans
          (bound-+ (word_at parts₀ i) (backs f i) (S.small i l)
          (sum_bound f (λ g. back_at (row_of z) z stride g (double g) i) 480000000000 (λ g q. back_small g i (N.lt_trans q h))))
          (omega (arith, h, S.cells_few)))

      pub smooth_gives : GivesBack row z stride f y parts
      smooth_gives = record {
        coefficients = row_coefficients R S.order_few;
        y_small = subst (λ (x : ℤ). nat_abs x ≤ 20000000000) (sym ey) (N.le_trans (double_small f h) (leb→le 16000000000 20000000000 tt));
        inside = omega (arith, h, S.reach, S.room, A.long);
        small = λ m l. now_small (f + m * stride) (omega (arith, h, N.mul-le-mul_right stride l, S.reach));
      }

      pub smooth_next : {parts' : List ℤ} → Added (back_at (word_at row) z stride f y) parts parts' → Added (backs (f + 1)) parts₀ parts'
      smooth_next B =
          added_by
          (λ i. ap₂ (λ (y x : ℤ). backs f i +ℤ y *ℤ x) ey (row_coefficient R stride f i) ∙ sym (sum_step f (λ g. back_at (row_of z) z stride g (double g) i)))
          (added_then A B)

  -- after the last
  pub smooth_end : {f : ℕ} {parts : List ℤ} → f ≡ count → Added (backs f) parts₀ parts
      → Added (λ i. pos 2 *ℤ k *ℤ returned (family_with z stride n) D i) parts₀ parts
  smooth_end e A =
      added_by
      (λ i.
      ap (λ (m : ℕ). backs m i) e ∙ sum_ext count (λ g. *ℤ-assoc (pos 2 *ℤ k) (D g) (coefficient (family_with z stride n) g i))
      ∙ sum-*l count (pos 2 *ℤ k) (λ g. D g *ℤ coefficient (family_with z stride n) g i))
      A

  pub times_is : {l : ℤ} {f acc : ℕ} → l ≡ k → f ≡ count → Holds acc (sum f (λ g. squared (D g))) → l *ℤ to_z w64 acc ≡ k *ℤ rough
  times_is q e H = ap₂ ◌*ℤ◌ q (H.is ∙ ap (λ (m : ℕ). sum m (λ g. squared (D g))) e)

  pub times_fits : SFits w64 (k *ℤ rough)
  times_fits = small_fits (k *ℤ rough) (bound-* k rough S.constant rough_at_most) (lit< tt)

-- ---- two directions, one after the other

module _ {v : List ℤ} {n z stride width : ℕ} {k : ℤ} {parts : List ℤ} (S : Smooths v n z stride width k parts) where
  -- what the first adds
  added_small : (i : ℕ) → nat_abs (pos 2 *ℤ k *ℤ returned (family_with z stride n) (D S) i) ≤ 256000000000
  added_small i = bound-* (pos 2 *ℤ k) (returned (family_with z stride n) (D S) i) (bound-* (pos 2) k (N.le_refl 2) S.constant) (back_at_most S i)

  -- with a second, and constants that come to 1,000 at most
  module _ {z' stride' width' : ℕ} {k' : ℤ} {parts' : List ℤ} (S' : Smooths v n z' stride' width' k' parts') (together : nat_abs k + nat_abs k' ≤ 1000) where
    two_small : nat_abs (k *ℤ rough S +ℤ k' *ℤ rough S') ≤ 7424000000000000000
    two_small =
        N.le_trans
        (bound-+ (k *ℤ rough S) (k' *ℤ rough S') (bound-* k (rough S) (N.le_refl (nat_abs k)) (rough_at_most S))
        (bound-* k' (rough S') (N.le_refl (nat_abs k')) (rough_at_most S')))
        (omega (arith, together))

    module _ {r r' : ℤ} (e : r ≡ k *ℤ rough S) (e' : r' ≡ k' *ℤ rough S') where
      pub two_is : read r +ℤ read r' ≡ k *ℤ rough S +ℤ k' *ℤ rough S'
      two_is = ap₂ ◌+ℤ◌ (gives e (times_fits S)) (gives e' (times_fits S'))

      pub two_fit : SFits w64 (read r +ℤ read r')
      two_fit = fits_by two_is (small_fits (k *ℤ rough S +ℤ k' *ℤ rough S') two_small (lit< tt))

-- ---- the two directions of a job

-- orders down and across, columns and constants of a job with n cells, in their ranges
pub record Shaped (n z a c : ℕ) (k q : ℤ) : Type 0 where
  pub cells_some : 1 ≤ n
  pub order_some : 1 ≤ z
  pub order_few : z ≤ 4
  pub order_less : z < n
  pub across_some : 1 ≤ a
  pub across_few : a ≤ 4
  pub across_less : a < n
  pub columns_some : 1 ≤ c
  pub reach : z * c < n
  pub constant : nat_abs k ≤ 1000
  pub second : nat_abs q ≤ 1000
  pub together : nat_abs k + nat_abs q ≤ 1000

-- the numbers of one direction
pub record Directed (n z stride width : ℕ) (k : ℤ) : Type 0 where
  pub order_some : 1 ≤ z
  pub order_few : z ≤ 4
  pub stride_some : 1 ≤ stride
  pub width_some : 1 ≤ width
  pub reach : z * stride < n
  pub constant : nat_abs k ≤ 1000

-- a row that is the whole table has no end to run over
whole : (z c n : ℕ) (v : ℕ → ℤ) (f : ℕ) → f < n - z * c → difference_within n (family_with z c n) v f ≡ difference (family_with z c n) v f
whole z c n v f h = rw (N.mod-eq_of_lt {n = f} {m = n} (omega arith), lt-ltb (f + z * c) n (omega arith))

module _ {ws ps : List ℤ} (G : Given ws ps) where
  -- an order across is less than the count of cells
  across_less : across_of ws < cells_of ws
  across_less = go (job_of ws).grid G.allowed.shape
    where
      go : (t : Bool) → ShapeAllowed (job_of ws) t → across_of ws < cells_of ws
      go true g = omega (arith, g.across_less, columns_few G.laid G.allowed)
      go false l = omega (arith, l.across_one, G.allowed.cells_some)

  shaped : Shaped (cells_of ws) (order_of ws) (across_of ws) (columns_of ws) (job_of ws).constant (second_of ws)
  shaped =
      let some = columns_some G.laid G.allowed in
      let inside = order_inside G.laid G.allowed in
      record {
        cells_some = omega (arith, G.allowed.cells_some);
        order_some = G.allowed.order_some;
        order_few = G.allowed.order_few;
        order_less = omega (arith, inside, N.mul-le-mul (N.le_refl (order_of ws)) some);
        across_some = G.allowed.across_some;
        across_few = G.allowed.across_few;
        across_less = across_less;
        columns_some = some;
        reach = omega (arith, inside, some);
        constant = G.allowed.constant.small;
        second = omega (arith, G.allowed.second.small);
        together = G.allowed.constants;
      }

  directed : {n z stride width : ℕ} {k : ℤ} {parts : List ℤ} → n ≡ cells_of ws → Directed n z stride width k → n ≤ length parts
      → ((i : ℕ) → i < n → nat_abs (word_at parts i) ≤ 10000000000000) → Smooths ps n z stride width k parts
  directed e R room small = record {
    order_some = R.order_some;
    order_few = R.order_few;
    stride_some = R.stride_some;
    width_some = R.width_some;
    cells_few = omega (arith, e, G.allowed.cells_few);
    reach = R.reach;
    inside = omega (arith, e, G.proposed.count);
    rates = λ i h. G.proposed.value i (omega (arith, e, h));
    constant = R.constant;
    room = room;
    small = small;
  }

  zeros_small : (i : ℕ) → i < cells_of ws → nat_abs (word_at (replicate 120 (pos 0)) i) ≤ 10000000000000
  zeros_small i h = rw (zeros_at 120 i) (omega arith)

  zeros_room : cells_of ws ≤ length (replicate 120 (pos 0))
  zeros_room = rw (length-replicate 120 (pos 0)) G.allowed.cells_few

  down : Smooths ps (cells_of ws) (order_of ws) (columns_of ws) (cells_of ws) (job_of ws).constant (replicate 120 (pos 0))
  down = let H = shaped in directed refl (search rules) zeros_room zeros_small

  across : Smooths ps (cells_of ws) (across_of ws) 1 (columns_of ws) (second_of ws) (replicate 120 (pos 0))
  across = let H = shaped in directed refl (search rules) zeros_room zeros_small

  -- what the rules take for what the code has
  rough_is : (job_of ws).constant *ℤ rough down +ℤ second_of ws *ℤ rough across ≡ rough_on ws ps
  rough_is =
      ap (λ (x : ℤ). (job_of ws).constant *ℤ x +ℤ second_of ws *ℤ rough across)
      (sum_cong (family_of (job_of ws)).count (λ f h. ap squared (whole (order_of ws) (columns_of ws) (cells_of ws) (word_at ps) f h)))

  smooth_is : (i : ℕ)
      → pos 2 *ℤ (job_of ws).constant *ℤ returned (family_of (job_of ws)) (D down) i +ℤ pos 2 *ℤ second_of ws *ℤ returned (family_across (job_of ws)) (D across) i
      ≡ smooth_on ws ps i
  smooth_is i =
      ap (λ (x : ℤ). pos 2 *ℤ (job_of ws).constant *ℤ x +ℤ pos 2 *ℤ second_of ws *ℤ returned (family_across (job_of ws)) (D across) i)
      (sum_cong (family_of (job_of ws)).count
      (λ f h. ap (λ (x : ℤ). x *ℤ coefficient (family_of (job_of ws)) f i) (whole (order_of ws) (columns_of ws) (cells_of ws) (word_at ps) f h)))
      ∙ ring 4 (λ k q a b. num 2 ⊗ k ⊗ a ⊕ num 2 ⊗ q ⊗ b ≗ num 2 ⊗ (k ⊗ a ⊕ q ⊗ b)) tt (job_of ws).constant (second_of ws)
      (returned (family_of (job_of ws)) (difference (family_of (job_of ws)) (word_at ps)) i) (returned (family_across (job_of ws)) (across_at (job_of ws) (word_at ps)) i)

  pub smooth_small : (i : ℕ) → nat_abs (smooth_on ws ps i) ≤ 512000000000
  smooth_small i =
      subst (λ (x : ℤ). nat_abs x ≤ 512000000000) (smooth_is i)
      (bound-+ (pos 2 *ℤ (job_of ws).constant *ℤ returned (family_of (job_of ws)) (D down) i) (pos 2 *ℤ second_of ws *ℤ returned (family_across (job_of ws)) (D across) i)
      (added_small down i) (added_small across i))

  rough_small : nat_abs (rough_on ws ps) ≤ 7424000000000000000
  rough_small = subst (λ (x : ℤ). nat_abs x ≤ 7424000000000000000) rough_is (two_small down across shaped.together)

  pub rough_fits : SFits w64 (rough_on ws ps)
  rough_fits = small_fits (rough_on ws ps) rough_small (lit< tt)

  -- "The loss is at most 7.6·10^18."
  pub loss_at_most : nat_abs (loss_on ws ps) ≤ 7600000000000000000
  unfolding loss_of
  loss_at_most = N.le_trans (bound-+ (fit_on ws ps) (rough_on ws ps) (fit_at_most G) rough_small) (leb→le 7544000000000000000 7600000000000000000 tt)

  pub loss_in_64 : SFits w64 (loss_on ws ps)
  loss_in_64 = small_fits (loss_on ws ps) loss_at_most (lit< tt)

-- the loss in code
module _ {ws ps : List ℤ} {rough fit : ℤ} (G : Given ws ps) (er : rough ≡ rough_on ws ps) (ef : fit ≡ fit_on ws ps) where
  pub loss_is : read fit +ℤ read rough ≡ loss_on ws ps
  unfolding loss_of
  loss_is =
      ap₂ ◌+ℤ◌ (gives ef (small_fits (fit_on ws ps) (fit_at_most G) (lit< tt))) (gives er (rough_fits G))

-- ---- one direction after the other, in code

module _ {ws ps : List ℤ} {n : ℕ} {parts : List ℤ} (G : Smoothing ws ps n parts) where
  pub first_call : {z stride width : ℕ} {k : ℤ} → Directed n z stride width k → Smooths ps n z stride width k parts
  first_call R = directed G.given G.n_is R G.room (λ i h. N.le_trans (G.small i h) (leb→le 6400000000000 10000000000000 tt))

  pub second_call : {z stride width : ℕ} {k : ℤ} {parts₁ : List ℤ} (S : Smooths ps n z stride width k parts)
      → Added (λ i. pos 2 *ℤ k *ℤ returned (family_with z stride n) (difference_within width (family_with z stride n) (word_at ps)) i) parts parts₁
      → {z' stride' width' : ℕ} {k' : ℤ} → Directed n z' stride' width' k' → Smooths ps n z' stride' width' k' parts₁
  second_call {z} {stride} {width} {k} {parts₁} S A R =
      directed G.given G.n_is R (omega (arith, G.room, A.long))
      (λ i h.
      subst (λ (x : ℤ). nat_abs x ≤ 10000000000000) (sym (A.at i))
      (N.le_trans (bound-+ (word_at parts i) (pos 2 *ℤ k *ℤ returned (family_with z stride n) (D S) i) (G.small i h) (added_small S i)) (leb→le 6656000000000 10000000000000 tt)))

  -- with the numbers that the code reads
  module _ {z a c : ℕ} {k q : ℤ} (ez : z ≡ order_of ws) (ea : a ≡ across_of ws) (ec : c ≡ columns_of ws) (ek : k ≡ (job_of ws).constant) (eq : q ≡ second_of ws) where
    k_read : read k ≡ (job_of ws).constant
    k_read = gives ek (small_fits (job_of ws).constant G.given.allowed.constant.small (lit< tt))

    q_read : read q ≡ second_of ws
    q_read = gives eq (small_fits (second_of ws) G.given.allowed.second.small (lit< tt))

    pub numbers_shaped : Shaped n z a c (read k) (read q)
    numbers_shaped = rw (G.n_is, ez, ea, ec, k_read, q_read) (shaped G.given)

    abbrev rough_by : (z a c n : ℕ) (k q : ℤ) → ℤ
    rough_by z a c n k q =
        k *ℤ roughness (family_with z c n) (difference_within n (family_with z c n) (word_at ps))
        +ℤ q *ℤ roughness (family_with a 1 n) (difference_within c (family_with a 1 n) (word_at ps))

    pub both_rough : rough_by z a c n (read k) (read q) ≡ rough_on ws ps
    both_rough = (λ i. rough_by (ez i) (ea i) (ec i) (G.n_is i) (k_read i) (q_read i)) ∙ rough_is G.given

    abbrev first_back : (z c n : ℕ) → ℤ → ℕ → ℤ
    first_back z c n k i = pos 2 *ℤ k *ℤ returned (family_with z c n) (difference_within n (family_with z c n) (word_at ps)) i

    abbrev second_back : (a c n : ℕ) → ℤ → ℕ → ℤ
    second_back a c n q i = pos 2 *ℤ q *ℤ returned (family_with a 1 n) (difference_within c (family_with a 1 n) (word_at ps)) i

    pub both_added : {parts₁ parts₂ : List ℤ} → Added (first_back z c n (read k)) parts parts₁ → Added (second_back a c n (read q)) parts₁ parts₂
        → Added (smooth_on ws ps) parts parts₂
    both_added A B =
        added_by
        (λ i.
        (λ j. first_back (ez j) (ec j) (G.n_is j) (k_read j) i +ℤ second_back (ea j) (ec j) (G.n_is j) (q_read j) i)
        ∙ smooth_is G.given i)
        (added_then A B)
