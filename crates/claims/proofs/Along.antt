-- The differences of the house proposal's A are those of the loss: down the columns the same family, along the rows one that numbers only those which
-- lie in a row, where the loss counts 0 for the others.
use Prim.Native.Nat.{ℕ, zero, suc, ◌+◌, ◌-◌, ◌*◌, ◌/◌, ◌%◌, ◌≤◌, ◌<◌}
use mathlib.Core.Path.{◌≡◌, sym, ap, ap₂, ◌∙◌}
use mathlib.Core.Bool.{Bool, true, false}
use native.Mathlib.Nat as N
use native.Mathlib.Omega.{arith}
use borrow.Author.Tests.{lt-ltb, le-ltb}
use lib.Dec.{ltb}
use lib.IntN.{ℤ, pos, ◌+ℤ◌, +ℤ_idr}
use Rattle.std.specs.Prelude.{if◌then◌else◌}
use Rattle.whole.specs.Sum.{sum}
use Rattle.whole.proofs.Sums.{sum_zero, sum_suc, sum_cong, sum_ext, sum_vanish}
use Rattle.whole.proofs.Parts.{sum_split}
use Rattle.rows.specs.Rows.{row_of}
use Rattle.certificate.specs.Problem.{squared}
use Rattle.certificate.specs.Differences.{form_at}
use Rattle.jobs.specs.Job.{Job}
use Rattle.jobs.specs.Allowed.{ShapeAllowed}
use Rattle.measure.specs.Loss.{family_with}
use Rattle.claims.specs.HousePromises.{HouseDown, HouseAcross}

-- a sum over r rows of w
blocks : (r w : ℕ) (g : ℕ → ℤ) → sum (r * w) g ≡ sum r (λ a. sum w (λ x. g (a * w + x)))
blocks zero w g = ap (λ (k : ℕ). sum k g) (N.zero-mul w) ∙ sum_zero g ∙ sym (sum_zero (λ a. sum w (λ x. g (a * w + x))))
blocks (suc r) w g =
    ap (λ (k : ℕ). sum k g) (N.suc-mul r w) ∙ sum_split (r * w) w g ∙ ap (λ (s : ℤ). s +ℤ sum w (λ x. g (r * w + x))) (blocks r w g)
    ∙ sym (sum_suc r (λ a. sum w (λ x. g (a * w + x))))

-- the row and the place of a cell
place_in : (c r x : ℕ) → x < c → (r * c + x) % c ≡ x
place_in c r x h = N.mul-add-mod_self_right r c x ∙ N.mod-eq_of_lt h

row_in : (c r x : ℕ) → x < c → (r * c + x) / c ≡ r
row_in c r x h = N.mul-add-div_right (omega arith) r x ∙ ap (λ (k : ℕ). r + k) (N.div-eq_of_lt h) ∙ N.add-zero r

module _ (c z : ℕ) (fit : z ≤ c) (q : ℕ → ℤ) where
  abbrev wide : ℕ
  wide = c - z

  -- what stands at a cell where the loss has a difference in its row, and 0 elsewhere
  abbrev masked : ℕ → ℤ
  masked f = squared (if ltb (f % c + z * 1) c then q f else pos 0)

  abbrev whole : ℕ → ℤ
  whole f = squared (q f)

  inside : (a x : ℕ) → x < wide → masked (a * c + x) ≡ whole (a * c + x)
  inside a x h =
      ap (λ (b : Bool). squared (if b then q (a * c + x) else pos 0)) (lt-ltb ((a * c + x) % c + z * 1) c (omega (arith, place_in c a x (omega arith), N.mul-one z)))

  outside : (a x : ℕ) → wide ≤ x → x < c → masked (a * c + x) ≡ pos 0
  outside a x l h =
      ap (λ (b : Bool). squared (if b then q (a * c + x) else pos 0)) (le-ltb ((a * c + x) % c + z * 1) c (omega (arith, place_in c a x h, N.mul-one z)))

  one_row : (a : ℕ) → sum c (λ x. masked (a * c + x)) ≡ sum wide (λ x. whole (a * c + x))
  one_row a =
      let e : c ≡ wide + z = omega arith in
      ap (λ (k : ℕ). sum k (λ x. masked (a * c + x))) e ∙ sum_split wide z (λ x. masked (a * c + x))
      ∙ ap₂ ◌+ℤ◌ (sum_cong wide (λ x h. inside a x h)) (sum_vanish z (λ x h. outside a (wide + x) (omega arith) (omega arith)))
      ∙ +ℤ_idr (sum wide (λ x. whole (a * c + x)))

  by_cell : (r : ℕ) → sum (suc r * c - z * 1) masked ≡ sum (suc r) (λ a. sum wide (λ x. whole (a * c + x)))
  by_cell r =
      let e : suc r * c - z * 1 ≡ r * c + wide = omega (arith, N.suc-mul r c, N.mul-one z) in
      ap (λ (k : ℕ). sum k masked) e ∙ sum_split (r * c) wide masked
      ∙ ap₂ ◌+ℤ◌ (blocks r c masked ∙ sum_ext r (λ a. one_row a)) (sum_cong wide (λ x h. inside r x h))
      ∙ sym (sum_suc r (λ a. sum wide (λ x. whole (a * c + x))))

  by_number : (r : ℕ) → sum (r * wide) (λ f. whole (f / wide * c + f % wide)) ≡ sum r (λ a. sum wide (λ x. whole (a * c + x)))
  by_number r =
      blocks r wide (λ f. whole (f / wide * c + f % wide))
      ∙ sum_ext r (λ a. sum_cong wide (λ x h. ap₂ (λ (b y : ℕ). whole (b * c + y)) (row_in wide a x h) (place_in wide a x h)))

  pub same_rows : (rows : ℕ) → 1 ≤ rows → sum (rows * wide) (λ f. whole (f / wide * c + f % wide)) ≡ sum (rows * c - z * 1) masked
  same_rows zero h = absurd (omega arith)
  same_rows (suc r) h = by_number (suc r) ∙ sym (by_cell r)

across_fits : (j : Job) (grid : Bool) → ShapeAllowed j grid → j.across ≤ j.columns
across_fits j true s = omega (arith, s.across_less)
across_fits j false s = omega (arith, s.across_one, s.columns_one)

pub house_down : HouseDown
house_down j A = ap (λ (n : ℕ). family_with j.order j.columns n) A.cells_are

pub house_across : HouseAcross
house_across j A v =
    let q : ℕ → ℤ = λ s. form_at (row_of j.across) j.across 1 s v in
    same_rows j.columns j.across (across_fits j j.grid A.shape) q j.rows (omega (arith, A.order_less))
    ∙ ap (λ (n : ℕ). sum (n - j.across * 1) (λ f. squared (if ltb (f % j.columns + j.across * 1) j.columns then q f else pos 0))) A.cells_are
