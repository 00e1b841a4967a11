-- Reading a number group by group, lowest first: the groups so far come to `value`, the next counts `scale` times, and with what the later groups
-- make they give the number. `Climb` is the reader's loop invariant.
use Prim.Native.Nat.{ℕ, zero, suc, ◌+◌, ◌-◌, ◌*◌, ◌%◌, ◌^◌, ◌≤◌, ◌<◌}
use mathlib.Core.Path.{◌≡◌, refl, sym, ap, subst, ◌∙◌}
use mathlib.Core.Bool.{Bool, true, false}
use mathlib.Core.List.{List}
use native.Mathlib.Nat as N
use native.Mathlib.Numerals.{add-one}
use native.Mathlib.Omega.{arith}
use borrow.Author.Tests.{lt-ltb, le-ltb, ltb-true, ltb-false, eq-eqb, ne_eqb, eqb-false}
use lib.Dec.{ltb, eqb}
use lib.ListN.{length, get_or, drop}
use Rattle.numbers.specs.declared.plain.Number.{Number}
use Rattle.std.specs.Prelude.{Option, Some, None, if◌then◌else◌}
use Rattle.numbers.specs.Plain.{found, number_in, number_at, joined, last_group}
use Rattle.numbers.proofs.Reading.{at_end, at_byte}

-- what later groups make, on g lower groups that come to `value`
abbrev under : (g value : ℕ) → Option Number → Option Number
under zero value r = r
under (suc g) value (Some n) = if eqb n.value 0 then None else found (n.value * 128 ^ suc g + value) n.next
under (suc g) value None = None

under_none : (g value : ℕ) → under g value None ≡ None
under_none zero value = refl
under_none (suc g) value = refl

-- one group more
under_joined : (g value b : ℕ) (r : Option Number) → value < 128 ^ g → under g value (joined b r) ≡ under (suc g) (value + b % 128 * 128 ^ g) r
under_joined g value b None h = under_none g value
under_joined g value b (Some n) h = go (eqb v 0) refl
  where
    v : ℕ
    v = n.value

    next : ℕ
    next = n.next

    higher : (g : ℕ) → value < 128 ^ g → (v ≡ 0 → ⊥) → under g value (found (v * 128 + b % 128) next) ≡ found (v * 128 ^ suc g + (value + b % 128 * 128 ^ g)) next
    higher zero h f = ap (λ (x : ℕ). found x next) (omega arith)
    higher (suc g) h f =
        let some : eqb (v * 128 + b % 128) 0 ≡ false = ne_eqb (v * 128 + b % 128) 0 (omega arith) in
        rw some (ap (λ (x : ℕ). found x next) (omega (arith, N.add-mul (v * 128) (b % 128) (128 ^ suc g), raised (128 ^ suc g), ap (λ (p : ℕ). v * p) (N.pow-suc 128 (suc g)))))
      where
        raised : (p : ℕ) → v * 128 * p ≡ v * (p * 128)
        raised p = N.mul_assoc v 128 p ∙ ap (λ (x : ℕ). v * x) (N.mul_comm 128 p)

    go : (t : Bool) → eqb v 0 ≡ t
        → under g value (if t then None else found (v * 128 + b % 128) next)
        ≡ (if t then None else found (v * 128 ^ suc g + (value + b % 128 * 128 ^ g)) next)
    go true e = under_none g value
    go false e = higher g h (eqb-false v 0 e)

pub record Climb (s : List ℕ) (at i value scale g : ℕ) : Type 0 where
  pub few : g ≤ 9
  pub inside : i ≤ length s
  pub scale_is : scale ≡ 128 ^ g
  pub below : value < scale
  pub same : number_at s at ≡ under g value (number_in (9 - g) (drop i s) i)

pub climb_start : (s : List ℕ) (at : ℕ) → at ≤ length s → Climb s at at 0 1 0
climb_start s at h = record { few = omega arith; inside = h; scale_is = refl; below = omega arith; same = refl }

module _ {s : List ℕ} {at i value scale g : ℕ} (c : Climb s at i value scale g) where
  pub climb_short : length s ≤ i → None ≡ number_at s at
  climb_short h = sym (c.same ∙ ap (under g value) (at_end (9 - g) s i h) ∙ under_none g value)

  pub climb_long : 9 ≤ g → None ≡ number_at s at
  unfolding number_in
  climb_long h =
      let z : 9 - g ≡ 0 = omega (arith, c.few) in
      sym (c.same ∙ ap (λ (n : ℕ). under g value (number_in n (drop i s) i)) z ∙ under_none g value)

  module _ (few : g < 9) where
    -- nine groups fit 63 bits
    pub scale_small : scale ≤ 2 ^ 56
    scale_small = N.le_trans (N.le_of_eq c.scale_is) (N.pow-le-pow_right (omega arith) (N.le_of_suc-le-suc few))

    pub group_small : (x : ℕ) → x < 128 → x * scale ≤ 127 * 2 ^ 56
    group_small x h = N.mul-le-mul (N.le_of_suc-le-suc h) scale_small

    module _ (h : i < length s) where
      left_is : number_in (9 - g) (drop i s) i
          ≡ (if ltb (get_or s i 0) 128 then found (get_or s i 0) (i + 1) else joined (get_or s i 0) (number_in (9 - g - 1) (drop (i + 1) s) (i + 1)))
      left_is = at_byte (9 - g) s i (λ e. omega arith) h

      group_part : get_or s i 0 % 128 * scale ≤ 127 * scale
      group_part = let l : get_or s i 0 % 128 ≤ 127 = omega arith in N.mul-le-mul_right scale l

      pub climb_on : 128 ≤ get_or s i 0 → Climb s at (i + 1) (value + get_or s i 0 % 128 * scale) (scale * 128) (g + 1)
      climb_on k = rw (add-one g) (record {
        few = omega arith;
        inside = omega arith;
        scale_is = ap (λ (x : ℕ). x * 128) c.scale_is ∙ sym (N.pow-suc 128 g);
        below = omega (arith, c.below, group_part);
        same =
            c.same
            ∙ ap (under g value) (left_is ∙ rw (le-ltb (get_or s i 0) 128 k))
            ∙ under_joined g value (get_or s i 0) (number_in (9 - g - 1) (drop (i + 1) s) (i + 1)) (subst (λ (x : ℕ). value < x) c.scale_is c.below)
            ∙ ap (λ (x : ℕ). under (suc g) (value + get_or s i 0 % 128 * x) (number_in (9 - g - 1) (drop (i + 1) s) (i + 1))) (sym c.scale_is)
            ∙ ap (λ (n : ℕ). under (suc g) (value + get_or s i 0 % 128 * scale) (number_in n (drop (i + 1) s) (i + 1))) (omega arith);
      })

      pub climb_last : get_or s i 0 < 128 → last_group (get_or s i 0) value scale (i + 1) ≡ number_at s at
      climb_last k = sym (c.same ∙ ap (under g value) (left_is ∙ rw (lt-ltb (get_or s i 0) 128 k)) ∙ go g c.scale_is c.below)
        where
          b : ℕ
          b = get_or s i 0

          -- the groups above the lowest, and the lowest alone
          top : (p : ℕ) → 1 < p → (t : Bool) → ltb 0 b ≡ t
              → (if eqb b 0 then None else found (b * p + value) (i + 1))
              ≡ (if t then found (b * p + value) (i + 1) else if ltb 1 p then None else found value (i + 1))
          top p h true e = rw (ne_eqb b 0 (λ z. omega (arith, ltb-true 0 b e)))
          top p h false e = rw (eq-eqb b 0 (omega (arith, ltb-false 0 b e)), lt-ltb 1 p h)

          alone : (t : Bool) → ltb 0 b ≡ t → found b (i + 1) ≡ (if t then found (b * 1 + 0) (i + 1) else found 0 (i + 1))
          alone true e = ap (λ (x : ℕ). found x (i + 1)) (omega arith)
          alone false e = ap (λ (x : ℕ). found x (i + 1)) (omega (arith, ltb-false 0 b e))

          go : (g : ℕ) → scale ≡ 128 ^ g → value < scale → under g value (found b (i + 1)) ≡ last_group b value scale (i + 1)
          go zero e l =
              let one : scale ≡ 1 = e in
              let none : value ≡ 0 = omega arith in
              rw (one, none) (alone (ltb 0 b) refl)
          go (suc g) e l =
              let many : 1 < 128 ^ suc g = omega (arith, N.pow-suc 128 g, N.one-le-pow g 128 (omega arith)) in
              rw e (top (128 ^ suc g) many (ltb 0 b) refl)
