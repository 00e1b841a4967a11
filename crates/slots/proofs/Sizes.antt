-- A slot that is found is one of those searched, and no move changes the count of a span's words. For any w and c.
use mathlib.Core.Path.{◌≡◌, refl, ap, ◌∙◌}
use mathlib.Core.Bool.{Bool, true, false}
use mathlib.Core.List.{List, ◌++◌}
use Prim.Native.Nat.{ℕ, zero, suc, ◌+◌, ◌-◌, ◌*◌, ◌<◌, ◌≤◌}
use native.Mathlib.Nat.{mul-le-mul_left, mul-add, mul-one}
use native.Mathlib.Omega.{arith}
use lib.ListN.{length, take, drop, replicate, length-append, length-replicate, length-drop}
use lib.Seq.{length-take-le}
use Rattle.slots.specs.Slots.{put_slot, dropped_slot, pushed, lowest, pick, later, has_job, is_empty, slot_for, or_else, at_slot, kept_in, forgot_in}
use Rattle.std.specs.Prelude.{Option, Some, None}

pub at_inj : (p q : ℕ) → Some p ≡ Some q → p ≡ q
at_inj p q e = cc

pub no_slot : (p : ℕ) → None ≡ Some p → ⊥
no_slot p e = let z : ◌≡◌ {A = ℕ} 0 1 = cc in omega arith

below : (c q : ℕ) (b : Bool) (o : Option ℕ) → ((r : ℕ) → o ≡ Some r → r < c) → pick b (Some 0) (later o) ≡ Some q → q < suc c
below c q true o k e = let z = at_inj 0 q e in omega arith
below c q false (Some r) k e = let z = at_inj (suc r) q e in let h = k r refl in omega arith
below c q false None k e = absurd (no_slot q e)

-- a slot that is found is one of the c
pub found_below : (test : List ℕ → Bool) (w c : ℕ) (s : List ℕ) (p : ℕ) → lowest test w c s ≡ Some p → p < c
unfolding lowest
found_below test w zero s p e = absurd (no_slot p e)
found_below test w (suc c) s p e = below c p (test s) (lowest test w c (drop w s)) (found_below test w c (drop w s)) e

pub for_below : (w c job : ℕ) (s : List ℕ) (p : ℕ) → slot_for w c job s ≡ Some p → p < c
unfolding slot_for
for_below w c job s p e = go (lowest (has_job job) w c s) refl e
  where
    go : (o : Option ℕ) → lowest (has_job job) w c s ≡ o → or_else o (lowest is_empty w c s) ≡ Some p → p < c
    go (Some q) f g = found_below (has_job job) w c s p (f ∙ g)
    go None f g = found_below is_empty w c s p g

-- slot p ends within the span
pub slot_within : (w c p : ℕ) → p < c → w * (p + 1) ≤ w * c
slot_within w c p h = mul-le-mul_left w (omega arith)

pub slot_end : (w p : ℕ) → w * (p + 1) ≡ w * p + w
slot_end w p = mul-add w p 1 ∙ ap (λ (k : ℕ). w * p + k) (mul-one w)

module _ (w c : ℕ) (s : List ℕ) (len : length s ≡ w * c) where
  put_length : (p : ℕ) (x : List ℕ) → p < c → length x ≡ w → length (put_slot w p x s) ≡ w * c
  unfolding put_slot
  put_length p x h l =
      let m = slot_within w c p h in
      let e = slot_end w p in
      let t : length (take (w * p) s) ≡ w * p = length-take-le (w * p) s (omega arith) in
      let d : length (drop (w * (p + 1)) s) ≡ w * c - w * (p + 1) = length-drop (w * (p + 1)) s ∙ ap (λ (k : ℕ). k - w * (p + 1)) len in
      omega (arith, length-append (take (w * p) s) (x ++ drop (w * (p + 1)) s), length-append x (drop (w * (p + 1)) s))

  dropped_length : (p : ℕ) → p < c → length (dropped_slot w p s) ≡ w * c
  unfolding dropped_slot
  dropped_length p h =
      let m = slot_within w c p h in
      let e = slot_end w p in
      let z : List ℕ = replicate w 0 in
      let t : length (take (w * p) s) ≡ w * p = length-take-le (w * p) s (omega arith) in
      let d : length (drop (w * (p + 1)) s) ≡ w * c - w * (p + 1) = length-drop (w * (p + 1)) s ∙ ap (λ (k : ℕ). k - w * (p + 1)) len in
      omega (arith, length-append (take (w * p) s) (drop (w * (p + 1)) s ++ z), length-append (drop (w * (p + 1)) s) z, length-replicate {A = ℕ} w 0)

  pushed_length : (x : List ℕ) → 0 < c → length x ≡ w → length (pushed w x s) ≡ w * c
  unfolding pushed
  pushed_length x h l =
      let m = slot_within w c 0 h in
      let e = mul-one w in
      let d : length (drop w s) ≡ w * c - w = length-drop w s ∙ ap (λ (k : ℕ). k - w) len in
      omega (arith, length-append (drop w s) x)

  pub kept_length : (job : ℕ) (x : List ℕ) → 0 < c → length x ≡ w → length (kept_in w c job x s) ≡ w * c
  unfolding kept_in
  kept_length job x h l = go (slot_for w c job s) refl
    where
      go : (o : Option ℕ) → slot_for w c job s ≡ o → length (at_slot o (λ p. put_slot w p x s) (pushed w x s)) ≡ w * c
      go (Some p) e = put_length p x (for_below w c job s p e) l
      go None e = pushed_length x h l

  pub forgot_length : (job : ℕ) → length (forgot_in w c job s) ≡ w * c
  unfolding forgot_in
  forgot_length job = go (lowest (has_job job) w c s) refl
    where
      go : (o : Option ℕ) → lowest (has_job job) w c s ≡ o → length (at_slot o (λ p. dropped_slot w p s) s) ≡ w * c
      go (Some p) e = dropped_length p (found_below (has_job job) w c s p e)
      go None e = len
