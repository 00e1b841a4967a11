-- The moves of slots on words that begin with a slot, for any words w of a slot: what is done to slot p + 1 is done to slot p of the rest.
use mathlib.Core.Path.{◌≡◌, refl, sym, ap, ◌∙◌}
use mathlib.Core.List.{List, [], ◌++◌, append_assoc}
use Prim.Native.Nat.{ℕ, suc, ◌+◌, ◌-◌, ◌*◌, ◌≤◌}
use native.Mathlib.Nat.{mul-zero, mul-suc, mul-one, add_comm}
use native.Mathlib.Omega.{arith}
use lib.ListN.{length, take, drop, replicate, length-append}
use lib.Seq.{take-append-add, drop-append-add, drop_at}
use mathlib.Core.Bool.{Bool, true, false, cond}
use Rattle.slots.specs.Slots.{most_cells, values_end, head_of, padded, slot_of, put_slot, dropped_slot, lowest, pick, later, has_job, at_slot, forgot_in}
use Rattle.std.specs.Prelude.{Option, Some, None}
use Rattle.slots.proofs.Stored.{padded_length}

-- a slot has w words
pub slot_length : (w job f g : ℕ) (v y : List ℕ) → length v ≤ most_cells → values_end + length y ≤ w → length (slot_of w job f g v y) ≡ w
unfolding slot_of
slot_length w job f g v y h k =
    let a = head_of (length v) job f g (length y) in
    let p = padded most_cells v in
    let q = padded (w - values_end) y in
    omega (arith, length-append a (p ++ q), length-append p q, padded_length most_cells v h, padded_length (w - values_end) y (omega arith))

module _ (w : ℕ) (y rest : List ℕ) (len : length y ≡ w) where
  ahead : (p : ℕ) → w * suc p ≡ length y + w * p
  ahead p = mul-suc w p ∙ add_comm (w * p) w ∙ ap (λ (k : ℕ). k + w * p) (sym len)

  pub take_next : (p : ℕ) → take (w * suc p) (y ++ rest) ≡ y ++ take (w * p) rest
  take_next p = ap (λ (k : ℕ). take k (y ++ rest)) (ahead p) ∙ take-append-add y rest (w * p)

  pub drop_next : (p : ℕ) → drop (w * suc p) (y ++ rest) ≡ drop (w * p) rest
  drop_next p = ap (λ (k : ℕ). drop k (y ++ rest)) (ahead p) ∙ drop-append-add y rest (w * p)

  drop_after : (p : ℕ) → drop (w * (suc p + 1)) (y ++ rest) ≡ drop (w * (p + 1)) rest
  drop_after p =
      let e : suc p + 1 ≡ suc (p + 1) = omega arith in
      ap (λ (k : ℕ). drop (w * k) (y ++ rest)) e ∙ drop_next (p + 1)

  pub drop_first : drop w (y ++ rest) ≡ rest
  drop_first = drop_at y rest w len

  drop_one : drop (w * (0 + 1)) (y ++ rest) ≡ rest
  drop_one = ap (λ (k : ℕ). drop k (y ++ rest)) (mul-one w) ∙ drop_first

  take_none : take (w * 0) (y ++ rest) ≡ []
  take_none = ap (λ (k : ℕ). take k (y ++ rest)) (mul-zero w)

  pub put_first : (x : List ℕ) → put_slot w 0 x (y ++ rest) ≡ x ++ rest
  unfolding put_slot
  put_first x = ap (λ (l : List ℕ). l ++ (x ++ drop (w * (0 + 1)) (y ++ rest))) take_none ∙ ap (λ (l : List ℕ). x ++ l) drop_one

  pub put_next : (p : ℕ) (x : List ℕ) → put_slot w (suc p) x (y ++ rest) ≡ y ++ put_slot w p x rest
  unfolding put_slot
  put_next p x =
      ap (λ (l : List ℕ). l ++ (x ++ drop (w * (suc p + 1)) (y ++ rest))) (take_next p)
      ∙ ap (λ (l : List ℕ). (y ++ take (w * p) rest) ++ (x ++ l)) (drop_after p)
      ∙ append_assoc y (take (w * p) rest) (x ++ drop (w * (p + 1)) rest)

  pub dropped_first : dropped_slot w 0 (y ++ rest) ≡ rest ++ replicate w 0
  unfolding dropped_slot
  dropped_first = ap (λ (l : List ℕ). l ++ (drop (w * (0 + 1)) (y ++ rest) ++ replicate w 0)) take_none ∙ ap (λ (l : List ℕ). l ++ replicate w 0) drop_one

  pub dropped_next : (p : ℕ) → dropped_slot w (suc p) (y ++ rest) ≡ y ++ dropped_slot w p rest
  unfolding dropped_slot
  dropped_next p =
      ap (λ (l : List ℕ). l ++ (drop (w * (suc p + 1)) (y ++ rest) ++ replicate w 0)) (take_next p)
      ∙ ap (λ (l : List ℕ). (y ++ take (w * p) rest) ++ (l ++ replicate w 0)) (drop_after p)
      ∙ append_assoc y (take (w * p) rest) (drop (w * (p + 1)) rest ++ replicate w 0)

-- a span in which slot p, where the job is, becomes x
unfoldable pub replaced_in : ℕ → ℕ → ℕ → List ℕ → List ℕ → List ℕ
replaced_in w c job x s = at_slot (lowest (has_job job) w c s) (λ p. put_slot w p x s) s

-- ---- a search and a move on c + 1 slots, by those on the c after the first
module _ (w : ℕ) (y rest : List ℕ) (len : length y ≡ w) (c : ℕ) where
  pub lowest_step : (test : List ℕ → Bool) (b : Bool) → test (y ++ rest) ≡ b → lowest test w (suc c) (y ++ rest) ≡ pick b (Some 0) (later (lowest test w c rest))
  unfolding lowest
  lowest_step test b e =
      ap {B = Option ℕ} (λ (o : Bool). pick o (Some 0) (later (lowest test w c (drop w (y ++ rest))))) e
      ∙ ap {B = Option ℕ} (λ (l : List ℕ). pick b (Some 0) (later (lowest test w c l))) (drop_first w y rest len)

  module _ (job : ℕ) (b : Bool) (e : has_job job (y ++ rest) ≡ b) where
    pub by_slot : {A : Type 0} (f : ℕ → A) (d : A) → at_slot (lowest (has_job job) w (suc c) (y ++ rest)) f d ≡ at_slot (pick b (Some 0) (later (lowest (has_job job) w c rest))) f d
    by_slot {A} f d = ap {B = A} (λ (o : Option ℕ). at_slot o f d) (lowest_step (has_job job) b e)

    pub forgot_step : forgot_in w (suc c) job (y ++ rest) ≡ cond b (rest ++ replicate w 0) (y ++ forgot_in w c job rest)
    unfolding forgot_in
    forgot_step = by_slot (λ p. dropped_slot w p (y ++ rest)) (y ++ rest) ∙ go b (lowest (has_job job) w c rest)
      where
        go : (b : Bool) (o : Option ℕ) → at_slot (pick b (Some 0) (later o)) (λ p. dropped_slot w p (y ++ rest)) (y ++ rest) ≡ cond b (rest ++ replicate w 0) (y ++ at_slot o (λ p. dropped_slot w p rest) rest)
        go true o = dropped_first w y rest len
        go false (Some p) = dropped_next w y rest len p
        go false None = refl

    pub replaced_step : (x : List ℕ) → replaced_in w (suc c) job x (y ++ rest) ≡ cond b (x ++ rest) (y ++ replaced_in w c job x rest)
    unfolding replaced_in
    replaced_step x = by_slot (λ p. put_slot w p x (y ++ rest)) (y ++ rest) ∙ go b (lowest (has_job job) w c rest)
      where
        go : (b : Bool) (o : Option ℕ) → at_slot (pick b (Some 0) (later o)) (λ p. put_slot w p x (y ++ rest)) (y ++ rest) ≡ cond b (x ++ rest) (y ++ at_slot o (λ p. put_slot w p x rest) rest)
        go true o = put_first w y rest len x
        go false (Some p) = put_next w y rest len p x
        go false None = refl
