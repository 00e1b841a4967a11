-- A loop that fills a list place by place, one turn after another.
use Rattle.std.proofs.Common.{◌≡◌, ℕ, zero, suc, ◌+◌, ◌-◌, ◌<◌, ◌≤◌, Bool, true, false, eqb, ltb, ◌⊎◌, List, ◌++◌, length, get_or, take, set, refl, ap, ◌∙◌, inl, inr, ⊎_elim, arith, length-set, get_or-set_other, get_or-set_same, lt-length-set, ltb-false, ltb-true, eqb-true}
use borrow.Author.Tests.{eqb-false}
use lib.Seq.{take-set-lt, set-append_left}
use Rattle.house.specs.Filled.{filled}

module _ {A : Type 0} (f : ℕ → A) (i n : ℕ) (xs : List A) where
  pub filled_more : i < n → filled f (n - i) i xs ≡ filled f (n - (i + 1)) (i + 1) (set xs i (f i))
  unfolding filled
  filled_more h =
      let e : n - i ≡ suc (n - (i + 1)) = omega arith in
      ap (λ (k : ℕ). filled f k i xs) e

  pub filled_done : n ≤ i → filled f (n - i) i xs ≡ xs
  unfolding filled
  filled_done h =
      let e : n - i ≡ 0 = omega arith in
      ap (λ (k : ℕ). filled f k i xs) e

-- ---- what stands in a filled list

later_than : (k i : ℕ) → i ≤ k → (k ≡ i → ⊥) → i + 1 ≤ k
later_than k i l q = go (ltb i k) refl
  where
    go : (t : Bool) → ltb i k ≡ t → i + 1 ≤ k
    go true e = omega (arith, ltb-true i k e)
    go false e = absurd (q (omega (arith, ltb-false i k e)))

module _ {A : Type 0} (f : ℕ → A) where
  pub take_filled : (n i m : ℕ) (xs : List A) → i + n ≤ m → take m (filled f n i xs) ≡ filled f n i (take m xs)
  unfolding filled
  take_filled zero i m xs h = refl
  take_filled (suc n) i m xs h = take_filled n (i + 1) m (set xs i (f i)) (omega arith) ∙ ap (filled f n (i + 1)) (take-set-lt m xs i (f i) (omega arith))

  pub filled_append : (n i : ℕ) (xs ys : List A) → i + n ≤ length xs → filled f n i (xs ++ ys) ≡ filled f n i xs ++ ys
  unfolding filled
  filled_append zero i xs ys h = refl
  filled_append (suc n) i xs ys h =
      ap (filled f n (i + 1)) (set-append_left xs ys i (f i) (omega arith)) ∙ filled_append n (i + 1) (set xs i (f i)) ys (rw length-set (omega arith))

  pub length_filled : (n i : ℕ) (xs : List A) → length (filled f n i xs) ≡ length xs
  unfolding filled
  length_filled zero i xs = refl
  length_filled (suc n) i xs = length_filled n (i + 1) (set xs i (f i)) ∙ length-set xs i (f i)

  -- a place that is not filled
  pub filled_other : (n i k : ℕ) (xs : List A) (d : A) → (k < i) ⊎ (i + n ≤ k) → get_or (filled f n i xs) k d ≡ get_or xs k d
  unfolding filled
  filled_other zero i k xs d h = refl
  filled_other (suc n) i k xs d h =
      filled_other n (i + 1) k (set xs i (f i)) d (⊎_elim (λ a. inl (omega arith)) (λ b. inr (omega arith)) h)
      ∙ get_or-set_other xs i k (f i) d (⊎_elim (λ a e. absurd (omega arith)) (λ b e. absurd (omega arith)) h)

  -- a place that is filled
  pub filled_at : (n i k : ℕ) (xs : List A) (d : A) → i ≤ k → k < i + n → k < length xs → get_or (filled f n i xs) k d ≡ f k
  unfolding filled
  filled_at zero i k xs d l h r = absurd (omega arith)
  filled_at (suc n) i k xs d l h r = go (eqb k i) refl (λ q. filled_at n (i + 1) k (set xs i (f i)) d q (omega arith) (lt-length-set xs i (f i) r))
    where
      go : (t : Bool) → eqb k i ≡ t → (i + 1 ≤ k → get_or (filled f n (i + 1) (set xs i (f i))) k d ≡ f k) → get_or (filled f n (i + 1) (set xs i (f i))) k d ≡ f k
      go true e later =
          let q : k ≡ i = eqb-true k i e in
          filled_other n (i + 1) k (set xs i (f i)) d (inl (omega arith)) ∙ rw q (get_or-set_same xs i (f i) d (omega arith))
      go false e later = later (later_than k i l (eqb-false k i e))
