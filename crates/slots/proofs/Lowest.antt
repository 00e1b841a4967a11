-- The search for a slot: the tests by the words of the span, and the first of the slots that passes one. For any test and any w.
use mathlib.Core.Path.{◌≡◌, refl, sym, ap, ◌∙◌}
use mathlib.Core.Bool.{Bool, true, false, cond, ◌&&◌}
use mathlib.Core.List.{List, [], ◌∷◌}
use Prim.Native.Nat.{ℕ, zero, suc, ◌+◌, ◌*◌}
use native.Mathlib.Nat.{add-zero, mul-zero}
use native.Mathlib.Omega.{arith}
use lib.Dec.{leb, eqb, ltb}
use lib.ListN.{length, drop, get_or}
use lib.Seq.{get_or-drop, drop-drop}
use Rattle.std.specs.Prelude.{Option, Some, None}
use Rattle.std.specs.List.{range_with_len, position_from, position_or_len}
use Rattle.std.proofs.lemmas.Iterator.Adapters.{position_from-zero}
use Rattle.slots.specs.Slots.{most_cells, is_full, has_job, lowest, pick, later}
use Rattle.slots.proofs.Sizes.{slot_end}

-- ---- the tests, by the words of the span
module _ (s : List ℕ) (at : ℕ) where
  pub first_word : get_or (drop at s) 0 0 ≡ get_or s at 0
  first_word = get_or-drop at s 0 0 ∙ ap (λ (n : ℕ). get_or s n 0) (add-zero at)

  pub full_is : is_full (drop at s) ≡ (leb 2 (get_or s at 0) && leb (get_or s at 0) most_cells)
  unfolding is_full
  full_is = ap (λ (n : ℕ). leb 2 n && leb n most_cells) first_word

  pub job_is : (job : ℕ) → has_job job (drop at s) ≡ (is_full (drop at s) && eqb (get_or s (at + 1) 0) job)
  unfolding has_job
  job_is job = ap (λ (n : ℕ). is_full (drop at s) && eqb n job) (get_or-drop at s 1 0)

-- ---- the search
-- p slots further on
abbrev further : ℕ → Option ℕ → Option ℕ
further p (Some q) = Some (p + q)
further p None = None

none_further : (o : Option ℕ) → further 0 o ≡ o
none_further (Some q) = ap {B = Option ℕ} (λ (n : ℕ). Some n) (let e : 0 + q ≡ q = omega arith in e)
none_further None = refl

picked : (p : ℕ) (b : Bool) (o : Option ℕ) → cond b (Some p) (further (p + 1) o) ≡ further p (pick b (Some 0) (later o))
picked p true o = ap {B = Option ℕ} (λ (n : ℕ). Some n) (sym (add-zero p))
picked p false (Some q) = let e : p + 1 + q ≡ p + suc q = omega arith in ap {B = Option ℕ} (λ (n : ℕ). Some n) e
picked p false None = refl

module _ (test : List ℕ → Bool) (w : ℕ) (s : List ℕ) where
  from : (c p : ℕ) → position_from (λ (q : ℕ). test (drop (w * q) s)) p (range_with_len p c) ≡ further p (lowest test w c (drop (w * p) s))
  unfolding lowest
  from zero p = refl
  from (suc c) p =
      ap {B = Option ℕ} (λ (o : Option ℕ). cond (test (drop (w * p) s)) (Some p) o) (from c (p + 1))
      ∙ ap {B = Option ℕ} (λ (l : List ℕ). cond (test (drop (w * p) s)) (Some p) (further (p + 1) (lowest test w c l))) (ap (λ (k : ℕ). drop k s) (slot_end w p) ∙ sym (drop-drop w (w * p) s))
      ∙ picked p (test (drop (w * p) s)) (lowest test w c (drop w (drop (w * p) s)))

  -- the first of c slots that passes
  pub first_is : (c : ℕ) (r : Option ℕ)
      → r ≡ cond (ltb (position_or_len (λ (q : ℕ). test (drop (w * q) s)) (range_with_len 0 c)) (length (range_with_len 0 c))) (Some (position_or_len (λ (q : ℕ). test (drop (w * q) s)) (range_with_len 0 c))) None
      → r ≡ lowest test w c s
  first_is c r e =
      e ∙ position_from-zero (λ (q : ℕ). test (drop (w * q) s)) (range_with_len 0 c) ∙ from c 0
      ∙ none_further (lowest test w c (drop (w * 0) s)) ∙ ap {B = Option ℕ} (λ (k : ℕ). lowest test w c (drop k s)) (mul-zero w)

-- ---- over slots of one word: the first word that passes, where a test goes by the word alone
module _ (test : List ℕ → Bool) (alone : (x : ℕ) (xs : List ℕ) → test (x ∷ []) ≡ test (x ∷ xs)) where
  words : (xs : List ℕ) (p : ℕ) → position_from (λ (x : ℕ). test (x ∷ [])) p xs ≡ further p (lowest test 1 (length xs) xs)
  unfolding lowest
  words [] p = refl
  words (x ∷ xs) p =
      ap {B = Option ℕ} (λ (b : Bool). cond b (Some p) (position_from (λ (x : ℕ). test (x ∷ [])) (p + 1) xs)) (alone x xs)
      ∙ ap {B = Option ℕ} (λ (o : Option ℕ). cond (test (x ∷ xs)) (Some p) o) (words xs (p + 1)) ∙ picked p (test (x ∷ xs)) (lowest test 1 (length xs) xs)

  pub first_word_is : (xs : List ℕ) (r : Option ℕ)
      → r ≡ cond (ltb (position_or_len (λ (x : ℕ). test (x ∷ [])) xs) (length xs)) (Some (position_or_len (λ (x : ℕ). test (x ∷ [])) xs)) None
      → r ≡ lowest test 1 (length xs) xs
  first_word_is xs r e = e ∙ position_from-zero (λ (x : ℕ). test (x ∷ [])) xs ∙ words xs 0 ∙ none_further (lowest test 1 (length xs) xs)
