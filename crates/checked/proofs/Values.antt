-- Lists of signed numbers and their sizes, and a list that was stored over zeros: it stands in front, and zeros are after it.
use mathlib.Core.Path.{◌≡◌, refl, sym, ap, ◌∙◌}
use mathlib.Core.List.{List, [], ◌∷◌, ◌++◌, map}
use Prim.Native.Nat.{ℕ, zero, suc, ◌+◌, ◌≤◌}
use native.Mathlib.Omega.{arith}
use lib.IntN.{ℤ, pos, nat_abs}
use lib.ListN.{length, take, drop, get_or, replicate, length-replicate, length-drop}
use lib.Seq.{sets, sets-eq, get_or-drop, take-append-le, drop-append-le}
use Rattle.jobs.specs.Words.{word_at}
use Rattle.jobs.proofs.Places.{zeros_at}
use Rattle.measure.proofs.Packed.{lent_length}
use Rattle.checked.specs.Checked.{taken_from}

-- ---- sizes
pub length_map : (f : ℤ → ℕ) (xs : List ℤ) → length (map f xs) ≡ length xs
length_map f [] = refl
length_map f (x ∷ xs) = ap suc (length_map f xs)

pub map_at : (xs : List ℤ) (i : ℕ) → get_or (map nat_abs xs) i 0 ≡ nat_abs (word_at xs i)
map_at [] i = refl
map_at (x ∷ xs) zero = refl
map_at (x ∷ xs) (suc i) = map_at xs i

pub map_append : {A B : Type 0} (f : A → B) (xs ys : List A) → map f (xs ++ ys) ≡ map f xs ++ map f ys
map_append f [] ys = refl
map_append {A} {B} f (x ∷ xs) ys = ap (λ (l : List B). f x ∷ l) (map_append f xs ys)

-- n numbers of a list that has them are those of any list that it begins
pub numbers_append : (a n : ℕ) (xs ys : List ℤ) → a + n ≤ length xs → taken_from a n (xs ++ ys) ≡ taken_from a n xs
numbers_append a n xs ys h =
    let l = length_map nat_abs xs in
    ap (λ (m : List ℕ). take n (drop a m)) (map_append nat_abs xs ys)
    ∙ ap (take n) (drop-append-le a (map nat_abs xs) (map nat_abs ys) (omega arith))
    ∙ take-append-le n (drop a (map nat_abs xs)) (map nat_abs ys) (rw length-drop (omega arith))

-- ---- zeros
past_end : (xs zs : List ℤ) → ((i : ℕ) → word_at zs i ≡ pos 0) → (i : ℕ) → word_at (xs ++ zs) i ≡ word_at xs i
past_end [] zs h i = h i
past_end (x ∷ xs) zs h zero = refl
past_end (x ∷ xs) zs h (suc i) = past_end xs zs h i

-- ---- a list stored over m zeros
module _ (m : ℕ) (ws : List ℤ) (room : length ws ≤ m) (scratch : List ℤ) (stored : scratch ≡ sets (replicate m (pos 0)) 0 ws) where
  long : length (replicate m (pos 0)) ≡ m
  long = length-replicate m (pos 0)

  in_front : scratch ≡ ws ++ drop (0 + length ws) (replicate m (pos 0))
  in_front = stored ∙ sets-eq ws (replicate m (pos 0)) 0 (omega (arith, long))

  pub scratch_length : length scratch ≡ m
  scratch_length = sym (lent_length m ws scratch stored)

  pub same_word : (i : ℕ) → word_at scratch i ≡ word_at ws i
  same_word i =
      ap (λ (l : List ℤ). word_at l i) in_front
      ∙ past_end ws (drop (0 + length ws) (replicate m (pos 0))) (λ k. get_or-drop (0 + length ws) (replicate m (pos 0)) k (pos 0) ∙ zeros_at m (0 + length ws + k)) i

  pub same_numbers : (a n : ℕ) → a + n ≤ length ws → taken_from a n scratch ≡ taken_from a n ws
  same_numbers a n h = ap (taken_from a n) in_front ∙ numbers_append a n ws (drop (0 + length ws) (replicate m (pos 0))) h
