-- Words that lie block after block. `lies` puts a block at its place in a list of words, `laid_out` puts blocks one after another, and `reach` goes
-- the other way: where a list goes on with blocks, each word of a block stands where the block starts. Where a block starts may be read
-- off the words themselves, as with links.
use Prim.Native.Nat.{ℕ, zero, suc, ◌+◌, ◌≤◌, ◌<◌}
use mathlib.Core.Path.{◌≡◌, refl, sym, ap, ap₂, subst, ◌∙◌}
use mathlib.Core.List.{List, [], ◌∷◌, ◌++◌, append_assoc}
use native.Mathlib.Nat as N
use native.Mathlib.Omega.{arith}
use lib.IntN.{ℤ, pos}
use lib.ListN.{length, drop, length-append, length-drop, get_or-append}
use lib.Seq.{drop-cons, drop-append_seam, drop-drop, get_or-drop}
use Rattle.jobs.specs.Words.{word_at}
use Rattle.jobs.proofs.Taken.{here_on}
use Rattle.turned.specs.Words.{in_turn}

-- a block whose words stand from p on
pub lies : (b : List ℤ) (p : ℕ) (ws : List ℤ) → p + length b ≤ length ws → ((c : ℕ) → c < length b → word_at ws (p + c) ≡ word_at b c)
    → drop p ws ≡ b ++ drop (p + length b) ws
lies [] p ws h e = ap (λ (k : ℕ). drop k ws) (sym (N.add-zero p))
lies (x ∷ b) p ws h e =
    drop-cons ws p (pos 0) (omega arith)
    ∙ ap₂ ◌∷◌ (ap (word_at ws) (sym (N.add-zero p)) ∙ e 0 (omega arith))
    (lies b (suc p) ws (omega arith) (λ c l. ap (word_at ws) (N.suc-add p c ∙ sym (N.add-suc p c)) ∙ e (suc c) (omega arith))
    ∙ ap (λ (k : ℕ). b ++ drop k ws) (N.suc-add p (length b) ∙ sym (N.add-suc p (length b))))

module _ (block : ℕ → List ℤ) (start : ℕ → ℕ) (ws : List ℤ) where
  pub laid_out : (k i : ℕ) → ((l : ℕ) → i ≤ l → l < i + k → drop (start l) ws ≡ block l ++ drop (start (suc l)) ws)
      → drop (start i) ws ≡ in_turn block i k ++ drop (start (i + k)) ws
  laid_out zero i h = ap (λ (l : ℕ). drop (start l) ws) (sym (N.add-zero i))
  laid_out (suc k) i h =
      h i (N.le_refl i) (omega arith)
      ∙ ap (λ (xs : List ℤ). block i ++ xs)
      (laid_out k (suc i) (λ l a b. h l (omega arith) (omega arith))
      ∙ ap (λ (l : ℕ). in_turn block (suc i) k ++ drop (start l) ws) (N.suc-add i k ∙ sym (N.add-suc i k)))
      ∙ sym (append_assoc (block i) (in_turn block (suc i) k) (drop (start (i + suc k)) ws))

  -- every word of the block l stands where the block starts
  pub record Stands (l : ℕ) : Type 0 where
    pub at : (c : ℕ) → c < length (block l) → word_at ws (start l + c) ≡ word_at (block l) c
    pub room : start l + length (block l) ≤ length ws

  pub record Reached (rest : List ℤ) (i k : ℕ) : Type 0 where
    pub each : (l : ℕ) → i ≤ l → l < i + k → Stands l
    pub last : drop (start (i + k)) ws ≡ rest
    pub inside : start (i + k) ≤ length ws

  pub reach : (rest : List ℤ) (k i : ℕ) → drop (start i) ws ≡ in_turn block i k ++ rest → start i ≤ length ws
      → ((l : ℕ) → i ≤ l → l < i + k → Stands l → start (suc l) ≡ start l + length (block l)) → Reached rest i k
  reach rest zero i e h next = record {
    each = λ l a b. absurd (omega arith);
    last = ap (λ (l : ℕ). drop (start l) ws) (N.add-zero i) ∙ e;
    inside = subst (λ (l : ℕ). start l ≤ length ws) (sym (N.add-zero i)) h;
  }
  reach rest (suc k) i e h next = go (reach rest k (suc i) onward (omega (arith, step, here.room)) (λ l a b. next l (omega arith) (omega arith)))
    where
      more : drop (start i) ws ≡ block i ++ (in_turn block (suc i) k ++ rest)
      more = e ∙ append_assoc (block i) (in_turn block (suc i) k) rest

      here : Stands i
      here = record {
        at = λ c l. sym (get_or-drop (start i) ws c (pos 0)) ∙ ap (λ (xs : List ℤ). word_at xs c) more ∙ get_or-append (block i) (in_turn block (suc i) k ++ rest) (pos 0) c l;
        room = omega (arith, length-drop (start i) ws, ap length more, length-append (block i) (in_turn block (suc i) k ++ rest));
      }

      step : start (suc i) ≡ start i + length (block i)
      step = next i (N.le_refl i) (omega arith) here

      onward : drop (start (suc i)) ws ≡ in_turn block (suc i) k ++ rest
      onward =
          ap (λ (p : ℕ). drop p ws) step ∙ sym (drop-drop (length (block i)) (start i) ws) ∙ ap (drop (length (block i))) more
          ∙ drop-append_seam (block i) (in_turn block (suc i) k ++ rest)

      go : Reached rest (suc i) k → Reached rest i (suc k)
      go r = record {
        each = λ l a b. here_on {P = Stands} {i = i} {n = i + suc k} here (λ j p q. r.each j (omega arith) (omega arith)) l a b;
        last = ap (λ (l : ℕ). drop (start l) ws) (N.add-suc i k ∙ sym (N.suc-add i k)) ∙ r.last;
        inside = subst (λ (l : ℕ). start l ≤ length ws) (N.suc-add i k ∙ sym (N.add-suc i k)) r.inside;
      }

-- ---- what holds of every word

abbrev pub Every : (P : ℤ → Type 0) → List ℤ → Type 0
Every P [] = Unit {0}
Every P (x ∷ xs) = P x × Every P xs

pub every_append : (P : ℤ → Type 0) (xs ys : List ℤ) → Every P xs → Every P ys → Every P (xs ++ ys)
every_append P [] ys h k = k
every_append P (x ∷ xs) ys h k = (h.0, every_append P xs ys h.1 k)

pub every_in_turn : (P : ℤ → Type 0) (block : ℕ → List ℤ) (k i : ℕ) → ((l : ℕ) → i ≤ l → l < i + k → Every P (block l)) → Every P (in_turn block i k)
every_in_turn P block zero i h = tt
every_in_turn P block (suc k) i h =
    every_append P (block i) (in_turn block (suc i) k) (h i (N.le_refl i) (omega arith))
    (every_in_turn P block k (suc i) (λ l a b. h l (omega arith) (omega arith)))

pub every_at : (P : ℤ → Type 0) (xs : List ℤ) → P (pos 0) → Every P xs → (i : ℕ) → P (word_at xs i)
every_at P [] z h i = z
every_at P (x ∷ xs) z h zero = h.0
every_at P (x ∷ xs) z h (suc i) = every_at P xs z h.1 i

-- equal blocks, one after another
pub same_in_turn : (f g : ℕ → List ℤ) (k i : ℕ) → ((l : ℕ) → i ≤ l → l < i + k → f l ≡ g l) → in_turn f i k ≡ in_turn g i k
same_in_turn f g zero i h = refl
same_in_turn f g (suc k) i h =
    ap₂ ◌++◌ (h i (N.le_refl i) (omega arith)) (same_in_turn f g k (suc i) (λ l a b. h l (omega arith) (omega arith)))
