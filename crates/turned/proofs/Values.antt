-- A proposal's words with its cells turned about: a value for each cell and a multiplier for each link, all of them allowed; turned about again, they are turned
-- about once.
use Prim.Native.Nat.{ℕ, zero, suc, ◌+◌, ◌≤◌, ◌<◌}
use mathlib.Core.Path.{◌≡◌, refl, sym, ap, ap₂, subst, ◌∙◌}
use mathlib.Core.List.{List, [], ◌∷◌, ◌++◌}
use native.Mathlib.Nat as N
use native.Mathlib.Omega.{arith}
use lib.IntN.{ℤ, pos}
use lib.ListN.{length, drop, length-append, length-drop, get_or-append}
use lib.Seq.{drop-cons, drop-append_seam, get_or-append-add, get_or-drop}
use Rattle.whole.proofs.Turned.{Involution}
use Rattle.jobs.specs.Words.{word_at}
use Rattle.jobs.specs.Allowed.{Upto, Proposed}
use Rattle.turned.specs.Words.{in_turn, turned_value, turned_values}
use Rattle.turned.proofs.Blocks.{laid_out, same_in_turn}

-- blocks of one word
length_singles : (f : ℕ → ℤ) (k i : ℕ) → length (in_turn (λ m. f m ∷ []) i k) ≡ k
length_singles f zero i = refl
length_singles f (suc k) i = ap suc (length_singles f k (suc i))

single_at : (f : ℕ → ℤ) (k i m : ℕ) → m < k → word_at (in_turn (λ m. f m ∷ []) i k) m ≡ f (i + m)
single_at f zero i m h = absurd (N.not-suc-le-zero h)
single_at f (suc k) i zero h = ap f (sym (N.add-zero i))
single_at f (suc k) i (suc m) h = single_at f k (suc i) m (N.le_of_suc-le-suc h) ∙ ap f (N.suc-add i m ∙ sym (N.add-suc i m))

module _ (τ : ℕ → ℕ) (cells : ℕ) (ps : List ℤ) where
  abbrev ps' : List ℤ
  ps' = turned_values τ cells ps

  abbrev values : List ℤ
  values = in_turn (turned_value τ ps) 0 cells

  -- the word of a block
  abbrev word : ℕ → ℤ
  word i = word_at (turned_value τ ps i) 0

  long : length values ≡ cells
  long = length_singles word cells 0

  pub turned_value_lem : (i : ℕ) → i < cells → word_at ps' i ≡ word_at ps (τ i)
  turned_value_lem i h =
      get_or-append values (drop cells ps) (pos 0) i (subst (λ (n : ℕ). i < n) (sym long) h)
      ∙ single_at word cells 0 i h ∙ ap (λ (x : ℕ). word_at ps (τ x)) (N.zero-add i)

  pub turned_multiplier : (l : ℕ) → word_at ps' (cells + l) ≡ word_at ps (cells + l)
  turned_multiplier l =
      ap (λ (n : ℕ). word_at ps' (n + l)) (sym long) ∙ get_or-append-add values (drop cells ps) l (pos 0) ∙ get_or-drop cells ps l (pos 0)

  rest_kept : drop cells ps' ≡ drop cells ps
  rest_kept = ap (λ (n : ℕ). drop n ps') (sym long) ∙ drop-append_seam values (drop cells ps)

  pub turned_proposed : {links : ℕ} → Proposed cells links ps → Involution cells τ → Proposed cells links ps'
  turned_proposed P I = record {
    count = omega (arith, length-append values (drop cells ps), long, length-drop cells ps, P.count);
    value = λ i h. subst (Upto 1000000) (sym (turned_value_lem i h)) (P.value (τ i) (I.stays i h));
    multiplier = λ l h. subst (Upto 1000000000) (sym (turned_multiplier l)) (P.multiplier l h);
  }

pub values_again : (σ τ ρ : ℕ → ℕ) (cells : ℕ) (ps : List ℤ) → ((i : ℕ) → i < cells → τ i < cells) → ((i : ℕ) → i < cells → σ (τ i) ≡ ρ i)
    → turned_values τ cells (turned_values σ cells ps) ≡ turned_values ρ cells ps
values_again σ τ ρ cells ps stays meets =
    ap₂ ◌++◌
    (same_in_turn (turned_value τ (turned_values σ cells ps)) (turned_value ρ ps) cells 0
    (λ i a b. let h : i < cells = omega arith in ap (λ (z : ℤ). z ∷ []) (turned_value_lem σ cells ps (τ i) (stays i h) ∙ ap (word_at ps) (meets i h))))
    (rest_kept σ cells ps)

-- turning nothing changes nothing
own_values : (cells : ℕ) (ps : List ℤ) → cells ≤ length ps → turned_values (λ i. i) cells ps ≡ ps
own_values cells ps h =
    sym
    (laid_out (turned_value (λ i. i) ps) (λ i. i) ps cells 0 (λ l a b. drop-cons ps l (pos 0) (omega arith))
    ∙ ap (λ (k : ℕ). in_turn (turned_value (λ i. i) ps) 0 cells ++ drop k ps) (N.zero-add cells))

pub values_twice : (τ : ℕ → ℕ) (cells : ℕ) (ps : List ℤ) → cells ≤ length ps → Involution cells τ → turned_values τ cells (turned_values τ cells ps) ≡ ps
values_twice τ cells ps h I = values_again τ τ (λ i. i) cells ps I.stays I.twice ∙ own_values cells ps h
