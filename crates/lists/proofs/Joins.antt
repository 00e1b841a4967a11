-- The lines of a text, joined again, are the text up to the last line's end; and a text of plain lines has those lines.
use Prim.Native.Nat.{ℕ, zero, suc, ◌+◌, ◌≤◌, ◌<◌}
use mathlib.Core.Path.{◌≡◌, refl, sym, ap, ap₂, ◌∙◌}
use mathlib.Core.Logic.{◌⊎◌, inl, inr}
use mathlib.Core.Bool.{Bool, true, false}
use mathlib.Core.List.{List, [], ◌∷◌, ◌++◌, append_assoc, append-nil}
use native.Mathlib.Omega.{arith}
use borrow.Author.Tests.{ne_eqb, eqb-true, ltb-true, ltb-false}
use lib.Dec.{eqb, ltb}
use lib.ListN.{length, take, drop, length-drop, length-append, drop_of_length-le, take-append-drop}
use lib.Seq.{take_at, take_all, drop-drop}
use Rattle.numbers.proofs.Clash.{clash}
use Rattle.decimals.specs.Promises.{AllDigits}
use Rattle.numbers.proofs.Both.{both}
use Rattle.lists.specs.Cut.{line_end, length_to, is_break, line_in, lines_after, lines_of}
use Rattle.lists.specs.Promises.{joined, LinesJoined}
use Rattle.lists.proofs.Cuts.{here_cons, on_cons, at_place, lines_none, lines_some}

pub joined_nil : joined [] ≡ []
unfolding joined
joined_nil = refl

pub joined_cons : (l : List ℕ) (ls : List (List ℕ)) → joined (l ∷ ls) ≡ l ++ (line_end ++ joined ls)
unfolding joined
joined_cons l ls = refl

-- ---- a line without CR
unfoldable pub Plain : List ℕ → Type 0
Plain [] = Unit {0}
Plain (b ∷ s) = (b ≡ 13 → ⊥) × Plain s

break_after : (s rest : List ℕ) → Plain s → length_to is_break (s ++ (line_end ++ rest)) ≡ length s
unfolding Plain
break_after [] rest p = here_cons is_break 13 (10 ∷ rest) refl
break_after (b ∷ s) rest p =
    let first : eqb b 13 ≡ false = ne_eqb b 13 p.0 in
    on_cons is_break b (s ++ (line_end ++ rest)) (rw first) ∙ ap suc (break_after s rest p.1)

past : (s rest : List ℕ) (n : ℕ) → n ≡ length s + 2 → drop n (s ++ (line_end ++ rest)) ≡ rest
past s rest n e = ap (λ (k : ℕ). drop k (s ++ (line_end ++ rest))) (e ∙ two (length s)) ∙ go s
  where
    two : (k : ℕ) → k + 2 ≡ suc (suc k)
    two k = omega arith

    go : (s : List ℕ) → drop (suc (suc (length s))) (s ++ (line_end ++ rest)) ≡ rest
    go [] = refl
    go (b ∷ s) = go s

pub plain_line : (s rest : List ℕ) → Plain s → lines_of (s ++ (line_end ++ rest)) ≡ s ∷ lines_of rest
plain_line s rest p =
    let n = break_after s rest p in
    let long = length-append s (line_end ++ rest) in
    lines_some (s ++ (line_end ++ rest)) (omega arith)
    ∙ ap₂ (λ (l ls : List ℕ). l ∷ lines_of ls)
    (ap (λ (k : ℕ). take k (s ++ (line_end ++ rest))) n ∙ take_at s (line_end ++ rest) (length s) refl)
    (past s rest (length_to is_break (s ++ (line_end ++ rest)) + 2) (ap (λ (k : ℕ). k + 2) n))

pub plain_digits : (s : List ℕ) → AllDigits s → Plain s
unfolding Plain
plain_digits [] a = tt
plain_digits (b ∷ s) a = ((λ e. omega (arith, a.0.0)), plain_digits s a.1)

pub plain_append : (s t : List ℕ) → Plain s → Plain t → Plain (s ++ t)
unfolding Plain
plain_append [] t p q = q
plain_append (b ∷ s) t p q = (p.0, plain_append s t p.1 q)

pub plain_one : (b : ℕ) (s : List ℕ) → (b ≡ 13 → ⊥) → Plain s → Plain (b ∷ s)
unfolding Plain
plain_one b s h p = (h, p)

pub plain_none : Plain []
unfolding Plain
plain_none = tt

-- ---- a text joined again
two_bytes : (s : List ℕ) → is_break s ≡ true → s ≡ line_end ++ drop 2 s
two_bytes [] e = clash (cc)
two_bytes (a ∷ []) e =
    let tests = both (eqb a 13) false e in
    let z : ◌≡◌ {A = ℕ} 0 1 = cc tests.1 in
    absurd (omega arith)
two_bytes (a ∷ b ∷ s) e =
    let tests = both (eqb a 13) (eqb b 10) e in
    ap₂ (λ (x y : ℕ). x ∷ y ∷ s) (eqb-true a 13 tests.0) (eqb-true b 10 tests.1)

-- a line that CR LF ends
cut_line : (s : List ℕ) → length_to is_break s < length s → s ≡ line_in s ++ (line_end ++ lines_after s)
cut_line s h =
    let n = length_to is_break s in
    sym (take-append-drop n s)
    ∙ ap (λ (l : List ℕ). take n s ++ l) (two_bytes (drop n s) (at_place is_break s h) ∙ ap (λ (l : List ℕ). line_end ++ l) (drop-drop 2 n s))

abbrev Joined : List ℕ → Type 0
Joined s = (joined (lines_of s) ≡ s) ⊎ (joined (lines_of s) ≡ s ++ line_end)

join_on : (s : List ℕ) → 0 < length s → length_to is_break s < length s → Joined (lines_after s) → Joined s
join_on s some h (inl e) =
    inl (ap joined (lines_some s some) ∙ joined_cons (line_in s) (lines_of (lines_after s)) ∙ ap (λ (l : List ℕ). line_in s ++ (line_end ++ l)) e ∙ sym (cut_line s h))
join_on s some h (inr e) =
    inr (
    ap joined (lines_some s some)
    ∙ joined_cons (line_in s) (lines_of (lines_after s))
    ∙ ap (λ (l : List ℕ). line_in s ++ (line_end ++ l)) e
    ∙ sym (append_assoc (line_in s) (line_end ++ lines_after s) line_end)
    ∙ ap (λ (l : List ℕ). l ++ line_end) (sym (cut_line s h))
    )

join_last : (s : List ℕ) → 0 < length s → length s ≤ length_to is_break s → Joined s
join_last s some h =
    let rest : lines_after s ≡ [] = drop_of_length-le s {i = length_to is_break s + 2} (omega arith) in
    inr (
    ap joined (lines_some s some)
    ∙ joined_cons (line_in s) (lines_of (lines_after s))
    ∙ ap₂ (λ (l r : List ℕ). l ++ (line_end ++ joined (lines_of r))) (take_all (length_to is_break s) s h) rest
    ∙ ap (λ (r : List ℕ). s ++ (line_end ++ r)) (ap joined lines_none ∙ joined_nil)
    ∙ ap (λ (r : List ℕ). s ++ r) (append-nil line_end)
    )

join_all : (f : ℕ) (s : List ℕ) → length s ≤ f → Joined s
join_all zero [] h = inl (ap joined lines_none ∙ joined_nil)
join_all zero (b ∷ s) h = absurd (omega arith)
join_all (suc f) [] h = inl (ap joined lines_none ∙ joined_nil)
join_all (suc f) (b ∷ s) h = go (ltb (length_to is_break (b ∷ s)) (length (b ∷ s))) refl (λ m. join_all f (lines_after (b ∷ s)) m)
  where
    go : (t : Bool) → ltb (length_to is_break (b ∷ s)) (length (b ∷ s)) ≡ t → (length (lines_after (b ∷ s)) ≤ f → Joined (lines_after (b ∷ s))) → Joined (b ∷ s)
    go true e ih =
        join_on (b ∷ s) (omega arith) (ltb-true (length_to is_break (b ∷ s)) (length (b ∷ s)) e)
        (ih (omega (arith, length-drop (length_to is_break (b ∷ s) + 2) (b ∷ s))))
    go false e ih = join_last (b ∷ s) (omega arith) (ltb-false (length_to is_break (b ∷ s)) (length (b ∷ s)) e)

pub lines_joined : LinesJoined
lines_joined s = join_all (length s) s (omega arith)
