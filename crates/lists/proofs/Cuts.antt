-- The first place at which a test holds, sought byte by byte, and the lines that such places part.
use Prim.Native.Nat.{ℕ, zero, suc, ◌+◌, ◌-◌, ◌≤◌, ◌<◌}
use mathlib.Core.Path.{◌≡◌, refl, sym, ap, ◌∙◌}
use mathlib.Core.Bool.{Bool, true, false, ◌&&◌}
use mathlib.Core.List.{List, [], ◌∷◌}
use native.Mathlib.Numerals.{add-one}
use native.Mathlib.Omega.{arith}
use borrow.Author.Tests.{eq-eqb, ne_eqb, eqb-true}
use lib.Dec.{eqb}
use lib.Pointwise.{pointwise}
use Rattle.std.specs.Prelude.{Option, MatchOption, unwrap_or}
use Rattle.std.specs.List.{AllWithin, HoldsAt}
use Rattle.std.proofs.lemmas.Iterator.{index_from_first}
use lib.ListN.{length, get_or, take, drop, length-drop, drop_of_length-le}
use lib.Seq.{drop-cons, take_all}
use Rattle.numbers.proofs.Clash.{clash}
use Rattle.numbers.proofs.Both.{both}
use Rattle.lists.specs.Cut.{length_to, is_break, is_comma, field_in, fields_after, line_in, lines_after, lines_in, lines_of, same_bytes}

-- ---- one byte after another
pub here_cons : (test : List ℕ → Bool) (b : ℕ) (s : List ℕ) → test (b ∷ s) ≡ true → length_to test (b ∷ s) ≡ 0
unfolding length_to
here_cons test b s e = rw e

pub on_cons : (test : List ℕ → Bool) (b : ℕ) (s : List ℕ) → test (b ∷ s) ≡ false → length_to test (b ∷ s) ≡ suc (length_to test s)
unfolding length_to
on_cons test b s e = rw e

pub none_left : (test : List ℕ → Bool) → length_to test [] ≡ 0
unfolding length_to
none_left test = refl

-- what is sought lies no further on than the end
pub to_within : (test : List ℕ → Bool) (s : List ℕ) → length_to test s ≤ length s
to_within test [] = omega (arith, none_left test)
to_within test (b ∷ s) = go (test (b ∷ s)) refl (to_within test s)
  where
    go : (t : Bool) → test (b ∷ s) ≡ t → length_to test s ≤ length s → length_to test (b ∷ s) ≤ length (b ∷ s)
    go true e h = omega (arith, here_cons test b s e)
    go false e h = omega (arith, on_cons test b s e)

-- at the place sought the test holds
pub at_place : (test : List ℕ → Bool) (s : List ℕ) → length_to test s < length s → test (drop (length_to test s) s) ≡ true
at_place test [] h = absurd (omega (arith, none_left test))
at_place test (b ∷ s) h = go (test (b ∷ s)) refl (at_place test s)
  where
    go : (t : Bool) → test (b ∷ s) ≡ t → (length_to test s < length s → test (drop (length_to test s) s) ≡ true) → test (drop (length_to test (b ∷ s)) (b ∷ s)) ≡ true
    go true e ih = ap (λ (n : ℕ). test (drop n (b ∷ s))) (here_cons test b s e) ∙ e
    go false e ih = ap (λ (n : ℕ). test (drop n (b ∷ s))) (on_cons test b s e) ∙ ih (omega (arith, on_cons test b s e))

-- The search from `at` on has come to i.
pub record Seeking (test : List ℕ → Bool) (s : List ℕ) (at i : ℕ) : Type 0 where
  pub within : i ≤ length s
  pub same : i + length_to test (drop i s) ≡ at + length_to test (drop at s)

-- Where it ends: at the place sought, inside.
abbrev pub Sought : (List ℕ → Bool) → List ℕ → (at r : ℕ) → Type 0
Sought test s at r = (r ≡ at + length_to test (drop at s)) × (r ≤ length s)

pub seeking_start : (test : List ℕ → Bool) (s : List ℕ) (at : ℕ) → at ≤ length s → Seeking test s at at
seeking_start test s at h = record { within = h; same = refl }

module _ {test : List ℕ → Bool} {s : List ℕ} {at i : ℕ} (S : Seeking test s at i) where
  pub seeking_here : i < length s → test (drop i s) ≡ true → Sought test s at i
  seeking_here h e =
      let byte = drop-cons s i 0 h in
      let none : length_to test (drop i s) ≡ 0 = ap (length_to test) byte ∙ here_cons test (get_or s i 0) (drop (suc i) s) (ap test (sym byte) ∙ e) in
      (omega (arith, S.same), S.within)

  pub seeking_on : i < length s → test (drop i s) ≡ false → Seeking test s at (i + 1)
  seeking_on h e =
      let byte = drop-cons s i 0 h in
      let more : length_to test (drop i s) ≡ suc (length_to test (drop (suc i) s)) =
      ap (length_to test) byte ∙ on_cons test (get_or s i 0) (drop (suc i) s) (ap test (sym byte) ∙ e) in
      let next : length_to test (drop (i + 1) s) ≡ length_to test (drop (suc i) s) = ap (λ (n : ℕ). length_to test (drop n s)) (add-one i) in
      record { within = omega arith; same = omega (arith, S.same) }

  pub seeking_end : length s ≤ i → Sought test s at i
  seeking_end h =
      let none : length_to test (drop i s) ≡ 0 = ap (length_to test) (drop_of_length-le s {i = i} h) ∙ none_left test in
      (omega (arith, S.same), S.within)

-- ---- a comma, as the library seeks it, and what stands on both sides of it
comma_here : (b : ℕ) (s : List ℕ) → b ≡ 44 → length_to is_comma (b ∷ s) ≡ 0
comma_here b s e = here_cons is_comma b s (eq-eqb b 44 e)

comma_not : (b : ℕ) (s : List ℕ) → (b ≡ 44 → ⊥) → length_to is_comma (b ∷ s) ≡ length_to is_comma s + 1
comma_not b s n = on_cons is_comma b s (ne_eqb b 44 n) ∙ sym (add-one (length_to is_comma s))

pub comma_found : (line : List ℕ) (r : Option ℕ)
    → MatchOption r (AllWithin (λ b. b ≡ 44 → ⊥) line 0 (length line)) (λ i. (i < length line) × HoldsAt (λ b. b ≡ 44) line i × AllWithin (λ b. b ≡ 44 → ⊥) line 0 i)
    → length_to is_comma line ≡ unwrap_or r (length line)
comma_found = index_from_first (length_to is_comma) (λ b. b ≡ 44) (λ b. b ≡ 44 → ⊥) (none_left is_comma) comma_here comma_not

module _ (line : List ℕ) {n : ℕ} (e : length_to is_comma line ≡ n) where
  pub comma_cut : (take n line ≡ field_in line) × (take (length line - (n + 1)) (drop (n + 1) line) ≡ fields_after line)
  comma_cut = (
    ap (λ (k : ℕ). take k line) (sym e),
    take_all (length line - (n + 1)) (drop (n + 1) line) (omega (arith, length-drop (n + 1) line)) ∙ ap (λ (k : ℕ). drop (k + 1) line) (sym e),
  )

-- ---- byte for byte
pub bytes_same : (a : List ℕ) → same_bytes a a ≡ true
unfolding same_bytes
bytes_same [] = refl
bytes_same (x ∷ a) = rw (eq-eqb x x refl) (bytes_same a)

cons_eq : (x y : ℕ) (a b : List ℕ) → x ≡ y → a ≡ b → x ∷ a ≡ y ∷ b
cons_eq x y a b e q = cc

pub bytes_equal : (a b : List ℕ) → same_bytes a b ≡ true → a ≡ b
unfolding same_bytes
bytes_equal [] [] e = refl
bytes_equal [] (y ∷ b) e = clash (cc)
bytes_equal (x ∷ a) [] e = clash (cc)
bytes_equal (x ∷ a) (y ∷ b) e =
    let tests = both (eqb x y) (same_bytes a b) e in
    cons_eq x y a b (eqb-true x y tests.0) (bytes_equal a b tests.1)

-- the library's comparison of bytes
pub same_told : (a b : List ℕ) → pointwise eqb a b ≡ same_bytes a b
unfolding same_bytes
same_told [] [] = refl
same_told [] (y ∷ b) = refl
same_told (x ∷ a) [] = refl
same_told (x ∷ a) (y ∷ b) = ap (λ (t : Bool). eqb x y && t) (same_told a b)

-- ---- the lines of a text
-- more room than there are bytes changes nothing
lines_fuel : (f g : ℕ) (s : List ℕ) → length s ≤ f → length s ≤ g → lines_in f s ≡ lines_in g s
unfolding lines_in
lines_fuel zero zero s h k = refl
lines_fuel zero (suc g) [] h k = refl
lines_fuel zero (suc g) (b ∷ s) h k = absurd (omega arith)
lines_fuel (suc f) zero [] h k = refl
lines_fuel (suc f) zero (b ∷ s) h k = absurd (omega arith)
lines_fuel (suc f) (suc g) [] h k = refl
lines_fuel (suc f) (suc g) (b ∷ s) h k =
    let fewer : length (lines_after (b ∷ s)) ≤ length s = omega (arith, length-drop (length_to is_break (b ∷ s) + 2) (b ∷ s)) in
    ap (λ (ls : List (List ℕ)). line_in (b ∷ s) ∷ ls) (lines_fuel f g (lines_after (b ∷ s)) (omega arith) (omega arith))

pub lines_none : lines_of [] ≡ []
unfolding lines_in
lines_none = refl

pub lines_cons : (b : ℕ) (s : List ℕ) → lines_of (b ∷ s) ≡ line_in (b ∷ s) ∷ lines_of (lines_after (b ∷ s))
unfolding lines_in
lines_cons b s =
    let fewer : length (lines_after (b ∷ s)) ≤ length s = omega (arith, length-drop (length_to is_break (b ∷ s) + 2) (b ∷ s)) in
    ap (λ (ls : List (List ℕ)). line_in (b ∷ s) ∷ ls) (lines_fuel (length s) (length (lines_after (b ∷ s))) (lines_after (b ∷ s)) fewer (omega arith))

pub lines_some : (s : List ℕ) → 0 < length s → lines_of s ≡ line_in s ∷ lines_of (lines_after s)
lines_some [] h = absurd (omega arith)
lines_some (b ∷ s) h = lines_cons b s
