-- Every word of an import fits 64 bits, so that the round trips of packs hold for it.
use Prim.Native.Nat.{ℕ, zero, suc, ◌/◌, ◌^◌, ◌≤◌, ◌<◌}
use mathlib.Core.Path.{◌≡◌, refl}
use mathlib.Core.Bool.{Bool, true, false}
use mathlib.Core.List.{List, [], ◌∷◌, ◌++◌}
use native.Mathlib.Omega.{arith}
use borrow.Author.Tests.{ltb-false, leb-true}
use lib.Dec.{leb, ltb}
use lib.IntN.{ℤ, pos, negsuc}
use lib.ListN.{length}
use mir.Syntax.{w64}
use mir.Val.{SFits}
use Rattle.whole.proofs.Fits.{sfits64}
use Rattle.std.specs.Prelude.{if◌then◌else◌}
use Rattle.packs.specs.Promises.{AllWords}
use Rattle.lists.specs.Promises.{Listing, none, line, ListText}
use Rattle.imports.specs.declared.Given.{Given}
use Rattle.imports.specs.Imports.{crude_of, weight_of, word_upto, largest_word, largest_order, cell_of, cells_of, head_of, words_of}
use Rattle.imports.proofs.Made.{cells_cons, cells_nil, words_parts}
use Rattle.imports.proofs.Rounds.{rates_allowed}

FitAll : List ℤ → Type 0
FitAll [] = Unit {0}
FitAll (x ∷ xs) = SFits w64 x × FitAll xs

fit_words : (ws : List ℤ) → FitAll ws → AllWords ws
unfolding FitAll
fit_words [] f i = sfits64 (pos 0) (omega arith)
fit_words (x ∷ ws) f zero = f.0
fit_words (x ∷ ws) f (suc i) = fit_words ws f.1 i

fit_append : (xs ys : List ℤ) → FitAll xs → FitAll ys → FitAll (xs ++ ys)
unfolding FitAll
fit_append [] ys f g = g
fit_append (x ∷ xs) ys f g = (f.0, fit_append xs ys f.1 g)

fit_small : (n : ℕ) → n < 2 ^ 63 → SFits w64 (pos n)
fit_small n h = sfits64 (pos n) h

fit_upto : (most x : ℕ) → most ≤ largest_word → SFits w64 (word_upto most x)
fit_upto most x h = go (leb x most) refl
  where
    go : (t : Bool) → leb x most ≡ t → SFits w64 (if t then pos x else negsuc 0)
    go true e = fit_small x (omega (arith, leb-true x most e))
    go false e = sfits64 (negsuc 0) (omega arith)

weight_most : (divisor exposure : ℕ) → weight_of divisor exposure ≤ 1000
weight_most divisor exposure = go (ltb 1000 (exposure / divisor)) refl
  where
    go : (t : Bool) → ltb 1000 (exposure / divisor) ≡ t → (if t then 1000 else exposure / divisor) ≤ 1000
    go true e = omega arith
    go false e = ltb-false 1000 (exposure / divisor) e

cell_fits : (g : Given) (exposure deaths : ℕ) → deaths ≤ exposure → FitAll (cell_of g exposure deaths)
unfolding cell_of FitAll
cell_fits g exposure deaths h = (
  fit_small (crude_of exposure deaths) (omega (arith, rates_allowed exposure deaths h)),
  (
    fit_small (weight_of g.divisor exposure) (omega (arith, weight_most g.divisor exposure)),
    (fit_upto largest_word g.floor (omega arith), (fit_upto largest_word g.ceiling (omega arith), tt)),
  ),
)

cells_fit : (g : Given) {age : ℕ} {lines : List (List ℕ)} {es ds : List ℕ} → Listing true age lines es ds → FitAll (cells_of g es ds)
unfolding FitAll
cells_fit g none = rw (cells_nil g []) tt
cells_fit g (line {exposure = e} {count = d} {exposures = es} {counts = ds} r below L) =
    rw (cells_cons g e d es ds) (fit_append (cell_of g e d) (cells_of g es ds) (cell_fits g e d (below refl)) (cells_fit g L))

head_fits : (g : Given) (n : ℕ) → n ≤ 120 → FitAll (head_of g n)
unfolding head_of FitAll
head_fits g n h = (
  fit_upto largest_word g.society (omega arith),
  (
    fit_upto largest_word g.job (omega arith),
    (
      fit_small n (omega arith),
      (fit_upto largest_order g.order (omega arith), (fit_upto largest_word g.constant (omega arith), (fit_upto largest_word g.tolerance (omega arith), tt))),
    ),
  ),
)

last_fits : FitAll (pos 0 ∷ [])
unfolding FitAll
last_fits = (fit_small 0 (omega arith), tt)

pub words_fit : (g : Given) (text es ds : List ℕ) → ListText true text es ds → AllWords (words_of g es ds)
words_fit g text es ds C =
    rw (words_parts g es ds)
    (fit_words (head_of g (length es) ++ (cells_of g es ds ++ (pos 0 ∷ [])))
    (fit_append (head_of g (length es)) (cells_of g es ds ++ (pos 0 ∷ [])) (head_fits g (length es) C.few)
    (fit_append (cells_of g es ds) (pos 0 ∷ []) (cells_fit g C.listing) last_fits)))
