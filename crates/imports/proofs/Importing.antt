-- What becomes of a list that was read.
use Prim.Native.Nat.{ℕ, ◌≤◌}
use mathlib.Core.Path.{◌≡◌, refl, sym, ap, ap₂, ◌∙◌}
use mathlib.Core.Bool.{Bool, true, false}
use mathlib.Core.List.{List}
use native.Mathlib.Omega.{arith}
use borrow.Author.Tests.{eq-eqb, ne_eqb}
use lib.Dec.{eqb}
use lib.ListN.{length, take, replicate}
use Rattle.std.specs.Prelude.{if◌then◌else◌}
use Rattle.packs.specs.Reading.{Outcome}
use Rattle.std.specs.Prelude.{Ok, Err}
use Rattle.refusals.specs.declared.Refusal.{Refusal}
use Rattle.refusals.specs.declared.Refusal.TheVariants.{NoDivisor}
use Rattle.refusals.specs.Refusals.{number_of, place_of}
use Rattle.packs.specs.Writing.{Written, refused, roomed}
use Rattle.jobs.specs.Packs.{write_job}
use Rattle.lists.specs.Cut.{lines_of}
use Rattle.lists.specs.Lines.{listed_of, ListRead}
use Rattle.lists.proofs.Whole.{list_count, done, exposures_read, counts_read}
use Rattle.lists.proofs.Near.{LineNumber, Ends, list_ends}
use Rattle.imports.specs.declared.Given.{Given}
use Rattle.imports.specs.Imports.{words_of, on_listed, import_of}

pub divisor_none : (g : Given) (room : ℕ) (text : List ℕ) → g.divisor ≡ 0 → refused NoDivisor ≡ import_of g room text
unfolding import_of
divisor_none g room text h = rw (eq-eqb g.divisor 0 h)

pub importing : (g : Given) (room : ℕ) (text : List ℕ) → (g.divisor ≡ 0 → ⊥) → {o : Outcome} → (listed_of true (lines_of text)).outcome ≡ o
    → on_listed g room (listed_of true (lines_of text)) o ≡ import_of g room text
unfolding import_of
importing g room text h e = rw (ne_eqb g.divisor 0 h) (ap (on_listed g room (listed_of true (lines_of text))) (sym e))

pub import_done : (g : Given) (room : ℕ) (text : List ℕ) → (g.divisor ≡ 0 → ⊥) → {o : Outcome} {n : ℕ} {es ds : List ℕ}
    → ListRead (listed_of true (lines_of text)) (replicate 120 0) (replicate 120 0) o es ds → o ≡ Ok n
    → roomed room (write_job (words_of g (take n es) (take n ds))) ≡ import_of g room text
import_done g room text h L d =
    ap₂ (λ (xs ys : List ℕ). roomed room (write_job (words_of g xs ys))) (exposures_read true text L d) (counts_read true text L d)
    ∙ importing g room text h (done true text L d)

pub import_refused : (g : Given) (room : ℕ) (text : List ℕ) → (g.divisor ≡ 0 → ⊥) → {o : Outcome} {r : Refusal} {es ds : List ℕ}
    → ListRead (listed_of true (lines_of text)) (replicate 120 0) (replicate 120 0) o es ds → o ≡ Err r → refused r ≡ import_of g room text
import_refused g room text h L d = importing g room text h (sym L.ends ∙ d)

-- the three ways in which an import ends: 19, a line's fault, or what the writer makes of the words
pub import_cases : (P : Written → Type 0) (g : Given) (room : ℕ) (text : List ℕ) → P (refused NoDivisor)
    → ((r : Refusal) → LineNumber true (number_of r) → place_of r ≤ 122 → P (refused r))
    → ((es ds : List ℕ) → length es ≡ length ds → P (roomed room (write_job (words_of g es ds)))) → P (import_of g room text)
unfolding import_of
import_cases P g room text nineteen fault made = go (eqb g.divisor 0)
  where
    listed : (o : Outcome) → (listed_of true (lines_of text)).outcome ≡ o → Ends true o → P (on_listed g room (listed_of true (lines_of text)) o)
    listed (Ok n) e h =
        let count = list_count true (lines_of text) n e in
        made (listed_of true (lines_of text)).exposures (listed_of true (lines_of text)).counts (omega (arith, count.exposures, count.counts))
    listed (Err r) e h = fault r h.0 h.1

    go : (t : Bool) → P (if t then refused NoDivisor else on_listed g room (listed_of true (lines_of text)) (listed_of true (lines_of text)).outcome)
    go true = nineteen
    go false = listed (listed_of true (lines_of text)).outcome refl (list_ends true (lines_of text))
