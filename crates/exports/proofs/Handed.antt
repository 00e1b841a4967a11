-- What becomes of a list that was read back.
use Prim.Native.Nat.{ℕ, ◌≤◌}
use mathlib.Core.Path.{◌≡◌, refl, sym, ap, ap₂, ◌∙◌}
use mathlib.Core.Bool.{Bool, true, false}
use mathlib.Core.List.{List}
use native.Mathlib.Omega.{arith}
use lib.Dec.{eqb, ltb}
use lib.ListN.{length, take, replicate}
use Rattle.std.specs.Prelude.{if◌then◌else◌}
use Rattle.packs.specs.Reading.{Outcome}
use Rattle.std.specs.Prelude.{Ok, Err}
use Rattle.refusals.specs.declared.Refusal.{Refusal}
use Rattle.refusals.specs.declared.Refusal.TheVariants.{NotAllowed, NoRoom}
use Rattle.refusals.specs.Refusals.{number_of, place_of}
use Rattle.lists.specs.Cut.{lines_of}
use Rattle.lists.specs.Lines.{listed_of, ListRead}
use Rattle.lists.proofs.Whole.{list_count, done, counts_read}
use Rattle.lists.proofs.Near.{LineNumber, Ends, list_ends}
use Rattle.exports.specs.Exports.{Rated, no_rates, handed_rates, rates_of}

pub rates_done : (room : ℕ) (text : List ℕ) {o : Outcome} {n : ℕ} {es ds : List ℕ}
    → ListRead (listed_of false (lines_of text)) (replicate 120 0) (replicate 120 0) o es ds → o ≡ Ok n → handed_rates room (take n ds) (Ok n) ≡ rates_of room text
rates_done room text L d = ap₂ (handed_rates room) (counts_read false text L d) (sym (done false text L d))

pub rates_refused : (room : ℕ) (text : List ℕ) {o : Outcome} {r : Refusal} {es ds : List ℕ}
    → ListRead (listed_of false (lines_of text)) (replicate 120 0) (replicate 120 0) o es ds → o ≡ Err r → no_rates r ≡ rates_of room text
rates_refused room text L d = ap (handed_rates room (listed_of false (lines_of text)).counts) (sym (sym L.ends ∙ d))

-- the four ways in which reading back ends: a line's fault, no line, no room, or the values
pub rates_cases : (P : Rated → Type 0) (room : ℕ) (text : List ℕ)
    → ((r : Refusal) → LineNumber false (number_of r) → place_of r ≤ 122 → P (no_rates r)) → P (no_rates (NotAllowed 0))
    → ((n : ℕ) → n ≤ 120 → P (no_rates (NoRoom n))) → ((n : ℕ) (values : List ℕ) → n ≤ 120 → length values ≡ n → P (record { values = values; outcome = Ok n }))
    → P (rates_of room text)
rates_cases P room text fault empty short made = go (listed_of false (lines_of text)).outcome refl (list_ends false (lines_of text))
  where
    given : (n : ℕ) → n ≤ 120 → length (listed_of false (lines_of text)).counts ≡ n → (t u : Bool)
        → P (if t then no_rates (NotAllowed 0) else if u then no_rates (NoRoom n) else record { values = (listed_of false (lines_of text)).counts; outcome = Ok n })
    given n few e true u = empty
    given n few e false true = short n few
    given n few e false false = made n (listed_of false (lines_of text)).counts few e

    go : (o : Outcome) → (listed_of false (lines_of text)).outcome ≡ o → Ends false o → P (handed_rates room (listed_of false (lines_of text)).counts o)
    go (Ok n) e h = given n h (omega (arith, (list_count false (lines_of text) n e).counts)) (eqb n 0) (ltb room n)
    go (Err r) e h = fault r h.0 h.1
