-- A whole list: how many lines it has, and that the scratch it is read into holds them.
use Prim.Native.Nat.{ℕ, ◌+◌, ◌≤◌}
use mathlib.Core.Path.{◌≡◌, refl, sym, ap, ◌∙◌}
use mathlib.Core.Bool.{Bool, true, false}
use mathlib.Core.List.{List, [], ◌∷◌}
use native.Mathlib.Omega.{arith}
use lib.ListN.{length, take, drop, replicate, length-replicate}
use lib.Seq.{sets, sets-eq, length-sets, take_at}
use Rattle.std.specs.Prelude.{Result, Ok, Err, if◌then◌else◌}
use Rattle.numbers.proofs.Clash.{clash}
use Rattle.refusals.specs.declared.Refusal.{Refusal}
use Rattle.refusals.specs.declared.Refusal.TheVariants.{BadLine}
use Rattle.lists.specs.declared.lines.Entry.{Entry}
use Rattle.lists.specs.declared.lines.Fault.{Fault}
use Rattle.lists.specs.Cut.{lines_of, same_bytes}
use Rattle.lists.specs.Lines.{most_lines, header_of, line_of, refusal_at, Listed, ends_with, on_line, listed_from, listed_of, ListRead}
use Rattle.lists.proofs.Tests.{line_good}
use Rattle.lists.proofs.Walks.{listed_step, listed_end}

-- ---- the count of lines
pub record Counted (k : ℕ) (listed : Listed) (n : ℕ) : Type 0 where
  pub exposures : n ≡ k + length listed.exposures
  pub counts : n ≡ k + length listed.counts
  pub few : n ≤ most_lines

counted_same : {k n : ℕ} {a b : Listed} → a ≡ b → Counted k b n → Counted k a n
counted_same {k} {n} e c =
    record {
      exposures = c.exposures ∙ ap (λ (x : Listed). k + length x.exposures) (sym e);
      counts = c.counts ∙ ap (λ (x : Listed). k + length x.counts) (sym e);
      few = c.few;
    }

pub listed_count : (claims : Bool) (k before : ℕ) (lines : List (List ℕ)) (n : ℕ) → k ≤ most_lines → (listed_from claims k before lines).outcome ≡ Ok n
    → Counted k (listed_from claims k before lines) n
listed_count claims k before [] n h e =
    let q : k ≡ n = cc (ap (λ (x : Listed). x.outcome) (listed_end claims k before)) in
    counted_same (listed_end claims k before) (record { exposures = omega arith; counts = omega arith; few = omega arith })
listed_count claims k before (line ∷ lines) n h e = go (line_of claims k before line) refl (λ age m. listed_count claims (k + 1) age lines n m)
  where
    go : (l : Result Entry Fault) → line_of claims k before line ≡ l
        → ((age : ℕ) → k + 1 ≤ most_lines → (listed_from claims (k + 1) age lines).outcome ≡ Ok n → Counted (k + 1) (listed_from claims (k + 1) age lines) n)
        → Counted k (listed_from claims k before (line ∷ lines)) n
    go (Ok entry) q ih =
        let step : listed_from claims k before (line ∷ lines) ≡ on_line (Ok entry) (k + 2) (λ a. listed_from claims (k + 1) a lines) =
        listed_step claims k before line lines ∙ ap (λ (l : Result Entry Fault). on_line l (k + 2) (λ a. listed_from claims (k + 1) a lines)) q in
        let c = ih entry.age (omega (arith, (line_good claims k before line entry.age entry.exposure entry.count q).few)) (sym (ap (λ (x : Listed). x.outcome) step) ∙ e) in
        counted_same step (record { exposures = omega (arith, c.exposures); counts = omega (arith, c.counts); few = c.few })
    go (Err fault) q ih =
        let step : listed_from claims k before (line ∷ lines) ≡ ends_with (Err (refusal_at fault (k + 2))) =
        listed_step claims k before line lines ∙ ap (λ (l : Result Entry Fault). on_line l (k + 2) (λ a. listed_from claims (k + 1) a lines)) q in
        let stops : Err (refusal_at fault (k + 2)) ≡ Ok n = sym (ap (λ (x : Listed). x.outcome) step) ∙ e in
        clash (cc)

pub list_count : (claims : Bool) (lines : List (List ℕ)) (n : ℕ) → (listed_of claims lines).outcome ≡ Ok n → Counted 0 (listed_of claims lines) n
list_count claims [] n e = clash (cc)
list_count claims (header ∷ lines) n e = go (same_bytes header (header_of claims)) e
  where
    go : (t : Bool) → (if t then listed_from claims 0 0 lines else ends_with (Err (BadLine 1))).outcome ≡ Ok n
        → Counted 0 (if t then listed_from claims 0 0 lines else ends_with (Err (BadLine 1))) n
    go true e = listed_count claims 0 0 lines n (omega arith) e
    go false e = clash (cc)

-- ---- scratch of 120 words
kept_part : (values : List ℕ) {n : ℕ} {stored : List ℕ} → length values ≡ n → n ≤ 120 → stored ≡ sets (replicate 120 0) 0 values → take n stored ≡ values
kept_part values {n} e few s =
    ap (take n) (s ∙ sets-eq values (replicate 120 0) 0 (omega (arith, length-replicate {A = ℕ} 120 0))) ∙ take_at values (drop (0 + length values) (replicate 120 0)) n e

kept_long : (values stored : List ℕ) → stored ≡ sets (replicate 120 0) 0 values → length stored ≡ 120
kept_long values stored s = ap length s ∙ length-sets (replicate 120 0) 0 values ∙ length-replicate {A = ℕ} 120 0

-- the lists that were read stand in the scratch
module _ (claims : Bool) (text : List ℕ) {o : Result ℕ Refusal} {n : ℕ} {es ds : List ℕ}
    (L : ListRead (listed_of claims (lines_of text)) (replicate 120 0) (replicate 120 0) o es ds) (d : o ≡ Ok n) where
  listed : Listed
  listed = listed_of claims (lines_of text)

  pub done : (listed_of claims (lines_of text)).outcome ≡ Ok n
  done = sym L.ends ∙ d

  count : Counted 0 (listed_of claims (lines_of text)) n
  count = list_count claims (lines_of text) n done

  pub few_lines : n ≤ 120
  few_lines = count.few

  pub exposures_room : n ≤ length es
  exposures_room = omega (arith, count.few, kept_long (listed_of claims (lines_of text)).exposures es L.kept)

  pub counts_room : n ≤ length ds
  counts_room = omega (arith, count.few, kept_long (listed_of claims (lines_of text)).counts ds L.counted)

  pub exposures_read : take n es ≡ (listed_of claims (lines_of text)).exposures
  exposures_read = kept_part (listed_of claims (lines_of text)).exposures (omega (arith, count.exposures)) count.few L.kept

  pub counts_read : take n ds ≡ (listed_of claims (lines_of text)).counts
  counts_read = kept_part (listed_of claims (lines_of text)).counts (omega (arith, count.counts)) count.few L.counted
