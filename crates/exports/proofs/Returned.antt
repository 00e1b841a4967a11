-- An export read back gives the same values, and what was read, written back, gives the same text up to the last line's end.
use Prim.Native.Nat.{ℕ, suc, ◌+◌, ◌≤◌}
use mathlib.Core.Path.{◌≡◌, refl, sym, ap, ap₂, ◌∙◌}
use mathlib.Core.Logic.{◌⊎◌, inl, inr}
use mathlib.Core.Bool.{Bool, true, false}
use mathlib.Core.List.{List, [], ◌∷◌, ◌++◌, append_assoc}
use native.Mathlib.Omega.{arith}
use borrow.Author.Tests.{leb-true, ne_eqb, eqb-false, le-ltb, ltb-false}
use lib.Dec.{eqb, ltb, leb}
use lib.ListN.{length}
use Rattle.std.specs.Prelude.{if◌then◌else◌}
use Rattle.numbers.proofs.Clash.{clash}
use Rattle.packs.specs.Reading.{Outcome}
use Rattle.std.specs.Prelude.{Ok, Err}
use Rattle.refusals.specs.declared.Refusal.TheVariants.{NotAllowed, NoRoom}
use Rattle.decimals.specs.Decimal.{decimal}
use Rattle.decimals.specs.Whole.{largest}
use Rattle.decimals.proofs.Digits.{decimals_read_back}
use Rattle.numbers.proofs.Both.{both}
use Rattle.lists.specs.Cut.{line_end, lines_of}
use Rattle.lists.specs.Lines.{rates_header, listed_of}
use Rattle.exports.specs.Exports.{export_line, export_lines, export_text, all_upto, Rated, no_rates, handed_rates, rates_of}
use Rattle.lists.specs.Promises.{joined, line_text, Listing, none, line, ListText}
use Rattle.exports.specs.Promises.{ExportsReadBack, ExportsWrittenBack, ReadBackExactly}
use Rattle.lists.proofs.Cuts.{lines_none}
use Rattle.exports.proofs.Texts.{lines_cons, lines_nil, upto_cons, out_of}
use Rattle.lists.proofs.Joins.{joined_nil, joined_cons, Plain, plain_line, plain_digits, plain_append, plain_one, lines_joined}
use Rattle.lists.proofs.Listings.{same_length, read_exactly}

-- ---- the lines of an export
rows : (first : ℕ) → List ℕ → List (List ℕ)
rows first [] = []
rows first (rate ∷ rates) = line_text false first 0 rate ∷ rows (first + 1) rates

none_of : List ℕ → List ℕ
none_of [] = []
none_of (rate ∷ rates) = 0 ∷ none_of rates

none_length : (rates : List ℕ) → length (none_of rates) ≡ length rates
unfolding none_of
none_length [] = refl
none_length (rate ∷ rates) = ap suc (none_length rates)

-- a line is the row and its end
line_parts : (age rate : ℕ) (rest : List ℕ) → export_line age rate ++ rest ≡ line_text false age 0 rate ++ (line_end ++ rest)
line_parts age rate rest =
    append_assoc (decimal age) ((44 ∷ []) ++ (decimal rate ++ line_end)) rest
    ∙ ap (λ (l : List ℕ). decimal age ++ (44 ∷ l)) (append_assoc (decimal rate) line_end rest)
    ∙ sym (append_assoc (decimal age) (44 ∷ decimal rate) (line_end ++ rest))

plain_row : (age rate : ℕ) → age ≤ largest → rate ≤ largest → Plain (line_text false age 0 rate)
plain_row age rate a r =
    plain_append (decimal age) (44 ∷ decimal rate) (plain_digits (decimal age) (decimals_read_back age (omega arith)).0)
    (plain_one 44 (decimal rate) (λ e. omega arith) (plain_digits (decimal rate) (decimals_read_back rate (omega arith)).0))

record Fine (first : ℕ) (rates : List ℕ) : Type 0 where
  ages : first + length rates ≤ largest + 1
  small : all_upto largest rates ≡ true

fine_first : {first rate : ℕ} {rates : List ℕ} → Fine first (rate ∷ rates) → (first ≤ largest) × ((rate ≤ largest) × Fine (first + 1) rates)
fine_first {first} {rate} {rates} f =
    let tests = both (leb rate largest) (all_upto largest rates) (sym (upto_cons largest rate rates) ∙ f.small) in
    (omega (arith, f.ages), (leb-true rate largest tests.0, record { ages = omega (arith, f.ages); small = tests.1 }))

export_lines_lem : (first : ℕ) (rates : List ℕ) → Fine first rates → lines_of (export_lines first rates) ≡ rows first rates
unfolding rows
export_lines_lem first [] f = ap lines_of (lines_nil first) ∙ lines_none
export_lines_lem first (rate ∷ rates) f =
    let small = fine_first f in
    ap lines_of (lines_cons first rate rates ∙ line_parts first rate (export_lines (first + 1) rates))
    ∙ plain_line (line_text false first 0 rate) (export_lines (first + 1) rates) (plain_row first rate small.0 small.1.0)
    ∙ ap (λ (ls : List (List ℕ)). line_text false first 0 rate ∷ ls) (export_lines_lem (first + 1) rates small.1.1)

not_claims : false ≡ true → {A : Type 0} → A
not_claims e = clash (cc)

export_listing : (first : ℕ) (rates : List ℕ) → Fine first rates → Listing false first (rows first rates) (none_of rates) rates
unfolding rows none_of
export_listing first [] f = none
export_listing first (rate ∷ rates) f =
    let small = fine_first f in
    line {exposure = 0} (record { age_fits = small.0; exposure_fits = omega arith; count_fits = small.1.0; none = λ e. refl }) (λ e. not_claims e)
    (export_listing (first + 1) rates small.1.1)

plain_header : Plain rates_header
unfolding Plain
plain_header =
    ((λ e. omega arith), ((λ e. omega arith), ((λ e. omega arith), ((λ e. omega arith), ((λ e. omega arith), ((λ e. omega arith), ((λ e. omega arith), ((λ e. omega arith), tt))))))))

text_lines : (first : ℕ) (rates : List ℕ) → Fine first rates → lines_of (export_text first rates) ≡ rates_header ∷ rows first rates
text_lines first rates f =
    ap lines_of (append_assoc rates_header line_end (export_lines first rates))
    ∙ plain_line rates_header (export_lines first rates) plain_header
    ∙ ap (λ (ls : List (List ℕ)). rates_header ∷ ls) (export_lines_lem first rates f)

handed : (room : ℕ) (rates : List ℕ) → 1 ≤ length rates → length rates ≤ room → (n : ℕ) → n ≡ length rates
    → handed_rates room rates (Ok n) ≡ record { values = rates; outcome = Ok (length rates) }
handed room rates some h n e =
    ap (λ (k : ℕ). handed_rates room rates (Ok k)) e
    ∙ rw (ne_eqb (length rates) 0 (λ z. omega arith), le-ltb room (length rates) h)

read : (room : ℕ) (text exposures rates : List ℕ) → ListText false text exposures rates → 1 ≤ length rates → length rates ≤ room
    → rates_of room text ≡ record { values = rates; outcome = Ok (length rates) }
read room text exposures rates L some h =
    let r = read_exactly.read false text exposures rates L in
    ap₂ (handed_rates room) r.1 r.2 ∙ handed room rates some h (length exposures) (same_length L.listing)

pub exports_read_back : ExportsReadBack
exports_read_back room first rates e h =
    let out = out_of first rates e in
    let f : Fine first rates = record { ages = omega (arith, out.old, out.some); small = out.small } in
    read room (export_text first rates) (none_of rates) rates (record {
      first = first;
      lines = rows first rates;
      headed = text_lines first rates f;
      few = omega (arith, out.few, none_length rates);
      listing = export_listing first rates f;
    }) out.some h

-- ---- what was read, written back
written_lines : {first : ℕ} {lines : List (List ℕ)} {exposures counts : List ℕ} → Listing false first lines exposures counts → export_lines first counts ≡ joined lines
written_lines {first} none = lines_nil first ∙ sym joined_nil
written_lines {first} (line {count = count} {lines = lines} {counts = counts} r below L) =
    lines_cons first count counts
    ∙ line_parts first count (export_lines (first + 1) counts)
    ∙ ap (λ (l : List ℕ). line_text false first 0 count ++ (line_end ++ l)) (written_lines L)
    ∙ sym (joined_cons (line_text false first 0 count) lines)

written_text : (text : List ℕ) {exposures counts : List ℕ} (W : ListText false text exposures counts) → export_text W.first counts ≡ joined (lines_of text)
written_text text {counts = counts} W =
    append_assoc rates_header line_end (export_lines W.first counts)
    ∙ ap (λ (l : List ℕ). rates_header ++ (line_end ++ l)) (written_lines W.listing)
    ∙ sym (joined_cons rates_header W.lines)
    ∙ ap joined (sym W.headed)

-- the values handed out, or a refusal
abbrev given : (n : ℕ) (values : List ℕ) → (empty short : Bool) → Rated
given n values empty short = if empty then no_rates (NotAllowed 0) else if short then no_rates (NoRoom n) else record { values = values; outcome = Ok n }

-- where reading is done, the values are those of the lines, and there is at least one and room for all
record Handed (room : ℕ) (values : List ℕ) (n : ℕ) (o : Outcome) : Type 0 where
  done : o ≡ Ok n
  same : (handed_rates room values o).values ≡ values
  some : 1 ≤ n
  fits : n ≤ room

handed_done : (room : ℕ) (values : List ℕ) (o : Outcome) (n : ℕ) → (handed_rates room values o).outcome ≡ Ok n → Handed room values n o
handed_done room values (Err r) n e = clash (cc)
handed_done room values (Ok m) n e = go (eqb m 0) (ltb room m) refl refl e
  where
    go : (t u : Bool) → eqb m 0 ≡ t → ltb room m ≡ u → (given m values t u).outcome ≡ Ok n → Handed room values n (Ok m)
    go true u p q e = clash (cc)
    go false true p q e = clash (cc)
    go false false p q e =
        let k : m ≡ n = cc in
        record {
          done = e;
          same = rw (p, q);
          some = omega (arith, k, eqb-false m 0 p);
          fits = omega (arith, k, ltb-false room m q);
        }

up_to_end : {a b text : List ℕ} → a ≡ b → (b ≡ text) ⊎ (b ≡ text ++ line_end) → (a ≡ text) ⊎ (a ≡ text ++ line_end)
up_to_end e (inl q) = inl (e ∙ q)
up_to_end e (inr q) = inr (e ∙ q)

module _ (room : ℕ) (text : List ℕ) (n : ℕ) (e : (rates_of room text).outcome ≡ Ok n) where
  handed_out_lem : Handed room (listed_of false (lines_of text)).counts n (listed_of false (lines_of text)).outcome
  handed_out_lem = handed_done room (listed_of false (lines_of text)).counts (listed_of false (lines_of text)).outcome n e

  list : ListText false text (listed_of false (lines_of text)).exposures (listed_of false (lines_of text)).counts
  list = read_exactly.only false text n handed_out_lem.done

  written_back : (first : ℕ) × ((export_text first (rates_of room text).values ≡ text) ⊎ (export_text first (rates_of room text).values ≡ text ++ line_end))
  written_back = (list.first, up_to_end (ap (export_text list.first) handed_out_lem.same ∙ written_text text list) (lines_joined text))

  only : ((exposures : List ℕ) × ListText false text exposures (rates_of room text).values) × (1 ≤ n) × (n ≤ room)
  only = (
    ((listed_of false (lines_of text)).exposures, rw handed_out_lem.same list),
    handed_out_lem.some,
    handed_out_lem.fits,
  )

pub exports_written_back : ExportsWrittenBack
exports_written_back = written_back

pub read_back_exactly : ReadBackExactly
read_back_exactly =
    record {
      read = read;
      only = only;
      faulty = λ room text r e. ap (handed_rates room (listed_of false (lines_of text)).counts) e;
    }
