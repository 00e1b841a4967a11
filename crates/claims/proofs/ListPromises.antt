-- The promises of comma lists at the calls over C, each a law whose type is its statement in specs/ListPromises.antt.
use Prim.Native.Nat.{ℕ, ◌+◌, ◌/◌, ◌≤◌}
use mathlib.Core.Path.{◌≡◌, refl, ap, ap₂, ◌∙◌}
use mathlib.Core.Logic.{inl, inr}
use mathlib.Core.Bool.{Bool, true, false}
use mathlib.Core.List.{List}
use native.Mathlib.Omega.{arith}
use borrow.Author.Tests.{ltb-false}
use lib.Dec.{ltb}
use lib.IntN.{ℤ}
use lib.ListN.{length, take, drop}
use lib.Seq.{sets, sets-eq, take_at}
use Rattle.std.specs.Prelude.{if◌then◌else◌}
use Rattle.fields.specs.declared.Field.TheVariants.{Society}
use Rattle.packs.specs.Reading.{Outcome, Ran}
use Rattle.packs.specs.Writing.{Written, refused, in_room, roomed}
use Rattle.packs.proofs.Packing.{length_written}
use Rattle.jobs.specs.Packs.{read_job, write_job}
use Rattle.refusals.specs.Refusals.{number_of}
use Rattle.lists.proofs.Near.{LineNumber}
use Rattle.imports.specs.declared.Given.{Given}
use Rattle.imports.specs.Imports.{words_of, import_of}
use Rattle.imports.proofs.Importing.{import_cases}
use Rattle.imports.proofs.Own.{Own, words_own}
use Rattle.imports.proofs.Exactly.{imported_exactly, imports_read_back}
use Rattle.exports.specs.Exports.{export_text, exportable, export_of, Rated, rates_of}
use Rattle.exports.proofs.Returned.{exports_read_back}
use Rattle.bench.specs.Calls.{outcome_of}
use Rattle.bench.proofs.Listed.{import_small, export_small}
use Rattle.claims.specs.ListPromises.{ListsImported, TablesReturned}
use Rattle.claims.proofs.BenchPromises.{told_by, place_by}
use Rattle.std.specs.Prelude.{Ok, Err}
use Rattle.refusals.specs.declared.Refusal.TheVariants.{NotAllowed, NoRoom}

-- bytes that were written whole: how many, and that there was room
record Whole (room : ℕ) (w : Written) : Type 0 where
  n : ℕ
  done : w.outcome ≡ Ok n
  long : length w.bytes ≡ n
  fits : n ≤ room

whole_room : (room : ℕ) (bytes : List ℕ) (n : ℕ) → length bytes ≡ n → (outcome_of (in_room room bytes (Ok n)).outcome).number ≡ 0 → Whole room (in_room room bytes (Ok n))
whole_room room bytes n long = go (ltb room n) refl
  where
    go : (t : Bool) → ltb room n ≡ t → (outcome_of (if t then refused (NoRoom n) else record { bytes = bytes; outcome = Ok n }).outcome).number ≡ 0
        → Whole room (if t then refused (NoRoom n) else record { bytes = bytes; outcome = Ok n })
    go true e z = absurd (omega (arith, z))
    go false e z = record { n = n; done = refl; long = long; fits = ltb-false room n e }

-- they stand in front of the output
pub front : (bytes out : List ℕ) {n : ℕ} → length bytes ≡ n → n ≤ length out → take n (sets out 0 bytes) ≡ bytes
front bytes out {n} e h = ap (take n) (sets-eq bytes out 0 (omega (arith, e, h))) ∙ take_at bytes (drop (0 + length bytes) out) n e

-- ---- the import

import_whole : (g : Given) (room : ℕ) (text : List ℕ) → (outcome_of (import_of g room text).outcome).number ≡ 0 → Whole room (import_of g room text)
import_whole g room text =
    import_cases (λ (w : Written). (outcome_of w.outcome).number ≡ 0 → Whole room w) g room text (λ z. absurd (omega (arith, z)))
    (λ r l h z. never (number_of r) l z)
    (λ es ds e. made (words_of g es ds) (write_job (words_of g es ds)).outcome refl (words_own g es ds e))
  where
    never : (number : ℕ) → LineNumber true number → {X : Type 0} → number ≡ 0 → X
    never number (inl e) z = absurd (omega (arith, e, z))
    never number (inr (inl e)) z = absurd (omega (arith, e, z))
    never number (inr (inr e)) z = absurd (omega (arith, e.0, z))

    made : (ws : List ℤ) (o : Outcome) → (write_job ws).outcome ≡ o → Own o → (outcome_of (roomed room (write_job ws)).outcome).number ≡ 0 → Whole room (roomed room (write_job ws))
    made ws (Ok n) e h =
        rw (ap (in_room room (write_job ws).bytes) e) (whole_room room (write_job ws).bytes n (omega (arith, length_written ws Society 0 n e)))
    made ws (Err r) e h = rw (ap (in_room room (write_job ws).bytes) e) (λ z. absurd (omega (arith, h.0, z)))

pub lists_imported : ListsImported
lists_imported g text out answer r a x says z =
    let small = import_small g (length out) text in
    let told = told_by small says z in
    let whole = import_whole g (length out) text told.0 in
    let at : r / 32 ≡ whole.n = place_by small says z ∙ ap (λ (o : Outcome). (outcome_of o).place) whole.done in
    let pack : take (r / 32) x ≡ (import_of g (length out) text).bytes = ap₂ take at told.2 ∙ front (import_of g (length out) text).bytes out whole.long whole.fits in
    let parts = (imported_exactly.only g (length out) text whole.n whole.done).1 in
    let back = imports_read_back g (length out) text parts.0 parts.1.0 whole.n parts.1.1.0 whole.done in
    record {
      exposures = parts.0;
      deaths = parts.1.0;
      list = parts.1.1.0;
      allows = parts.1.1.1;
      reads = (length (words_of g parts.0 parts.1.0), ap (λ (l : List ℕ). (read_job l).outcome) pack ∙ ap (λ (q : Ran). q.outcome) back.0);
      job = rw (ap (λ (l : List ℕ). (read_job l).words) pack ∙ ap (λ (q : Ran). q.words) back.0) back.1;
    }

-- ---- the export

record Out (room first : ℕ) (rates : List ℕ) : Type 0 where
  able : exportable first rates ≡ true
  whole : Whole room (export_of room first rates)
  text : (export_of room first rates).bytes ≡ export_text first rates

export_whole : (room first : ℕ) (rates : List ℕ) → (outcome_of (export_of room first rates).outcome).number ≡ 0 → Out room first rates
export_whole room first rates = go (exportable first rates) refl
  where
    go : (t : Bool) → exportable first rates ≡ t
        → (outcome_of (if t then in_room room (export_text first rates) (Ok (length (export_text first rates))) else refused (NotAllowed 0)).outcome).number ≡ 0
        → Out room first rates
    go true e z = fits (ltb room (length (export_text first rates))) refl z
      where
        fits : (u : Bool) → ltb room (length (export_text first rates)) ≡ u
            → (outcome_of (if u then refused (NoRoom (length (export_text first rates))) else record { bytes = export_text first rates; outcome = Ok (length (export_text first rates)) }).outcome).number ≡ 0
            → Out room first rates
        fits true q z = absurd (omega (arith, z))
        fits false q z =
            let is : export_of room first rates ≡ record { bytes = export_text first rates; outcome = Ok (length (export_text first rates)) } = rw (e, q) in
            record {
              able = e;
              whole = rw is (record { n = length (export_text first rates); done = refl; long = refl; fits = ltb-false room (length (export_text first rates)) q });
              text = ap (λ (w : Written). w.bytes) is;
            }
    go false e z = absurd (omega (arith, z))

pub tables_returned : TablesReturned
tables_returned rates first out answer r a x says z again other s b y back four room =
    let small = export_small (length out) first rates in
    let told = told_by small says z in
    let E = export_whole (length out) first rates told.0 in
    let at : r / 32 ≡ E.whole.n = place_by small says z ∙ ap (λ (o : Outcome). (outcome_of o).place) E.whole.done in
    let text : take (r / 32) x ≡ export_text first rates = ap₂ take at told.2 ∙ front (export_of (length out) first rates).bytes out E.whole.long E.whole.fits ∙ E.text in
    let same : rates_of (length again) (take (r / 32) x) ≡ record { values = rates; outcome = Ok (length rates) } =
    ap (rates_of (length again)) text ∙ exports_read_back (length again) first rates E.able room in (
      back.returns ∙ rw (four, ap (λ (q : Rated). q.outcome) same) (omega arith),
      ap (take (length rates)) (back.leaves ∙ rw (four, ap (λ (q : Rated). q.values) same)) ∙ front rates again refl room,
    )
