-- A list is imported exactly if it is one and the pack's own tests pass, and an imported pack reads back as the job of its list.
use Prim.Native.Nat.{ℕ, zero, suc, ◌≤◌, ◌<◌}
use mathlib.Core.Path.{◌≡◌, refl, sym, ap, ap₂, subst, ◌∙◌}
use mathlib.Core.Bool.{Bool, true, false}
use mathlib.Core.List.{List}
use native.Mathlib.Omega.{arith}
use lib.Dec.{ltb}
use lib.IntN.{ℤ}
use lib.ListN.{length, get_or}
use Rattle.std.specs.Prelude.{if◌then◌else◌}
use Rattle.numbers.proofs.Clash.{clash}
use Rattle.packs.specs.Reading.{Outcome}
use Rattle.std.specs.Prelude.{Ok, Err}
use Rattle.refusals.specs.declared.Refusal.{Refusal}
use Rattle.refusals.specs.declared.Refusal.TheVariants.{NoRoom}
use Rattle.packs.specs.Reading.{Ran}
use Rattle.packs.specs.Writing.{Written, refused, in_room, roomed}
use Rattle.jobs.specs.Words.{job_of}
use Rattle.jobs.specs.Allowed.{Allowed, Laid}
use Rattle.jobs.specs.Packs.{read_job, write_job}
use Rattle.jobs.proofs.Readings.{read_jobs_allowed, read_jobs_laid}
use Rattle.jobs.proofs.Trips.{allowed_jobs_written, jobs_read_back}
use Rattle.lists.specs.Cut.{lines_of}
use Rattle.lists.specs.Lines.{listed_of}
use Rattle.lists.specs.Promises.{Listing, none, line, ListText}
use Rattle.lists.proofs.Listings.{same_length, read_exactly}
use Rattle.imports.specs.declared.Given.{Given}
use Rattle.imports.specs.Imports.{words_of, import_of}
use Rattle.imports.specs.Promises.{PackAllows, ImportedExactly, ImportsReadBack}
use Rattle.imports.proofs.Importing.{divisor_none, importing}
use Rattle.imports.proofs.Fit.{words_fit}
use Rattle.imports.proofs.Allows.{allows_of, job_of_list, laid, allowed}

refused_done : {r : Refusal} {n : ℕ} → Err r ≡ Ok n → ⊥
refused_done e = clash (cc)

below : {age : ℕ} {lines : List (List ℕ)} {es ds : List ℕ} → Listing true age lines es ds → (i : ℕ) → i < length es → get_or ds i 0 ≤ get_or es i 0
below none i h = absurd (omega arith)
below (line r d L) zero h = d refl
below (line r d L) (suc i) h = below L i (omega arith)

-- ---- what is made of a list

module _ (g : Given) (room : ℕ) (text : List ℕ) (some : g.divisor ≡ 0 → ⊥) where
  written : (es ds : List ℕ) → ListText true text es ds → import_of g room text ≡ roomed room (write_job (words_of g es ds))
  written es ds C =
      let read = read_exactly.read true text es ds C in
      sym (importing g room text some read.2)
      ∙ ap₂ (λ (xs ys : List ℕ). roomed room (write_job (words_of g xs ys))) read.0 read.1

  done : (es ds : List ℕ) → ListText true text es ds → PackAllows g es
      → (n : ℕ) × (import_of g room text ≡ in_room room (write_job (words_of g es ds)).bytes (Ok n))
  done es ds C P =
      let s = same_length C.listing in
      let wrote = allowed_jobs_written (words_of g es ds) (laid g es ds s P) (allowed g es ds s P C.few (below C.listing) (omega (arith, some))) in
      (wrote.0, written es ds C ∙ ap (in_room room (write_job (words_of g es ds)).bytes) wrote.1)

-- what is written where there is room is all that the writer writes
roomed_done : (room : ℕ) (w : Written) (n : ℕ) → (roomed room w).outcome ≡ Ok n → (w.outcome ≡ Ok n) × ((roomed room w).bytes ≡ w.bytes)
roomed_done room w n e = go w.outcome refl e
  where
    fits : (m : ℕ) → w.outcome ≡ Ok m → (t : Bool) → ltb room m ≡ t
        → (if t then refused (NoRoom m) else record { bytes = w.bytes; outcome = Ok m }).outcome ≡ Ok n
        → (w.outcome ≡ Ok n) × ((if t then refused (NoRoom m) else record { bytes = w.bytes; outcome = Ok m }).bytes ≡ w.bytes)
    fits m p true q e = clash (cc)
    fits m p false q e = (p ∙ e, refl)

    go : (o : Outcome) → w.outcome ≡ o → (in_room room w.bytes o).outcome ≡ Ok n → (w.outcome ≡ Ok n) × ((in_room room w.bytes w.outcome).bytes ≡ w.bytes)
    go (Ok m) p e = let f = fits m p (ltb room m) refl e in (f.0, ap (λ (o : Outcome). (in_room room w.bytes o).bytes) p ∙ f.1)
    go (Err r) p e = clash (cc)

-- ---- what an import that is done was made of

module _ (g : Given) (room : ℕ) (text : List ℕ) (n : ℕ) (e : (import_of g room text).outcome ≡ Ok n) where
  divided : g.divisor ≡ 0 → ⊥
  divided z = refused_done (ap (λ (w : Written). w.outcome) (divisor_none g room text z) ∙ e)

  module _ (es ds : List ℕ) (C : ListText true text es ds) where
    same : import_of g room text ≡ roomed room (write_job (words_of g es ds))
    same = written g room text divided es ds C

    wrote : ((write_job (words_of g es ds)).outcome ≡ Ok n) × ((roomed room (write_job (words_of g es ds))).bytes ≡ (write_job (words_of g es ds)).bytes)
    wrote = roomed_done room (write_job (words_of g es ds)) n (sym (ap (λ (w : Written). w.outcome) same) ∙ e)

    back : read_job (write_job (words_of g es ds)).bytes ≡ record { words = words_of g es ds; outcome = Ok (length (words_of g es ds)) }
    back = jobs_read_back (words_of g es ds) (words_fit g text es ds C) n wrote.0

    words_laid : Laid (words_of g es ds)
    words_laid = subst Laid (ap (λ (r : Ran). r.words) back) (read_jobs_laid (write_job (words_of g es ds)).bytes (length (words_of g es ds)) (ap (λ (r : Ran). r.outcome) back))

    words_allowed : Allowed (job_of (words_of g es ds))
    words_allowed =
        subst (λ (ws : List ℤ). Allowed (job_of ws)) (ap (λ (r : Ran). r.words) back)
        (read_jobs_allowed (write_job (words_of g es ds)).bytes (length (words_of g es ds)) (ap (λ (r : Ran). r.outcome) back))

    passed : PackAllows g es
    passed = allows_of g es ds (same_length C.listing) words_laid words_allowed

    read_back : read_job (import_of g room text).bytes ≡ record { words = words_of g es ds; outcome = Ok (length (words_of g es ds)) }
    read_back = ap {B = Ran} (λ (w : Written). read_job w.bytes) same ∙ ap read_job wrote.1 ∙ back

  only : (g.divisor ≡ 0 → ⊥) × ((es : List ℕ) × ((ds : List ℕ) × (ListText true text es ds × PackAllows g es)))
  only = (divided, go (listed_of true (lines_of text)).outcome refl)
    where
      go : (o : Outcome) → (listed_of true (lines_of text)).outcome ≡ o → (es : List ℕ) × ((ds : List ℕ) × (ListText true text es ds × PackAllows g es))
      go (Ok m) q =
          let C = read_exactly.only true text m q in
          let es = (listed_of true (lines_of text)).exposures in
          let ds = (listed_of true (lines_of text)).counts in
          (es, (ds, (C, passed es ds C)))
      go (Err r) q = absurd (refused_done (ap (λ (w : Written). w.outcome) (importing g room text divided q) ∙ e))

pub imported_exactly : ImportedExactly
imported_exactly =
    record {
      done = λ g room text es ds some C P. done g room text some es ds C P;
      only = only;
      divisor = λ g room text z. sym (divisor_none g room text z);
      faulty = λ g room text r some e. sym (importing g room text some e);
      written = λ g room text es ds some C. written g room text some es ds C;
    }

pub imports_read_back : ImportsReadBack
imports_read_back g room text es ds n C e =
    (read_back g room text n e es ds C, job_of_list g es ds (same_length C.listing) (passed g room text n e es ds C))
