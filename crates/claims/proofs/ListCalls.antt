-- The three calls on comma lists: which numbers they give, that a refusal writes nothing, and that none writes further on than its place.
use Prim.Native.Nat.{ℕ, ◌≤◌}
use mathlib.Core.Path.{◌≡◌, refl}
use mathlib.Core.Logic.{inl, inr}
use mathlib.Core.Bool.{Bool, true, false}
use mathlib.Core.List.{List, [], ◌∷◌}
use native.Mathlib.Omega.{arith}
use borrow.Author.Tests.{eqb-true, eqb-false}
use lib.Dec.{eqb}
use lib.ListN.{length}
use lib.Seq.{sets}
use Rattle.numbers.proofs.Clash.{clash}
use Rattle.packs.specs.Writing.{Written}
use Rattle.jobs.specs.Packs.{write_job}
use Rattle.refusals.specs.Refusals.{number_of}
use Rattle.lists.proofs.Near.{LineNumber}
use Rattle.imports.specs.declared.Given.{Given}
use Rattle.imports.specs.Imports.{words_of, import_of}
use Rattle.imports.proofs.Importing.{import_cases}
use Rattle.imports.proofs.Own.{Own, words_own}
use Rattle.exports.specs.Exports.{export_text, Rated, export_of, rates_of}
use Rattle.exports.proofs.Texts.{export_cases}
use Rattle.exports.proofs.Handed.{rates_cases}
use Rattle.bench.specs.Calls.{outcome_of}
use Rattle.claims.specs.BenchPromises.{Among}
use Rattle.claims.proofs.Unwritten.{Kept, write_kept}
use Rattle.claims.proofs.Beyond.{Within, room_within, write_within}
use Rattle.claims.proofs.CallNumbers.{room_number}
use Rattle.std.specs.Prelude.{Ok, Err}
use Rattle.packs.specs.Reading.{Outcome}
use Rattle.refusals.specs.Refusals.{number_of}

-- ---- numbers
abbrev ImportNumber : ℕ → Type 0
ImportNumber number = Among (2 ∷ 3 ∷ 4 ∷ 13 ∷ 16 ∷ 17 ∷ 18 ∷ 19 ∷ []) 0 number

two_to_four : (number : ℕ) → 2 ≤ number → number ≤ 4 → ImportNumber number
two_to_four number lo hi = go (eqb number 2) (eqb number 3) refl refl
  where
    go : (t u : Bool) → eqb number 2 ≡ t → eqb number 3 ≡ u → ImportNumber number
    go true u p q = inl (eqb-true number 2 p)
    go false true p q = inr (inl (eqb-true number 3 q))
    go false false p q =
        let not-two = eqb-false number 2 p in
        let not_three = eqb-false number 3 q in
        inr (inr (inl (omega (arith, not-two, not_three))))

from_writer : (o : Outcome) → Own o → ImportNumber (outcome_of o).number
from_writer (Ok n) h = inr (inr (inr (inr (inr (inr (inr (inr (omega arith))))))))
from_writer (Err r) h = two_to_four (number_of r) h.0 h.1

from_line : (number : ℕ) → LineNumber true number → ImportNumber number
from_line number (inl e) = inr (inr (inr (inr (inl e))))
from_line number (inr (inl e)) = inr (inr (inr (inr (inr (inl e)))))
from_line number (inr (inr e)) = inr (inr (inr (inr (inr (inr (inl e.0))))))

pub import_number : (g : Given) (room : ℕ) (text : List ℕ) → ImportNumber (outcome_of (import_of g room text).outcome).number
import_number g room text =
    import_cases (λ (w : Written). ImportNumber (outcome_of w.outcome).number) g room text (inr (inr (inr (inr (inr (inr (inr (inl refl))))))))
    (λ r l h. from_line (number_of r) l)
    (λ es ds e.
    let w = write_job (words_of g es ds) in
    room_number (2 ∷ 3 ∷ 4 ∷ 13 ∷ 16 ∷ 17 ∷ 18 ∷ 19 ∷ []) 0 room w.bytes w.outcome (inr (inr (inr (inl refl)))) (from_writer w.outcome (words_own g es ds e)))

pub export_number : (room first : ℕ) (rates : List ℕ) → Among (2 ∷ 13 ∷ []) 0 (outcome_of (export_of room first rates).outcome).number
export_number room first rates =
    export_cases (λ (w : Written). Among (2 ∷ 13 ∷ []) 0 (outcome_of w.outcome).number) room first rates (inl refl)
    (λ h. room_number (2 ∷ 13 ∷ []) 0 room (export_text first rates) (Ok (length (export_text first rates))) (inr (inl refl)) (inr (inr (omega arith))))

pub rates_number : (room : ℕ) (text : List ℕ) → Among (2 ∷ 13 ∷ 16 ∷ 17 ∷ []) 0 (outcome_of (rates_of room text).outcome).number
rates_number room text =
    rates_cases (λ (r : Rated). Among (2 ∷ 13 ∷ 16 ∷ 17 ∷ []) 0 (outcome_of r.outcome).number) room text (λ r l h. by_line (number_of r) l) (inl refl)
    (λ n h. inr (inl refl)) (λ n values h e. inr (inr (inr (inr (omega arith)))))
  where
    by_line : (number : ℕ) → LineNumber false number → Among (2 ∷ 13 ∷ 16 ∷ 17 ∷ []) 0 number
    by_line number (inl e) = inr (inr (inl e))
    by_line number (inr (inl e)) = inr (inr (inr (inl e)))
    by_line number (inr (inr e)) = let never = e.1 in clash (cc)

-- ---- refusals
pub import_kept : (g : Given) (room : ℕ) (text before : List ℕ) → Kept (outcome_of (import_of g room text).outcome) before (sets before 0 (import_of g room text).bytes)
import_kept g room text before =
    import_cases (λ (w : Written). Kept (outcome_of w.outcome) before (sets before 0 w.bytes)) g room text (λ n. (refl, refl, refl))
    (λ r l h n. (refl, refl, refl))
    (λ es ds e.
    let w = write_job (words_of g es ds) in
    write_kept room w before)

pub export_kept : (room first : ℕ) (rates before : List ℕ) → Kept (outcome_of (export_of room first rates).outcome) before (sets before 0 (export_of room first rates).bytes)
export_kept room first rates before =
    export_cases (λ (w : Written). Kept (outcome_of w.outcome) before (sets before 0 w.bytes)) room first rates (λ n. (refl, refl, refl))
    (λ h. write_kept room (record { bytes = export_text first rates; outcome = Ok (length (export_text first rates)) }) before)

pub rates_kept : (room : ℕ) (text before : List ℕ) → Kept (outcome_of (rates_of room text).outcome) before (sets before 0 (rates_of room text).values)
rates_kept room text before =
    rates_cases (λ (r : Rated). Kept (outcome_of r.outcome) before (sets before 0 r.values)) room text (λ r l h n. (refl, refl, refl))
    (λ n. (refl, refl, refl)) (λ k h n. (refl, refl, refl)) (λ k values h e n. absurd (n refl))

-- ---- outputs
pub import_within : (g : Given) (room : ℕ) (text : List ℕ) → Within (import_of g room text).outcome (import_of g room text).bytes
import_within g room text =
    import_cases (λ (w : Written). Within w.outcome w.bytes) g room text (omega arith) (λ r l h. omega arith)
    (λ es ds e. write_within room (words_of g es ds))

pub export_within : (room first : ℕ) (rates : List ℕ) → Within (export_of room first rates).outcome (export_of room first rates).bytes
export_within room first rates =
    export_cases (λ (w : Written). Within w.outcome w.bytes) room first rates (omega arith)
    (λ h. room_within room (export_text first rates) (Ok (length (export_text first rates))) (λ n e. let q : length (export_text first rates) ≡ n = cc in omega arith))

pub rates_within : (room : ℕ) (text : List ℕ) → Within (rates_of room text).outcome (rates_of room text).values
rates_within room text =
    rates_cases (λ (r : Rated). Within r.outcome r.values) room text (λ r l h. omega arith) (omega arith) (λ n h. omega arith)
    (λ n values h e. omega arith)
