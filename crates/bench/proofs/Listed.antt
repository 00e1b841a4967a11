-- The same for comma lists.
use Rattle.std.proofs.Common.{ℕ, ◌≤◌, Bool, true, false, List, length, inl, inr, arith}
use Rattle.packs.specs.Writing.{Written}
use Rattle.lists.proofs.Near.{LineNumber}
use Rattle.imports.specs.declared.Given.{Given}
use Rattle.imports.specs.Imports.{words_of, import_of}
use Rattle.imports.proofs.Importing.{import_cases}
use Rattle.exports.specs.Exports.{export_text, Rated, export_of, rates_of}
use Rattle.exports.proofs.Texts.{export_cases}
use Rattle.exports.proofs.Handed.{rates_cases}
use Rattle.bench.specs.Calls.{outcome_of}
use Rattle.bench.proofs.Small.{Small, refused_small}
use Rattle.bench.proofs.Outcomes.{in_room_small, write_small}
use Rattle.std.specs.Prelude.{Ok, Err}
use Rattle.refusals.specs.declared.Refusal.{Refusal}
use Rattle.refusals.specs.Refusals.{number_of, place_of}

line_small : (claims : Bool) (r : Refusal) → LineNumber claims (number_of r) → place_of r ≤ 122 → Small (outcome_of (Err r))
line_small claims r e h = refused_small r (omega arith)

pub import_small : (g : Given) (room : ℕ) (text : List ℕ) → Small (outcome_of (import_of g room text).outcome)
import_small g room text =
    import_cases (λ (w : Written). Small (outcome_of w.outcome)) g room text (record { number = omega arith; place = omega arith }) (line_small true)
    (λ es ds e. write_small room (words_of g es ds))

pub export_small : (room first : ℕ) (rates : List ℕ) → Small (outcome_of (export_of room first rates).outcome)
export_small room first rates =
    export_cases (λ (w : Written). Small (outcome_of w.outcome)) room first rates (record { number = omega arith; place = omega arith })
    (λ h. in_room_small room (export_text first rates) (Ok (length (export_text first rates))) (record { number = omega arith; place = omega arith }))

pub rates_small : (room : ℕ) (text : List ℕ) → Small (outcome_of (rates_of room text).outcome)
rates_small room text =
    rates_cases (λ (r : Rated). Small (outcome_of r.outcome)) room text (line_small false) (record { number = omega arith; place = omega arith })
    (λ n h. record { number = omega arith; place = omega arith }) (λ n values h e. record { number = omega arith; place = omega arith })
