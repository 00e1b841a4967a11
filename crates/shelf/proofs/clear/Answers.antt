-- What the test of the shelf and the counts refuses is refused; else the counts become the row, and their spans zeros.
use mathlib.Core.Path.{◌≡◌, sym, ap, ◌∙◌}
use mathlib.Core.List.{List}
use Prim.Native.Nat.{ℕ}
use native.Mathlib.Omega.{arith}
use lib.ListN.{length}
use lib.Seq.{take_all}
use Rattle.counts.specs.Counts.{societies, Tested, test_row, row_in, cleared}
use Rattle.counts.proofs.Tests.{passed_both}
use Rattle.checked.specs.declared.Answer.{Answer}
use Rattle.checked.specs.Answers.{Reply}
use Rattle.shelf.proofs.Answered.{passing, clear_passed, clear_refused}
use borrow.Author.Rules.{rules}
use Rattle.shelf.proofs.clear.Goals as goal

pub clear_spans-requires : goal.clear_spans-requires
clear_spans-requires c = let a = c.args in
    let counts = a.counts.now in
    let eight : length counts ≡ societies = search rules in
    let both = passed_both (row_in counts) a.shelf.now (sym c.test_clearing.ensures ∙ passing c.test_clearing.result c.in_default.not-Err) in
    (both.0, eight, ap {B = Tested} test_row (sym (take_all societies counts (omega arith))) ∙ both.1)

pub returns : goal.returns
returns c = let a = c.args in
    let shelf = a.shelf.now in
    let counts = a.counts.now in
    let eight : length counts ≡ societies = search rules in
    let both = clear_passed shelf counts (sym c.test_clearing.ensures ∙ passing c.test_clearing.result c.in_default.not-Err) in
    record { answer = c.plain.ensures ∙ ap {B = Answer} (λ (r : Reply). r.answer) both.0; shelf = c.clear_spans.ensures ∙ ap (λ (x : List ℕ). cleared x shelf) (sym (take_all societies counts (omega arith))) ∙ both.1 }

pub returns-in-Err : goal.returns-in-Err
returns-in-Err c = let a = c.args in
    let both = clear_refused a.shelf.now a.counts.now c.in-Err.r (sym c.test_clearing.ensures ∙ c.in-Err.is) in
    record { answer = c.refused.ensures ∙ ap {B = Answer} (λ (r : Reply). r.answer) both.0; shelf = both.1 }
