-- The comma is the first byte at which the test holds.
use Rattle.std.proofs.Common.{◌≡◌, ◌∙◌, ap, length, rules, tests, arith}
use Rattle.std.specs.Option.{unwrap_or}
use Rattle.std.proofs.lemmas.Iterator.{YieldsList-from_slice, IsFirst-from_position}
use Rattle.lists.specs.Cut.{length_to, is_comma}
use Rattle.lists.proofs.Cuts.{comma_found, comma_cut}
use Rattle.lists.proofs.cut.parted.Goals as goal

pub returns-in_err-n : goal.returns-in_err-n
returns-in_err-n c =
    let line = c.args.line.now in
    let first = IsFirst-from_position _ _ c.position.result (λ b. b ≡ 44) (λ b. b ≡ 44 → ⊥) c.position.ensures.ran (YieldsList-from_slice line cc) (λ x q k. search (rules, tests)) (λ x q k. search (rules, tests)) in
    let found : length_to is_comma line ≡ length line = comma_found line c.position.result first ∙ ap (λ o. unwrap_or o (length line)) c.in_err-n.was in
    rw c.from_residual.ensures (omega (arith, found))

pub returns : goal.returns
returns c =
    let line = c.args.line.now in
    let first = IsFirst-from_position _ _ c.position.result (λ b. b ≡ 44) (λ b. b ≡ 44 → ⊥) c.position.ensures.ran (YieldsList-from_slice line cc) (λ x q k. search (rules, tests)) (λ x q k. search (rules, tests)) in
    comma_cut line (comma_found line c.position.result first ∙ ap (λ o. unwrap_or o (length line)) c.in_ok-n.was)
