-- The row is made in its part of the four places, and the answer is the definition's.
use Rattle.std.proofs.Common.{ℕ, ◌-◌, sym, ap, ◌∙◌, arith}
use lib.Ieee.{of_bits}
use Rattle.factor.specs.Factor.{factor_step}
use Rattle.factor.proofs.Turns.{made_length}
use Rattle.house.proofs.Steps.{blank_part, row_put, step_answered}
use Rattle.house.proofs.factoring.factor_step.Goals as goal

pub factor_row-pivot-requires : goal.factor_row-pivot-requires
unfolding of_bits
factor_row-pivot-requires c = let a = c.args in
    let low = c.lowest_of-lo.ensures in
    (c.requires.0, omega arith, blank_part 4 (ap (λ (k : ℕ). a.before.cells - k) low) (omega arith))

pub returns : goal.returns
unfolding of_bits
returns c = let a = c.args in
    let low = c.lowest_of-lo.ensures in
    let made = c.factor_row-pivot.ensures in
    let m = factor_step a.entries a.before.pivots.now a.before.multipliers.now a.before.reach a.before.cells in
    let len = made_length a.entries a.before.pivots.now a.before.multipliers.now a.before.reach a.before.cells in
    step_answered m made c.value_of-x.ensures (row_put 4 made.1 (ap (λ (k : ℕ). a.before.cells - k) low ∙ sym len) (omega (arith, len)))
