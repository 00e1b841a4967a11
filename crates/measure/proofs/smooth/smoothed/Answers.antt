-- One direction after the other: the differences down, then those across. Whatever numbers of a job a call is handed, its ranges are found among theirs.
use mathlib.Core.Path.{◌∙◌}
use native.Mathlib.Omega.{arith}
use Rattle.whole.proofs.Fits.{gives}
use Rattle.measure.proofs.Directions.{both_added, both_rough, first_call, numbers_shaped, rough_fits, second_call, two_fit, two_is}
use borrow.Author.Rules.{rules}
use Rattle.measure.proofs.smooth.smoothed.Goals as goal

pub smooth-down-requires : goal.smooth-down-requires
smooth-down-requires c = let H = numbers_shaped c.requires c.order-z.ensures c.across-across.ensures c.columns-columns.ensures c.constant-k.ensures c.second-second.ensures in
    first_call c.requires (search rules)

pub smooth-along-requires : goal.smooth-along-requires
smooth-along-requires c = let H = numbers_shaped c.requires c.order-z.ensures c.across-across.ensures c.columns-columns.ensures c.constant-k.ensures c.second-second.ensures in
    second_call c.requires (smooth-down-requires c.before.before.before.before) c.smooth-down.ensures.1 (search rules)

pub overflow_add-result : goal.overflow_add-result
overflow_add-result c = let H = numbers_shaped c.requires c.order-z.ensures c.across-across.ensures c.columns-columns.ensures c.constant-k.ensures c.second-second.ensures in
    two_fit (smooth-down-requires c.before.before.before.before.before.before) (smooth-along-requires c.before.before) (omega arith) c.smooth-down.ensures.0 c.smooth-along.ensures.0

pub returns : goal.returns
returns c = let H = numbers_shaped c.requires c.order-z.ensures c.across-across.ensures c.columns-columns.ensures c.constant-k.ensures c.second-second.ensures in (
  gives
      (two_is (smooth-down-requires c.before.before.before.before.before.before) (smooth-along-requires c.before.before) (omega arith) c.smooth-down.ensures.0 c.smooth-along.ensures.0
      ∙ both_rough c.requires c.order-z.ensures c.across-across.ensures c.columns-columns.ensures c.constant-k.ensures c.second-second.ensures)
      (rough_fits c.requires.given),
  both_added c.requires c.order-z.ensures c.across-across.ensures c.columns-columns.ensures c.constant-k.ensures c.second-second.ensures c.smooth-down.ensures.1 c.smooth-along.ensures.1,
)
