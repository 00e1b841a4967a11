-- Taken apart by its sign, twice the magnitude fits 64 bits.
use mir.Facts.{to_z-of_z}
use Rattle.numbers.specs.Zigzag.{sign_of}
use Rattle.numbers.proofs.Signs.{plus_is, minus_is}
use native.Mathlib.Omega.{arith}
use mathlib.Core.Path.{sym, ap, ◌∙◌}
use Rattle.numbers.proofs.zigzag.stored.Goals as goal

pub overflow_mul-result : goal.overflow_mul-result
overflow_mul-result c = omega (arith, (rw (plus_is c.args.x _ (ap sign_of (sym (to_z-of_z c.ranges.x)) ∙ sym c.sign_of-s.ensures ∙ c.in-Plus.is)) at c.ranges.x).sfits)

pub overflow_mul-result-in-Minus : goal.overflow_mul-result-in-Minus
overflow_mul-result-in-Minus c = omega (arith, (rw (minus_is c.args.x _ (ap sign_of (sym (to_z-of_z c.ranges.x)) ∙ sym c.sign_of-s.ensures ∙ c.in-Minus.is)) at c.ranges.x).sfits)

pub overflow_add-result : goal.overflow_add-result
overflow_add-result c = omega (arith, (rw (minus_is c.args.x _ (ap sign_of (sym (to_z-of_z c.ranges.x)) ∙ sym c.sign_of-s.ensures ∙ c.in-Minus.is)) at c.ranges.x).sfits)

pub returns-in-Plus : goal.returns-in-Plus
returns-in-Plus c = rw (plus_is c.args.x _ (ap sign_of (sym (to_z-of_z c.ranges.x)) ∙ sym c.sign_of-s.ensures ∙ c.in-Plus.is))

pub returns-in-Minus : goal.returns-in-Minus
returns-in-Minus c = rw (minus_is c.args.x _ (ap sign_of (sym (to_z-of_z c.ranges.x)) ∙ sym c.sign_of-s.ensures ∙ c.in-Minus.is))
