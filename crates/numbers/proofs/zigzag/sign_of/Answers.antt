-- A test against 0 tells the sign; -1 - x is the magnitude less one of a number below 0, and fits.
use mir.Facts.{to_z-of_z, to_z_pos}
use mir.Syntax.{w64}
use Rattle.numbers.proofs.Signs.{flipped, is_neg, is_pos}
use native.Mathlib.Omega.{arith}
use mathlib.Core.Path.{ap, sym}
use Rattle.numbers.specs.Zigzag.{sign_of}
use Rattle.numbers.proofs.zigzag.sign_of.Goals as goal

pub overflow_sub-result : goal.overflow_sub-result
overflow_sub-result c = rw (flipped c.args.x c.ranges.x c.if-x-lt0.true) (record { sfits = c.ranges.x.sfits })

pub overflow_cast-result : goal.overflow_cast-result
overflow_cast-result c = rw (flipped c.args.x c.ranges.x c.if-x-lt0.true, to_z_pos w64 c.ranges.x.sfits) (tt, record { fits = omega (arith, c.ranges.x.sfits) })

pub returns-then-x-lt0 : goal.returns-then-x-lt0
returns-then-x-lt0 c = rw (flipped c.args.x c.ranges.x c.if-x-lt0.true, to_z_pos w64 c.ranges.x.sfits) (ap sign_of (sym (is_neg c.args.x c.ranges.x c.if-x-lt0.true)))

pub overflow_cast-result-2 : goal.overflow_cast-result-2
overflow_cast-result-2 c = rw (to_z-of_z c.ranges.x, is_pos c.args.x c.ranges.x c.if-x-lt0.false) (tt, record { fits = omega (arith, c.ranges.x.sfits) })

pub returns : goal.returns
returns c = rw (to_z-of_z c.ranges.x, is_pos c.args.x c.ranges.x c.if-x-lt0.false)
