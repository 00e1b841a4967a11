-- A word below 0 has no number where the field is not signed.
use Rattle.packs.specs.Writing.{plain_of}
use Rattle.numbers.specs.Zigzag.{sign_of, stored_of}
use Rattle.numbers.proofs.Signs.{plus_is, minus_is}
use mir.Facts.{to_z-of_z}
use mathlib.Core.Path.{sym, ap, ◌∙◌}
use Rattle.std.specs.Prelude.{Some}
use Rattle.packs.proofs.words.raw_of.Goals as goal

pub returns-then-is_signed : goal.returns-then-is_signed
returns-then-is_signed c = rw (← c.is_signed.ensures, c.if-is_signed.true) (ap Some (c.stored.ensures ∙ ap stored_of (to_z-of_z c.ranges.x)))

pub returns-in-Plus : goal.returns-in-Plus
returns-in-Plus c = rw (← c.is_signed.ensures, c.if-is_signed.false) (ap plain_of (sym (plus_is c.args.x _ (ap sign_of (sym (to_z-of_z c.ranges.x)) ∙ sym c.sign_of.ensures ∙ c.in-Plus.is))))

pub returns-in-Minus : goal.returns-in-Minus
returns-in-Minus c = rw (← c.is_signed.ensures, c.if-is_signed.false) (ap plain_of (sym (minus_is c.args.x _ (ap sign_of (sym (to_z-of_z c.ranges.x)) ∙ sym c.sign_of.ensures ∙ c.in-Minus.is))))
