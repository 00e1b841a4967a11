-- Each arm is the case of `settled` that its step names.
use mathlib.Core.Path.{sym, ap, ◌∙◌}
use Rattle.packs.specs.Reading.{settled}
use mir.Facts.{to_z-of_z}
use Rattle.packs.proofs.walking.tested.Goals as goal

pub returns-in-Ok : goal.returns-in-Ok
returns-in-Ok c = rw (to_z-of_z (record { sfits = c.kept_of-word.type_inv }), c.kept_of-word.ensures) (ap (settled _ _ _) (sym c.in-Ok.is ∙ c.after.ensures))

pub returns-in-Err-Unallowed : goal.returns-in-Err-Unallowed
returns-in-Err-Unallowed c = rw (← c.after.ensures, c.in-Err-Unallowed.is, c.in-Err-Unallowed.field-0-is)

pub returns-in-Err-Other : goal.returns-in-Err-Other
returns-in-Err-Other c = rw (← c.after.ensures, c.in-Err-Other.is, c.in-Err-Other.field-0-is)
