-- A number below 2^63 is a word; a stored form is turned back.
use mir.Facts.{to_z-of_z}
use Rattle.packs.proofs.words.word_of.Goals as goal

pub returns-then-is_signed : goal.returns-then-is_signed
returns-then-is_signed c = rw (to_z-of_z (record { sfits = c.signed.type_inv }), ← c.is_signed.ensures, c.if-is_signed.true) c.signed.ensures

pub returns : goal.returns
returns c = rw (to_z-of_z (record { sfits = c.plus.type_inv }), ← c.is_signed.ensures, c.if-is_signed.false) c.plus.ensures
