-- A number up to the most is its own word.
use mir.Facts.{to_z-of_z}
use Rattle.imports.proofs.Made.{word_in, word_out}
use Rattle.imports.proofs.words.word_upto.Goals as goal

pub returns-then-x-most : goal.returns-then-x-most
returns-then-x-most c = rw (to_z-of_z (record { sfits = c.plus.type_inv })) (word_in c.args.most c.args.x c.if-x-most.true c.plus.ensures)

pub returns : goal.returns
returns c = word_out c.args.most c.args.x c.if-x-most.false
