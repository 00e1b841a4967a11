use mir.Facts.{to_z-of_z}
use borrow.Author.Rules.{rules}
use Rattle.imports.specs.Imports.{head_of}
use Rattle.imports.proofs.words.head_of.Goals as goal

pub returns : goal.returns
unfolding head_of
returns c = search (rules, to_z-of_z)
