-- The test for a link is the one that `links_from` makes.
use borrow.Author.Tests.{lt-ltb, le-ltb}
use Rattle.fields.proofs.links.first_link.Goals as goal

pub returns-then-links-gt0 : goal.returns-then-links-gt0
returns-then-links-gt0 c = simp (lt-ltb _ _ c.if-links-gt0.true)

pub returns : goal.returns
returns c = simp (le-ltb _ _ c.if-links-gt0.false)
