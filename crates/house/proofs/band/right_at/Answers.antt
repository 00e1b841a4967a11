-- A weight times a crude rate is 10^9 at most.
use Rattle.std.proofs.Common.{refl, ap, ◌∙◌, lit<}
use lib.Ieee.{binary64, of_int}
use Rattle.house.proofs.Sizes.{product_is}
use Rattle.house.proofs.band.right_at.Goals as goal

pub returns : goal.returns
returns c = c.cast.ensures ∙ ap (of_int binary64) (product_is {a = c.args.w} {b = c.args.u} refl refl c.requires.0 c.requires.1 (lit< tt) (lit< tt) (lit< tt))
