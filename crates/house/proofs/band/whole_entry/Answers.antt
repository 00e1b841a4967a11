-- The parts are small, so product and sum fit; the test picks the diagonal.
use Rattle.std.proofs.Common.{refl, eq-eqb}
use Rattle.house.proofs.Sizes.{smooth_is, entry_is}
use Rattle.house.proofs.band.whole_entry.Goals as goal

pub returns-then-o-eq0 : goal.returns-then-o-eq0
returns-then-o-eq0 c = rw (eq-eqb _ _ c.if-o-eq0.true) (entry_is c.args.w c.args.k c.args.squares c.requires.0 c.requires.1 c.requires.2 refl (smooth_is c.args.w c.args.k c.args.squares c.requires.0 c.requires.1 c.requires.2 refl refl))
