-- The part of the four places that the row has is put.
use Rattle.std.proofs.Common.{arith, length-take}
use Rattle.factor.proofs.Turns.{row_fits}
use Rattle.house.proofs.factoring.put_made.Goals as goal

pub put_row-requires : goal.put_row-requires
put_row-requires c = let low = c.lowest_of-lo.ensures in
    row_fits c.args.j c.requires.2 c.start_at-at.ensures.0 (simp length-take (omega (arith, c.requires.3)))
