-- The row that was made is put to its places.
use Rattle.std.proofs.Common.{length, ap, ◌∙◌, arith}
use Rattle.factor.proofs.Turns.{fewer_rows, made_length, row_fits}
use Rattle.house.proofs.grid.factor_into.Goals as goal

pub invariant_of-before : goal.invariant_of-before
invariant_of-before c = record { cells_few = omega (arith, c.requires.0); placed = fewer_rows (omega arith) c.requires.2 }

pub put_row-requires : goal.put_row-requires
put_row-requires c = let a = c.args in
    let made = c.factor_row-pivot.ensures.1 in
    let len = ap length made ∙ made_length a.entries.now a.d.now a.l.now a.z a.j in
    row_fits c.args.j c.requires.2 c.start_at-at.ensures.0 len
