-- The factor is that of the line, and its ending picks the case.
use Rattle.std.proofs.Common.{length, ap, ◌∙◌, arith}
use Rattle.jobs.specs.Words.{job_of}
use Rattle.factor.proofs.Turns.{factor_length}
use Rattle.house.specs.Factoring.{rows_of}
use Rattle.house.proofs.Told.{known, cells_few, order_few}
use Rattle.house.proofs.Solving.{line_holds, line_places}
use Rattle.house.proofs.factoring.solve_line_into.Goals as goal

pub factor_band-ending-requires : goal.factor_band-ending-requires
factor_band-ending-requires c = let k = known c.args.job in
    let n = c.cells-n.ensures in
    (omega (arith, n, cells_few k), omega (arith, c.order-z.ensures, order_few k), line_places c.starts_of-starts.ensures (omega (arith, n, cells_few k)) (omega (arith, c.order-z.ensures, order_few k)) (ap length c.requires.2))

pub invariant_of-made : goal.invariant_of-made
invariant_of-made c = let k = known c.args.job in
    let n = c.cells-n.ensures in
    let made = c.factor_band-ending.ensures.2 in record {
      cells_few = omega (arith, n, cells_few k);
      placed = line_places c.starts_of-starts.ensures (omega (arith, n, cells_few k)) (omega (arith, c.order-z.ensures, order_few k))
          (ap length made ∙ factor_length (rows_of c.band-a.result) c.order-z.result c.cells-n.result 0 _ _ ∙ ap length c.requires.2);
    }

pub returns : goal.returns
returns c = let j = job_of c.args.job.words.now in
    line_holds j c.band-a.ensures c.cells-n.ensures c.order-z.ensures c.requires.0 c.requires.1 c.requires.2 c.factor_band-ending.ensures c.solve_whole.ensures
