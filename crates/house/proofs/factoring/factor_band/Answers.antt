use Rattle.std.proofs.Common.{◌-◌, length, take, sym, ap, ◌∙◌, arith}
use lib.Seq.{length-sets}
use Rattle.factor.specs.Factor.{lowest, start_of}
use Rattle.factor.proofs.Turns.{as_long, fewer_rows, answer_more, answer_thin, factor_done, parts}
use Rattle.house.specs.Factoring.{rows_of}
use Rattle.house.proofs.Steps.{line_length, line_told}
use Rattle.house.proofs.factoring.factor_band.Goals as goal

pub invariant_of-before : goal.invariant_of-before
invariant_of-before c = record { cells_few = omega arith; placed = fewer_rows (omega arith) (as_long c.requires.2 c.loop-j.invariant.0) }

pub put_made-requires : goal.put_made-requires
put_made-requires c = let a = c.args in
    let len = line_length (rows_of a.band) c.loop-j.d c.loop-j.l a.z c.loop-j.j c.requires.1 c.factor_step-step.ensures in
    (omega arith, c.requires.1, fewer_rows (omega arith) (as_long c.requires.2 c.loop-j.invariant.0), len)

pub returns-in-Err : goal.returns-in-Err
returns-in-Err c = let a = c.args in
    let step = c.factor_step-step.ensures in
    let told = line_told (rows_of a.band) c.loop-j.d c.loop-j.l a.z c.loop-j.j c.requires.1 step in
    parts (sym (answer_thin (rows_of a.band) a.z c.loop-j.j c.loop-j.d c.loop-j.l a.n c.loop-j-test.true told.0 told.1 (c.put_made.ensures ∙ told.2) c.in-Err.is) ∙ c.loop-j.invariant.1)

pub loop-j-preserved : goal.loop-j-preserved
loop-j-preserved c = let a = c.args in
    let j = c.loop-j.j in
    let step = c.factor_step-step.ensures in
    let put = c.put_made.ensures in
    let told = line_told (rows_of a.band) c.loop-j.d c.loop-j.l a.z j c.requires.1 step in (
      ap length put ∙ length-sets c.loop-j.l (start_of a.z j) (take (j - lowest j a.z) c.factor_step-step.result.row.multipliers) ∙ c.loop-j.invariant.0,
      sym (answer_more (rows_of a.band) a.z j c.loop-j.d c.loop-j.l a.n c.loop-j-test.true told.0 told.1 (put ∙ told.2) c.in_default.is) ∙ c.loop-j.invariant.1,
    )

pub returns : goal.returns
returns c = let a = c.args in
    parts (sym (factor_done (rows_of a.band) a.z c.loop-j.j a.n c.loop-j.d c.loop-j.l (omega arith)) ∙ c.loop-j.invariant.1)
