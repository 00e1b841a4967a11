use Rattle.std.proofs.Common.{ℕ, ◌+◌, ◌-◌, ◌<◌, get_or, set, ℤ, sym, ap, ◌∙◌, arith, lit<, length-set}
use lib.Ieee.{nan}
use Rattle.whole.proofs.Fits.{gives, small_fits}
use Rattle.jobs.specs.Words.{cells_of}
use Rattle.house.specs.Filled.{filled}
use Rattle.house.proofs.Fills.{filled_more, filled_done}
use Rattle.house.proofs.Boxed.{value_small}
use Rattle.house.proofs.proposal.values_into.Invariants.{values}
use Rattle.house.proofs.proposal.values_into.Goals as goal

pub loop-i-preserved : goal.loop-i-preserved
loop-i-preserved c = let ws = c.args.job.words.now in
    let v = c.args.v.now in
    let i = c.loop-i.i in
    let made = c.loop-i.made in
    let h : i < cells_of ws = omega (arith, c.cells-n.ensures) in
    let small = value_small (c.args.job.allowed.cell i h) (get_or v i nan) in (
      length-set made i _ ∙ c.loop-i.invariant.0,
      ap (λ (x : ℤ). filled (values ws v) (c.cells-n.result - (i + 1)) (i + 1) (set made i x)) (gives c.value_at.ensures (small_fits (values ws v i) small (lit< tt)))
          ∙ sym (filled_more (values ws v) i c.cells-n.result made (omega arith)) ∙ c.loop-i.invariant.1,
    )

pub returns : goal.returns
returns c = let f = values c.args.job.words.now c.args.v.now in
    sym (filled_done f c.loop-i.i c.cells-n.result c.loop-i.made (omega arith)) ∙ c.loop-i.invariant.1 ∙ ap (λ (n : ℕ). filled f n 0 c.args.made.now) c.cells-n.ensures
