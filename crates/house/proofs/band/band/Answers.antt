use Rattle.std.proofs.Common.{◌≡◌, ℕ, ◌+◌, ◌-◌, ◌<◌, List, set, replicate, ℤ, sym, ap, ◌∙◌, ap₂, arith}
use lib.Ieee.{Float, of_bits}
use Rattle.jobs.specs.Words.{cells_of}
use Rattle.house.specs.Filled.{filled}
use Rattle.house.specs.Band.{entries_of, zero64}
use Rattle.house.proofs.Fills.{filled_more, filled_done}
use Rattle.house.proofs.Told.{known, weight_is, constant_is}
use Rattle.house.proofs.band.band.Invariants.{lines}
use Rattle.house.proofs.band.band.Goals as goal

pub loop-i-preserved : goal.loop-i-preserved
loop-i-preserved c = let k = known c.args.job in
    let ws = c.args.job.words.now in
    let i = c.loop-i.i in
    let made = c.loop-i.made in
    let h : i < cells_of ws = omega (arith, c.cells-n.ensures) in
    let e : c.entries_of-entries.result ≡ lines ws c.cells-n.result c.order-z.result i =
    c.entries_of-entries.ensures ∙ ap₂ (λ (w k : ℤ). entries_of w k c.cells-n.result c.order-z.result i) (weight_is k h c.weight-w.ensures) (constant_is k c.constant-k.ensures) in
    ap (λ (x : List Float). filled (lines ws c.cells-n.result c.order-z.result) (c.cells-n.result - (i + 1)) (i + 1) (set made i x)) e
    ∙ sym (filled_more (lines ws c.cells-n.result c.order-z.result) i c.cells-n.result made (omega arith)) ∙ c.loop-i.invariant

pub returns : goal.returns
unfolding of_bits
returns c = let ws = c.args.job.words.now in
    sym (filled_done (lines ws c.cells-n.result c.order-z.result) c.loop-i.i c.cells-n.result c.loop-i.made (omega arith)) ∙ c.loop-i.invariant
    ∙ ap₂ (λ (n z : ℕ). filled (lines ws n z) n 0 (replicate 120 (replicate 5 zero64))) c.cells-n.ensures c.order-z.ensures
