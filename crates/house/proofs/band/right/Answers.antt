use Rattle.std.proofs.Common.{◌≡◌, ℕ, ◌+◌, ◌-◌, ◌<◌, List, set, ◌*ℤ◌, sym, ap, ◌∙◌, ap₂, arith}
use lib.Ieee.{Float, binary64, of_int}
use Rattle.jobs.specs.Words.{cells_of}
use Rattle.house.specs.Filled.{filled}
use Rattle.house.proofs.Fills.{filled_more, filled_done}
use Rattle.house.proofs.Told.{known, crude_is, weight_is}
use Rattle.house.proofs.band.right.Invariants.{products}
use Rattle.house.proofs.band.right.Goals as goal

pub loop-i-preserved : goal.loop-i-preserved
loop-i-preserved c = let n = c.cells-n in
    let ws = c.args.job.words.now in
    let i = c.loop-i.i in
    let made = c.loop-i.made in
    let h : i < cells_of ws = omega (arith, n.ensures) in
    let e : c.right_at.result ≡ products ws i = c.right_at.ensures ∙ ap (of_int binary64) (ap₂ ◌*ℤ◌ (weight_is (known c.args.job) h c.weight-w.ensures) (crude_is (known c.args.job) h c.crude-u.ensures)) in
    ap (λ (x : Float). filled (products ws) (n.result - (i + 1)) (i + 1) (set made i x)) e
    ∙ sym (filled_more (products ws) i n.result made (omega arith)) ∙ c.loop-i.invariant

pub returns : goal.returns
returns c = let n = c.cells-n in
    let f = products c.args.job.words.now in
    sym (filled_done f c.loop-i.i n.result c.loop-i.made (omega arith)) ∙ c.loop-i.invariant ∙ ap₂ (λ (k : ℕ) (xs : List Float). filled f k 0 xs) n.ensures c.requires
