use mathlib.Core.Path.{sym, ap, ap₂, ◌∙◌}
use Prim.Native.Nat.{ℕ, ◌+◌, ◌-◌}
use lib.ListN.{get_or}
use lib.Ieee.{Float, nan, binary64, add, mul, of_bits}
use native.Mathlib.Omega.{arith}
use Rattle.passes.specs.Hildreth.{plus_by, term_over, sum_over}
use Rattle.passes.specs.OnWords.{link_at}
use Rattle.passes.proofs.Turns.{plus_more, plus_done}
use Rattle.passes.proofs.link.Link.sum_over.Goals as goal

pub loop-m-preserved : goal.loop-m-preserved
loop-m-preserved c = let xs = c.args.xs.now in
    let t = term_over (link_at c.args.self.words.now c.args.self.start) xs in
    let n = c.count_at-t.result in
    let m = c.loop-m.m in
    ap₂ {C = Float} (λ (i : ℕ) (a : Float). plus_by t (m + 1) (n - (m + 1)) (add binary64 c.loop-m.total (mul binary64 a (get_or xs i nan)))) c.cell-cell.ensures c.coefficient-a.ensures
    ∙ sym (plus_more t m n c.loop-m.total (omega arith)) ∙ c.loop-m.invariant

pub returns : goal.returns
unfolding sum_over of_bits
returns c = let t = term_over (link_at c.args.self.words.now c.args.self.start) c.args.xs.now in
    sym (plus_done t c.loop-m.m c.count_at-t.result c.loop-m.total (omega arith)) ∙ c.loop-m.invariant ∙ ap (λ (n : ℕ). plus_by t 0 n _) c.count_at-t.ensures
