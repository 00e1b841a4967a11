use mathlib.Core.Path.{sym, ap, ap₂, ◌∙◌}
use Prim.Native.Nat.{ℕ, ◌+◌, ◌-◌}
use mathlib.Core.List.{List}
use lib.ListN.{set}
use lib.Ieee.{Float, of_bits}
use native.Mathlib.Omega.{arith}
use Rattle.passes.specs.Hildreth.{placed_from}
use Rattle.passes.specs.OnWords.{link_at}
use Rattle.passes.proofs.Turns.{placed_more, placed_done}
use Rattle.passes.proofs.link.Link.right_for.Goals as goal

pub loop-m-preserved : goal.loop-m-preserved
loop-m-preserved c = let k = link_at c.args.self.words.now c.args.self.start in
    let t = c.count_at-t.result in
    let m = c.loop-m.m in
    ap₂ {C = List Float} (λ (i : ℕ) (a : Float). placed_from k (t - (m + 1)) (m + 1) (set c.loop-m.made i a)) c.cell-cell.ensures c.coefficient-a.ensures
    ∙ sym (placed_more k m t c.loop-m.made (omega arith)) ∙ c.loop-m.invariant

pub returns : goal.returns
unfolding of_bits
returns c = let k = link_at c.args.self.words.now c.args.self.start in
    let t = c.count_at-t.result in
    sym (placed_done k c.loop-m.m t c.loop-m.made (omega arith)) ∙ c.loop-m.invariant ∙ ap (λ (n : ℕ). placed_from k n 0 _) c.count_at-t.ensures
