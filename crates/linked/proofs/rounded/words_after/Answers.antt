use mathlib.Core.Path.{sym, ap, ap₂, ◌∙◌}
use Prim.Native.Nat.{ℕ, ◌+◌, ◌-◌}
use native.Mathlib.Omega.{arith}
use lib.Dec.{lit<}
use lib.IntN.{ℤ}
use lib.ListN.{get_or, set}
use lib.Ieee.{nan}
use Rattle.whole.proofs.Fits.{gives, small_fits}
use Rattle.jobs.specs.Words.{cells_of, links_of}
use Rattle.house.specs.Filled.{filled}
use Rattle.house.proofs.Fills.{filled_more, filled_done}
use Rattle.linked.proofs.Words.{multiplier_small}
use Rattle.linked.proofs.rounded.words_after.Invariants.{multipliers}
use Rattle.linked.proofs.rounded.words_after.Goals as goal

pub loop-at-preserved : goal.loop-at-preserved
loop-at-preserved c = let y = c.args.y.now in
    let n = c.cells-n.result in
    let count = n + c.links-links.result in
    let at = c.loop-at.at in
    let made = c.loop-at.made in ap (λ (x : ℤ). filled (multipliers y n) (count - (at + 1)) (at + 1) (set made at x)) (gives c.multiplier_word.ensures (small_fits (multipliers y n at) (multiplier_small (get_or y (at - n) nan)) (lit< tt)))
    ∙ sym (filled_more (multipliers y n) at count made (omega arith)) ∙ c.loop-at.invariant

pub returns : goal.returns
returns c = let ws = c.args.job.words.now in
    let y = c.args.y.now in
    let n = c.cells-n.result in
    let links = c.links-links.result in
    sym (filled_done (multipliers y n) c.loop-at.at (n + links) c.loop-at.made (omega arith)) ∙ c.loop-at.invariant
    ∙ ap₂ (λ (n links : ℕ). filled (multipliers y n) links n c.values_into.new.made) c.cells-n.ensures c.links-links.ensures
    ∙ ap (filled (multipliers y (cells_of ws)) (links_of ws) (cells_of ws)) c.values_into.ensures
