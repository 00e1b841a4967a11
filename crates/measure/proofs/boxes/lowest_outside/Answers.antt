use mathlib.Core.Path.{sym, ◌∙◌, ◌≡◌}
use native.Mathlib.Omega.{arith}
use Rattle.jobs.specs.Words.{cells_of}
use Rattle.measure.proofs.Lowest.{lowest_all, lowest_at}
use Rattle.measure.specs.OnWords.{in_box_on}
use Rattle.measure.proofs.boxes.lowest_outside.Goals as goal

pub returns-then-not-is_in_box : goal.returns-then-not-is_in_box
returns-then-not-is_in_box c = sym (lowest_at _ _ _ (omega (arith, c.cells-n.ensures)) c.loop-i.invariant (sym c.is_in_box.ensures ∙ c.if-not-is_in_box.true))

pub returns : goal.returns
returns c = let e : c.loop-i.i ≡ cells_of c.args.p.job.words.now = omega (arith, c.cells-n.ensures) in
    c.cells-n.ensures ∙ sym (lowest_all (in_box_on c.args.p.job.words.now c.args.p.words.now) _ (rw e at c.loop-i.invariant))
