use Rattle.packs.proofs.Packing.{counting_start, counting_go, counting_end}
use Rattle.numbers.proofs.Bytes.{size_most}
use lib.IntN.{pos, nat_abs}
use lib.ListN.{get_or}
use mathlib.Core.Path.{ap, ◌∙◌}
use mir.Facts.{to_z-of_z}
use mir.Val.{SFits}
use mir.Syntax.{w64}
use native.Mathlib.Omega.{arith}
use borrow.Author.Rules.{rules}
use Prim.Native.Nat.{◌-◌}
use Rattle.packs.proofs.writing.length_of.Goals as goal

pub loop-x-init : goal.loop-x-init
loop-x-init c = counting_start _

pub overflow_add-total : goal.overflow_add-total
overflow_add-total c = let l = c.loop-x.invariant in omega (arith, l.small, l.within, c.well_formed.0.1, c.size-total.ensures, size_most c.size_of.result)

pub loop-x-preserved : goal.loop-x-preserved
loop-x-preserved c = let fits : SFits w64 (get_or c.args.numbers.now c.loop-x.x-index (pos 0)) = search rules in
    counting_go c.loop-x.invariant c.loop-x-test.true _ _ (c.size_of.ensures ∙ ap nat_abs (to_z-of_z fits)) c.size-total.ensures

pub returns : goal.returns
returns c = counting_end c.loop-x.invariant c.loop-x-test.false
