use Rattle.packs.proofs.Packing.{putting_start, putting_room, putting_go, putting_end}
use lib.IntN.{pos, nat_abs}
use lib.ListN.{get_or}
use mathlib.Core.Path.{ap, ◌∙◌}
use mir.Facts.{to_z-of_z}
use mir.Val.{SFits}
use mir.Syntax.{w64}
use native.Mathlib.Omega.{arith}
use borrow.Author.Rules.{rules}
use Prim.Native.Nat.{◌-◌}
use Rattle.packs.proofs.writing.put_all.Goals as goal

pub loop-x-init : goal.loop-x-init
loop-x-init c = putting_start _ _ c.requires

pub put-at-requires : goal.put-at-requires
put-at-requires c = let fits : SFits w64 (get_or c.args.numbers.now c.loop-x.x-index (pos 0)) = search rules in
    putting_room c.loop-x.invariant c.loop-x-test.true _ (c.size_of.ensures ∙ ap nat_abs (to_z-of_z fits))

pub loop-x-preserved : goal.loop-x-preserved
loop-x-preserved c = let fits : SFits w64 (get_or c.args.numbers.now c.loop-x.x-index (pos 0)) = search rules in
    putting_go c.loop-x.invariant c.loop-x-test.true _ (c.size_of.ensures ∙ ap nat_abs (to_z-of_z fits)) _ _ c.put-at.ensures.0 c.put-at.ensures.1

pub shape_of-out : goal.shape_of-out
shape_of-out c = c.loop-x.invariant.long

pub returns : goal.returns
returns c = putting_end c.loop-x.invariant c.loop-x-test.false
