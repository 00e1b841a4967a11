use Rattle.packs.proofs.Along.{along_start, along_low, along_next, along_go, along_stop, along_refuse}
use mathlib.Core.Path.{◌≡◌, sym, ap, ◌∙◌}
use Rattle.std.specs.Prelude.{Ok, Err}
use mir.Facts.{to_z-of_z}
use mir.Val.{SFits}
use mir.Syntax.{w64}
use native.Mathlib.Omega.{arith}
use borrow.Author.Rules.{rules}
use Rattle.packs.proofs.walking.walk.Goals as goal

pub loop-t-init : goal.loop-t-init
loop-t-init c = along_start _ _ _ _ _

pub move_at-requires : goal.move_at-requires
move_at-requires c = along_low c.loop-t.invariant

pub overflow_add-k : goal.overflow_add-k
overflow_add-k c = omega (arith, (along_next c.loop-t.invariant (sym c.move_at.ensures ∙ c.in_ok-t.was ∙ ap Ok c.in-Some.is)).few)

pub loop-t-smaller : goal.loop-t-smaller
loop-t-smaller c = (along_next c.loop-t.invariant (sym c.move_at.ensures ∙ c.in_ok-t.was ∙ ap Ok c.in-Some.is)).less

pub loop-t-preserved : goal.loop-t-preserved
loop-t-preserved c = let small : SFits w64 c.in-Some.t.word = search rules in
    rw (c.store.ensures, to_z-of_z small) (along_go c.loop-t.invariant c.in-Some.t (sym c.move_at.ensures ∙ c.in_ok-t.was ∙ ap Ok c.in-Some.is))

pub returns-in_err-t : goal.returns-in_err-t
returns-in_err-t c = let e : c.from_residual.result ≡ Err c.in_err-t.field-0.0 = search rules in
    let r = along_refuse c.loop-t.invariant c.in_err-t.field-0.0 (sym c.move_at.ensures ∙ c.in_err-t.was) in (e ∙ r.0, r.1)

pub returns : goal.returns
returns c = along_stop c.loop-t.invariant (sym c.move_at.ensures ∙ c.in_ok-t.was ∙ ap Ok c.in_default.is)
