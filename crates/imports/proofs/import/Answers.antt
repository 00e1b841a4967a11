-- The list is read into a scratch that holds 120 lines; a list with a fault makes no pack.
use Rattle.std.proofs.Common.{◌≡◌, rules, refl}
use Rattle.std.specs.Prelude.{Err}
use native.Mathlib.Omega.{arith}
use mathlib.Core.Bool.{true}
use lib.ListN.{length}
use Rattle.lists.proofs.Whole.{few_lines, exposures_room, counts_room}
use Rattle.imports.proofs.Importing.{divisor_none, import_done, import_refused}
use Rattle.imports.proofs.import.Goals as goal

pub returns-then-g-eq0 : goal.returns-then-g-eq0
returns-then-g-eq0 c = let a = c.args in rw (← divisor_none a.g (length a.out.now) a.text.now c.if-g-eq0.true) (refl, refl)

pub returns-in_err-n : goal.returns-in_err-n
returns-in_err-n c =
    let a = c.args in
    let e : c.from_residual.result ≡ Err c.in_err-n.field-0.0 = search rules in
    rw (← import_refused a.g (length a.out.now) a.text.now c.if-g-eq0.false c.read_list.ensures c.in_err-n.was) (e, refl)

pub write_import-requires : goal.write_import-requires
write_import-requires c = let t = c.args.text.now in let l = c.read_list.ensures in let d = c.in_ok-n.was in (omega (arith, c.if-g-eq0.false), (few_lines true t l d, (exposures_room true t l d, counts_room true t l d)))

pub returns : goal.returns
returns c = let a = c.args in rw (← import_done a.g (length a.out.now) a.text.now c.if-g-eq0.false c.read_list.ensures c.in_ok-n.was) c.write_import.ensures
