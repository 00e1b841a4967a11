-- The list is read into a scratch that holds 120 lines.
use Rattle.std.proofs.Common.{◌≡◌, rules, refl}
use Rattle.std.specs.Prelude.{Err}
use mathlib.Core.Bool.{false}
use lib.ListN.{length}
use Rattle.lists.proofs.Whole.{counts_room}
use Rattle.exports.proofs.Handed.{rates_done, rates_refused}
use Rattle.exports.proofs.back.rates.Goals as goal

pub returns-in_err-n : goal.returns-in_err-n
returns-in_err-n c =
    let a = c.args in
    let e : c.from_residual.result ≡ Err c.in_err-n.field-0.0 = search rules in
    rw (← rates_refused (length a.out.now) a.text.now c.read_list.ensures c.in_err-n.was) (e, refl)

pub hand_out-requires : goal.hand_out-requires
hand_out-requires c = counts_room false c.args.text.now c.read_list.ensures c.in_ok-n.was

pub returns : goal.returns
returns c = let a = c.args in rw (← rates_done (length a.out.now) a.text.now c.read_list.ensures c.in_ok-n.was) c.hand_out.ensures
