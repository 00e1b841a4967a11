-- The number, a field and the line feed, one after another; 1,024 bytes hold them all, as no number has more than 20 digits.
use native.Mathlib.Omega.{arith}
use Rattle.decimals.proofs.Stores.{puts_then, puts_same, puts_length}
use Rattle.decimals.proofs.Digits.{digits_most}
use Rattle.line.proofs.Parts.{pair_parts}
use Rattle.line.proofs.parted.put_two.Goals as goal

pub put_number-first-requires : goal.put_number-first-requires
put_number-first-requires c = record { fits = omega (arith, c.requires, digits_most c.args.a, digits_most c.args.b) }

pub put_field-second-requires : goal.put_field-second-requires
put_field-second-requires c = let n = c.put_number-first.ensures in
    record { fits = omega (arith, c.requires, n.next, puts_length n, digits_most c.args.a, digits_most c.args.b) }

pub put_end-requires : goal.put_end-requires
put_end-requires c = let n = c.put_number-first.ensures in
    let f = c.put_field-second.ensures in
    record { fits = omega (arith, c.requires, n.next, puts_length n, f.next, puts_length f, digits_most c.args.a, digits_most c.args.b) }

pub returns : goal.returns
returns c = puts_same (pair_parts c.args.a c.args.b) (puts_then c.put_number-first.ensures (puts_then c.put_field-second.ensures c.put_end.ensures))
