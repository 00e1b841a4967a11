-- Five fields, one after another; there is room for them in any order.
use native.Mathlib.Omega.{arith}
use Rattle.decimals.proofs.Stores.{puts_then, puts_length}
use Rattle.line.proofs.Widths.{head_length}
use Rattle.line.proofs.table.put_head.Goals as goal

pub put_number-first-requires : goal.put_number-first-requires
put_number-first-requires c = record { fits = omega (arith, c.requires.fits, head_length c.args.society c.args.job c.args.loss c.args.gap) }

pub put_field-second-requires : goal.put_field-second-requires
put_field-second-requires c = let n = c.put_number-first.ensures in
    record { fits = omega (arith, c.requires.fits, head_length c.args.society c.args.job c.args.loss c.args.gap, n.next, puts_length n) }

pub put_field-third-requires : goal.put_field-third-requires
put_field-third-requires c = let n = c.put_number-first.ensures in
    let p = c.put_field-second.ensures in
    record { fits = omega (arith, c.requires.fits, head_length c.args.society c.args.job c.args.loss c.args.gap, n.next, puts_length n, p.next, puts_length p) }

pub put_field-fourth-requires : goal.put_field-fourth-requires
put_field-fourth-requires c = let n = c.put_number-first.ensures in
    let p = c.put_field-second.ensures in
    let q = c.put_field-third.ensures in
    record { fits = omega (arith, c.requires.fits, head_length c.args.society c.args.job c.args.loss c.args.gap, n.next, puts_length n, p.next, puts_length p, q.next, puts_length q) }

pub put_field-requires : goal.put_field-requires
put_field-requires c = let n = c.put_number-first.ensures in
    let p = c.put_field-second.ensures in
    let q = c.put_field-third.ensures in
    let r = c.put_field-fourth.ensures in
    record { fits = omega (arith, c.requires.fits, head_length c.args.society c.args.job c.args.loss c.args.gap, n.next, puts_length n, p.next, puts_length p, q.next, puts_length q, r.next, puts_length r) }

pub returns : goal.returns
returns c = puts_then c.put_number-first.ensures (puts_then c.put_field-second.ensures (puts_then c.put_field-third.ensures (puts_then c.put_field-fourth.ensures c.put_field.ensures)))
