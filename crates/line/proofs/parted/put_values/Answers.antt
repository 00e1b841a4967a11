use native.Mathlib.Omega.{arith}
use Rattle.line.proofs.Parts.{put_none}
use Rattle.line.proofs.Rates.{rate_count, room_rate, put_rate, put_rates_all}
use Rattle.line.proofs.parted.put_values.Goals as goal

pub loop-i-init : goal.loop-i-init
loop-i-init c = put_none c.args.out.now c.args.at

pub count_at-requires : goal.count_at-requires
count_at-requires c = rate_count c.requires.0 c.loop-i.i (omega arith)

pub put_field-next-requires : goal.put_field-next-requires
put_field-next-requires c = let l = c.loop-i in
    room_rate c.requires.0 l.i (omega arith) c.count_at.result c.count_at.ensures l.invariant c.requires.1

pub loop-i-preserved : goal.loop-i-preserved
loop-i-preserved c = let l = c.loop-i in
    put_rate c.requires.0 l.i (omega arith) c.count_at.result c.count_at.ensures l.invariant c.put_field-next.ensures

pub returns : goal.returns
returns c = put_rates_all c.requires.0 c.loop-i.i (omega arith) c.loop-i.invariant
