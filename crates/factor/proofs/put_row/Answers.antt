use native.Mathlib.Omega.{arith}
use Rattle.factor.proofs.Turns.{put_all}
use Rattle.factor.proofs.put_row.Goals as goal

pub returns : goal.returns
returns c = put_all c.args.l.now c.args.row.now c.copy_from_slice.new.self c.args.at _ c.requires c.copy_from_slice.ensures.after (omega arith)
