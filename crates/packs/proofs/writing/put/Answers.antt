-- No zeros after the numbers.
use Rattle.packs.proofs.Packing.{padded_none}
use Rattle.packs.proofs.writing.put.Goals as goal

pub returns : goal.returns
returns c = rw (← padded_none c.args.numbers.now) c.put_padded.ensures
