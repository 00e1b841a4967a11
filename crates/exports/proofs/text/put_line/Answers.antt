-- Two numbers with a comma between them, and CR LF after them.
use mathlib.Core.List.{[], ◌∷◌, ◌++◌}
use Rattle.decimals.proofs.Stores.{puts_then, room_first, room_then}
use Rattle.decimals.specs.Decimal.{decimal}
use Rattle.lists.specs.Cut.{line_end}
use Rattle.exports.proofs.text.put_line.Goals as goal

pub put_number-comma-requires : goal.put_number-comma-requires
put_number-comma-requires c = let a = c.args in room_first (decimal a.age) ((44 ∷ []) ++ (decimal a.rate ++ line_end)) c.requires

pub put_bytes-value-requires : goal.put_bytes-value-requires
put_bytes-value-requires c = let a = c.args in room_first (44 ∷ []) (decimal a.rate ++ line_end) (room_then c.put_number-comma.ensures c.requires)

pub put_number-end-requires : goal.put_number-end-requires
put_number-end-requires c = let a = c.args in room_first (decimal a.rate) line_end (room_then c.put_bytes-value.ensures (room_then c.put_number-comma.ensures c.requires))

pub put_bytes-requires : goal.put_bytes-requires
put_bytes-requires c = room_then c.put_number-end.ensures (room_then c.put_bytes-value.ensures (room_then c.put_number-comma.ensures c.requires))

pub returns : goal.returns
returns c = puts_then c.put_number-comma.ensures (puts_then c.put_bytes-value.ensures (puts_then c.put_number-end.ensures c.put_bytes.ensures))
