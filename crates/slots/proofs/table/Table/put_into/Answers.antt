-- The head, then the values, then the multipliers.
use native.Mathlib.Omega.{arith}
use Rattle.slots.specs.Slots.{slot_words}
use Rattle.slots.proofs.Stored.{table_is}
use Rattle.slots.proofs.table.Table.put_into.Goals as goal

pub returns : goal.returns
returns c = let head = c.put_head in
    let values = c.put_padded in
    let multipliers = c.put_padded-2 in
    let a = c.args in
    table_is slot_words a.slot.now c.requires (omega arith) a.self.job a.self.loss a.self.gap a.self.values.now a.self.multipliers.now a.self.values_few
    head.new.head head.ensures values.new.part values.ensures multipliers.new.part multipliers.ensures
