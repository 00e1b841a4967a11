-- A table as the words of the slot that keeps it.
use Rattle.std.specs.Prelude.{ℕ, List}
use Rattle.slots.specs.declared.table.Table.{Table}
use Rattle.slots.specs.Slots.{slot_words, slot_of}

abbrev pub words_of : Table → List ℕ
words_of t = slot_of slot_words t.job t.loss t.gap t.values.now t.multipliers.now
