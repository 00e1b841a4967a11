-- The parts of a line that functions put (`Puts` of `decimals`).
use Rattle.std.specs.Prelude.{ℕ, List, ◌++◌}
use Rattle.decimals.specs.Decimal.{decimal}
use Rattle.line.specs.Line.{field}

-- The fields of an accepted table's line before its values.
abbrev pub head_fields : (society job loss gap : ℕ) → List ℕ
head_fields society job loss gap = decimal 0 ++ (field society ++ (field job ++ (field loss ++ field gap)))
