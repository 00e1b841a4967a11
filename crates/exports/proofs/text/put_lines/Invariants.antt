-- After some turns the lines of the rates passed stand there.
use Prim.Native.Nat.{◌+◌}
use mathlib.Core.Path.{◌≡◌}
use lib.ListN.{take}
use Rattle.decimals.specs.Puts.{Puts}
use Rattle.exports.specs.Exports.{export_lines}
use Rattle.exports.proofs.text.put_lines.Given as goal

abbrev pub invariant-loop-rate : goal.invariant-loop-rate
invariant-loop-rate l = (l.age ≡ l.first + l.rate-index) × Puts (export_lines l.first (take l.rate-index l.rates)) l.initial.out l.at l.next l.out
