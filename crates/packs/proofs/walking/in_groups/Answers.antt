-- A number is ten bytes at most, so the offset after it fits.
use Rattle.numbers.proofs.Bytes.{size_most}
use native.Mathlib.Omega.{arith}
use Rattle.packs.proofs.walking.in_groups.Goals as goal

pub overflow_add-next : goal.overflow_add-next
overflow_add-next c = omega (arith, c.size-size.ensures, size_most c.in_ok-value.value, c.requires)
