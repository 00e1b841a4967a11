use mathlib.Core.Path.{refl}
use native.Mathlib.Omega.{arith}
use Rattle.numbers.proofs.Copies.{placed}
use Rattle.exports.proofs.text.put_bytes.Goals as goal

pub returns : goal.returns
returns c = let a = c.args in record { next = refl; stored = placed c.copy_from_slice.ensures.after a.out.now a.at _ c.requires.fits (omega arith) }
