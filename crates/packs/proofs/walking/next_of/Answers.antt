-- A number that was read is below 2^63.
use Rattle.packs.proofs.Along.{small_bytes}
use mathlib.Core.Path.{refl}
use Rattle.packs.proofs.walking.next_of.Goals as goal

pub returns-in-Pack : goal.returns-in-Pack
returns-in-Pack c = rw (c.in-Pack.is, c.ok_or.ensures.value, c.number_at.ensures) (refl, small_bytes c.in-Pack.pack.now c.args.at)
