-- What a signed local reads back as, for numbers in their ranges.
use mathlib.Core.Path.{◌≡◌, refl}
use lib.Dec.{lit<}
use lib.IntN.{ℤ}
use mir.Syntax.{w64}
use mir.Val.{SFits, to_z, of_z}
use Rattle.whole.proofs.Fits.{small_fits, gives}
use Rattle.jobs.specs.Allowed.{Upto}

-- what a signed local holds
abbrev pub read : ℤ → ℤ
read z = to_z w64 (of_z w64 z)

rate_fits : {z : ℤ} → Upto 1000000 z → SFits w64 z
rate_fits {z} h = small_fits z h.small (lit< tt)

pub rate_read : {z : ℤ} → Upto 1000000 z → read z ≡ z
rate_read h = gives refl (rate_fits h)

pub weight_read : {z : ℤ} → Upto 1000 z → read z ≡ z
weight_read {z} h = gives refl (small_fits z h.small (lit< tt))

pub multiplier_read : {z : ℤ} → Upto 1000000000 z → read z ≡ z
multiplier_read {z} h = gives refl (small_fits z h.small (lit< tt))

pub tolerance_fits : {z : ℤ} → Upto 1000000000000000 z → SFits w64 z
tolerance_fits {z} h = small_fits z h.small (lit< tt)
