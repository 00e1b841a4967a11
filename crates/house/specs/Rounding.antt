-- Rounding out (document 01, "The house proposal"): "lo if v is not above lo; else hi if v is not below hi; else the nearest whole number, halves up."
use Rattle.std.specs.Prelude.{ℕ, ◌+◌, ◌*◌, ◌/◌, pos, Float}
use Rattle.std.specs.Float.{nan, inf, fin, binary64}
use Rattle.std.specs.Float.Ieee.{up, down, lt, of_int}
use Rattle.std.specs.Prelude.{if◌then◌else◌}

-- "the nearest whole number, halves up", worked out exactly: a v that is finite and not negative is the fraction m · up e / down e, and this is
-- v + 1/2 without its fraction. It is asked only of a v within a box.
unfoldable pub nearest_up : Float → ℕ
nearest_up nan = 0
nearest_up (inf s) = 0
nearest_up (fin s m e) = if s then 0 else (m * up e * 2 + down e) / (down e * 2)

-- A NaN is above nothing, so it gives lo.
unfoldable pub rounded_out : (lo hi : ℕ) → Float → ℕ
unfolding nearest_up
rounded_out lo hi v = if lt (of_int binary64 (pos lo)) v then if lt v (of_int binary64 (pos hi)) then nearest_up v else hi else lo
