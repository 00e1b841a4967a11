-- Lists filled place by place.
use Rattle.std.specs.Prelude.{ℕ, zero, suc, ◌+◌, List, slice_set}

-- n places from i on hold f of their own number; the others are as they were.
unfoldable pub filled : {A : Type 0} → (ℕ → A) → (n i : ℕ) → List A → List A
filled f zero i xs = xs
filled f (suc n) i xs = filled f n (i + 1) (slice_set xs i (f i))
