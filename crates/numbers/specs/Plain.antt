-- Document 01, "Packs": "A number is groups of seven bits, lowest group first, the top bit of a byte set if another follows. Only the shortest
-- form is read, at most nine groups."
use Rattle.std.specs.Prelude.{ℕ, zero, suc, ◌+◌, ◌*◌, ◌/◌, ◌%◌, List, [], ◌∷◌, ltb, eqb, drop, Option, Some, None, if◌then◌else◌}
use Rattle.numbers.specs.declared.plain.Number.{Number}

-- A number v that was read, before the offset `next`.
abbrev pub found : (v next : ℕ) → Option Number
found v next = Some (record { value = v; next = next })

abbrev pub value_of : Option Number → ℕ
value_of (Some n) = n.value
value_of None = 0

-- A byte b with its top bit set, before the number that the later groups make: where those make 0, the form is not the shortest.
abbrev pub joined : ℕ → Option Number → Option Number
joined b (Some n) = if eqb n.value 0 then None else found (n.value * 128 + b % 128) n.next
joined b None = None

-- The number at the head of the bytes, in at most so many groups, with the offset after it; the first byte stands at the offset `at`.
unfoldable pub number_in : ℕ → List ℕ → ℕ → Option Number
number_in zero bytes at = None
number_in (suc groups) [] at = None
number_in (suc groups) (b ∷ bytes) at = if ltb b 128 then found b (at + 1) else joined b (number_in groups bytes (at + 1))

-- The number that starts at the offset `at` of the bytes s.
abbrev pub number_at : List ℕ → ℕ → Option Number
number_at s at = number_in 9 (drop at s) at

-- The shortest form of x, in at most so many groups.
unfoldable pub bytes_in : ℕ → ℕ → List ℕ
bytes_in zero x = []
bytes_in (suc groups) x = if ltb x 128 then x ∷ [] else (x % 128 + 128) ∷ bytes_in groups (x / 128)

-- The shortest form of x: ten groups hold every 64-bit number, nine every number below 2^63.
abbrev pub bytes_of : ℕ → List ℕ
bytes_of x = bytes_in 10 x

-- A last group b, after lower groups that come to `value`: it counts `scale` times. A 0 there is one group too many, unless it is the only one.
abbrev pub last_group : (b value scale next : ℕ) → Option Number
last_group b value scale next = if ltb 0 b then found (b * scale + value) next else if ltb 1 scale then None else found value next
