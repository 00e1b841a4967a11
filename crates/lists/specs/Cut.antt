-- Document 02, W-201: "comma-separated lines after RFC 4180". Lines are parted by CR LF and by nothing else, fields by commas.
use Rattle.std.specs.Prelude.{ℕ, zero, suc, ◌+◌, Bool, true, false, ◌&&◌, List, [], ◌∷◌, eqb, length, get_or, take, drop}
use Rattle.std.specs.Prelude.{if◌then◌else◌}

-- How many bytes stand before the first place at which a test holds; all of them, where it holds nowhere.
unfoldable pub length_to : (List ℕ → Bool) → List ℕ → ℕ
length_to test [] = 0
length_to test (b ∷ s) = if test (b ∷ s) then 0 else suc (length_to test s)

-- CR LF
abbrev pub line_end : List ℕ
line_end = 13 ∷ 10 ∷ []

-- CR LF, or a comma, comes next.
abbrev pub is_break : List ℕ → Bool
is_break s = eqb (get_or s 0 0) 13 && eqb (get_or s 1 0) 10

abbrev pub is_comma : List ℕ → Bool
is_comma s = eqb (get_or s 0 0) 44

-- The first line, and what comes after the CR LF that ends it.
abbrev pub line_in : List ℕ → List ℕ
line_in s = take (length_to is_break s) s

abbrev pub lines_after : List ℕ → List ℕ
lines_after s = drop (length_to is_break s + 2) s

-- The first field of a line, and what comes after the comma that ends it.
abbrev pub field_in : List ℕ → List ℕ
field_in s = take (length_to is_comma s) s

abbrev pub fields_after : List ℕ → List ℕ
fields_after s = drop (length_to is_comma s + 1) s

-- The lines of a text, at most so many. The last one may end in CR LF or not, and a text that ends in CR LF has no further line.
unfoldable pub lines_in : ℕ → List ℕ → List (List ℕ)
lines_in zero s = []
lines_in (suc most) [] = []
lines_in (suc most) (b ∷ s) = line_in (b ∷ s) ∷ lines_in most (lines_after (b ∷ s))

-- All its lines: there are no more of them than bytes.
abbrev pub lines_of : List ℕ → List (List ℕ)
lines_of s = lines_in (length s) s

-- Byte for byte the same.
unfoldable pub same_bytes : List ℕ → List ℕ → Bool
same_bytes [] [] = true
same_bytes [] (y ∷ ys) = false
same_bytes (x ∷ xs) [] = false
same_bytes (x ∷ xs) (y ∷ ys) = eqb x y && same_bytes xs ys
