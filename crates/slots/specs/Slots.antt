-- A society's span (document 01, "The shelf", with W-203's slots): c slots of w words each, and what is done to them. From any words.
use Rattle.std.specs.Prelude.{ℕ, zero, suc, ◌+◌, ◌-◌, ◌*◌, ◌/◌, ◌%◌, Bool, true, false, not, ◌&&◌, Option, Some, None, List, [], ◌∷◌, ◌++◌, eqb, leb, length, take, drop, get_or, replicate}

-- ---- a slot's words
-- a number of 64 bits as its low and high word
abbrev pub low_word : ℕ → ℕ
low_word x = x % 4294967296

abbrev pub high_word : ℕ → ℕ
high_word x = x / 4294967296

-- "01's six, the link count": n, job, F low and high word, G low and high, and the count of multipliers
abbrev pub head_of : (n job loss gap links : ℕ) → List ℕ
head_of n job loss gap links = n ∷ job ∷ low_word loss ∷ high_word loss ∷ low_word gap ∷ high_word gap ∷ links ∷ []

-- the words of a head, the most values and the most multipliers of a table
abbrev pub head_size : ℕ
head_size = 7

abbrev pub most_cells : ℕ
most_cells = 120

abbrev pub most_links : ℕ
most_links = 160

-- the word of a slot at which its multipliers start, after the values, and the words of a slot: 287
abbrev pub values_end : ℕ
values_end = head_size + most_cells

abbrev pub slot_words : ℕ
slot_words = values_end + most_links

-- words, and zeros after them up to k
abbrev pub padded : (k : ℕ) → List ℕ → List ℕ
padded k words = words ++ replicate (k - length words) 0

-- a slot of w words: "01's six, the link count, 120 values, 160 multipliers, unused ones 0"
unfoldable pub slot_of : (w job loss gap : ℕ) → (values multipliers : List ℕ) → List ℕ
slot_of w job loss gap values multipliers =
    head_of (length values) job loss gap (length multipliers) ++ (padded most_cells values ++ padded (w - values_end) multipliers)

-- ---- tests of the slot with which x begins
-- a first word outside 2..120 means empty
unfoldable pub is_full : List ℕ → Bool
is_full x = leb 2 (get_or x 0 0) && leb (get_or x 0 0) most_cells

unfoldable pub is_empty : List ℕ → Bool
unfolding is_full
is_empty x = not (is_full x)

-- an empty slot has no job
unfoldable pub has_job : ℕ → List ℕ → Bool
unfolding is_full
has_job job x = is_full x && eqb (get_or x 1 0) job

-- ---- the lowest slot that passes a test
abbrev pub pick : Bool → Option ℕ → Option ℕ → Option ℕ
pick true a b = a
pick false a b = b

-- one slot further on
abbrev pub later : Option ℕ → Option ℕ
later (Some p) = Some (suc p)
later None = None

unfoldable pub lowest : (List ℕ → Bool) → ℕ → ℕ → List ℕ → Option ℕ
lowest test w zero s = None
lowest test w (suc c) s = pick (test s) (Some 0) (later (lowest test w c (drop w s)))

-- f of the slot that was found, or else d
abbrev pub at_slot : {A : Type 0} → Option ℕ → (ℕ → A) → A → A
at_slot (Some p) f d = f p
at_slot None f d = d

-- ---- the moves
-- slot p becomes x
unfoldable pub put_slot : ℕ → ℕ → List ℕ → List ℕ → List ℕ
put_slot w p x s = take (w * p) s ++ (x ++ drop (w * (p + 1)) s)

-- the slots after p move down by one, and the last becomes zeros
unfoldable pub dropped_slot : ℕ → ℕ → List ℕ → List ℕ
dropped_slot w p s = take (w * p) s ++ (drop (w * (p + 1)) s ++ replicate w 0)

-- every slot moves down by one, and x is the last
unfoldable pub pushed : ℕ → List ℕ → List ℕ → List ℕ
pushed w x s = drop w s ++ x

-- where a table of that job goes: where the job is, else the lowest empty slot
abbrev pub or_else : Option ℕ → Option ℕ → Option ℕ
or_else (Some p) r = Some p
or_else None r = r

unfoldable pub slot_for : ℕ → ℕ → ℕ → List ℕ → Option ℕ
slot_for w c job s = or_else (lowest (has_job job) w c s) (lowest is_empty w c s)

-- ---- a span after a keep and after a forget
unfoldable pub kept_in : ℕ → ℕ → ℕ → List ℕ → List ℕ → List ℕ
kept_in w c job x s = at_slot (slot_for w c job s) (λ p. put_slot w p x s) (pushed w x s)

unfoldable pub forgot_in : ℕ → ℕ → ℕ → List ℕ → List ℕ
forgot_in w c job s = at_slot (lowest (has_job job) w c s) (λ p. dropped_slot w p s) s
