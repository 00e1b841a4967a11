-- What C sees of a sequence of the exported calls on a shelf: of each call the number returned, its answer slice and its output. A call is made with
-- what is sent and with the slices that are lent beside the shelf.
use Rattle.std.specs.Prelude.{ℕ, ◌≡◌, cond, List, [], ◌∷◌, length}
use Rattle.std.specs.Prelude.{if◌then◌else◌}
use Rattle.checked.specs.Answers.{Reply, overwritten}
use Rattle.shelf.specs.Calls.{Own, Call, keep, fetch, forget, own, clear, names, names_other}
use Rattle.bench.specs.Answers.{has_four, returned_for, written_for, left_for}
use Rattle.bench.specs.Calls.{ShelfSays, FetchSays}
use Rattle.claims.specs.Lists.{Kept, kept_after, kept_say}

-- ---- a call that is made, and what is seen of it
pub data Made : Type 0 where
  keeps : (job proposal answer : List ℕ) → Made
  fetches : (job out answer : List ℕ) → Made
  forgets : (society job : ℕ) (answer : List ℕ) → Made
  clears : (counts answer : List ℕ) → Made

-- the call, the answer slice and the output that it is made with; only a fetch has an output
abbrev pub call_of : Made → Call
call_of (keeps job proposal answer) = own (keep job proposal)
call_of (fetches job out answer) = own (fetch job (length out))
call_of (forgets society job answer) = own (forget society job)
call_of (clears counts answer) = clear counts

abbrev pub answer_lent : Made → List ℕ
answer_lent (keeps job proposal answer) = answer
answer_lent (fetches job out answer) = answer
answer_lent (forgets society job answer) = answer
answer_lent (clears counts answer) = answer

abbrev pub out_lent : Made → List ℕ
out_lent (keeps job proposal answer) = []
out_lent (fetches job out answer) = out
out_lent (forgets society job answer) = []
out_lent (clears counts answer) = []

pub record Seen : Type 0 where
  pub returned : ℕ
  pub answered : List ℕ
  pub out : List ℕ

-- ---- as the contracts say
-- One call on a shelf: the claim that its contract cites, of what is seen and of the shelf that is left. A fetch is lent the shelf to read it alone.
abbrev pub Makes : Made → (shelf : List ℕ) → Seen → (left : List ℕ) → Type 0
Makes (fetches job out answer) shelf seen left = FetchSays shelf job out answer seen.returned seen.answered seen.out × (left ≡ shelf)
Makes (keeps job proposal answer) shelf seen left = ShelfSays (own (keep job proposal)) shelf answer seen.returned seen.answered left × (seen.out ≡ [])
Makes (forgets society job answer) shelf seen left = ShelfSays (own (forget society job)) shelf answer seen.returned seen.answered left × (seen.out ≡ [])
Makes (clears counts answer) shelf seen left = ShelfSays (clear counts) shelf answer seen.returned seen.answered left × (seen.out ≡ [])

-- A sequence of them, each on the shelf that the one before has left.
abbrev pub MakesAll : List Made → (shelf : List ℕ) → List Seen → Type 0
MakesAll [] shelf seen = seen ≡ []
MakesAll (made ∷ mades) shelf [] = ⊥
MakesAll (made ∷ mades) shelf (seen ∷ seens) = (left : List ℕ) × Makes made shelf seen left × MakesAll mades left seens

-- ---- as eight lists say
-- a reply as C sees it
abbrev pub seen_of : Made → Reply → Seen
seen_of made reply = record {
  returned = returned_for (answer_lent made) reply.answer;
  answered = written_for (answer_lent made) reply.answer;
  out = left_for (answer_lent made) (out_lent made) (overwritten (out_lent made) reply.values);
}

-- a call whose answer slice has another length than four does nothing
abbrev pub lists_left : Kept → Made → Kept
lists_left k made = if has_four (answer_lent made) then kept_after k (call_of made) else k

abbrev pub lists_seen : Kept → List Made → List Seen
lists_seen k [] = []
lists_seen k (made ∷ mades) = seen_of made (kept_say k (call_of made)) ∷ lists_seen (lists_left k made) mades

-- ---- one society's calls
-- the calls made without those that name another society
abbrev pub without_others : (society : ℕ) → List Made → List Made
without_others society [] = []
without_others society (made ∷ mades) = cond (names_other society (call_of made)) (without_others society mades) (made ∷ without_others society mades)

-- what is seen of the calls that name the society
abbrev pub own_seen : (society : ℕ) → List Made → List Seen → List Seen
own_seen society [] seens = []
own_seen society (made ∷ mades) [] = []
own_seen society (made ∷ mades) (seen ∷ seens) = cond (names society (call_of made)) (seen ∷ own_seen society mades seens) (own_seen society mades seens)

-- the calls made that name the society, and that none of the calls made is a clearing
abbrev pub own_made : (society : ℕ) → List Made → List Made
own_made society [] = []
own_made society (made ∷ mades) = cond (names society (call_of made)) (made ∷ own_made society mades) (own_made society mades)

abbrev pub NoClearing : List Made → Type 0
NoClearing [] = Unit {0}
NoClearing (made ∷ mades) = (call : Own) × (call_of made ≡ own call) × NoClearing mades
