-- What is promised of the thirteen calls over C, whatever they are lent: short statements about the claims that their contracts cite. The proof of each
-- stands in proofs/BenchPromises.antt.
use Rattle.std.specs.Prelude.{ℕ, ◌+◌, ◌*◌, ◌/◌, ◌%◌, ◌≤◌, ◌<◌, ◌≡◌, ◌⊎◌, true, List, [], ◌∷◌, ℤ, pos, length, drop, get_or}
use Rattle.whole.specs.Sum.{sum}
use Rattle.std.specs.Prelude.{if◌then◌else◌}
use Rattle.jobs.specs.Words.{word_at}
use Rattle.jobs.specs.Packs.{job_in}
use Rattle.tally.specs.Largest.{Largest}
use Rattle.measure.specs.Gap.{link_term_of}
use Rattle.measure.specs.Check.{accepting, check_of}
use Rattle.imports.specs.declared.Given.{Given}
use Rattle.counts.specs.Counts.{passed, shelf_words, count_in, test_row, row_in, Ready}
use Rattle.shelf.specs.Calls.{Call, own, keep, forget, clear}
use Rattle.bench.specs.Answers.{has_four}
use Rattle.bench.specs.Calls.{CheckSays, TermsSays, ProposeSays, ProposeLinkedSays, ReadSays, WriteSays, ImportSays, ExportSays, RatesSays, ShelfSays, FetchSays}
use Rattle.claims.specs.Read.{values_in, multipliers_in, gap_in}
use Rattle.claims.specs.Meets.{NoneBelow}
use Rattle.claims.specs.Far.{NoneFar}
use Rattle.claims.specs.Verdicts.{CellTold}
use Rattle.claims.specs.Lists.{emptied}
use Rattle.claims.specs.LastKept.{ClearedWith}
use Rattle.claims.specs.Seen.{Made, clears, Seen, MakesAll, lists_seen, without_others, own_seen, own_made, NoClearing}
use Rattle.std.specs.Prelude.{Err}
use Rattle.refusals.specs.declared.Refusal.TheVariants.{GapAbove}

-- What a call may claim of the number that it returns, of its answer slice, and of the slice that it writes to.
abbrev pub Claim : Type 0 → Type 1
Claim A = (returned : ℕ) (answered : List ℕ) (left : List A) → Type 0

-- What holds of every call, each with its answer slice and with what was in the slice that it writes to. The check writes to its answer alone.
pub record OfEachCall (holds : (A : Type 0) (answer : List ℕ) (before : List A) → Claim A → Type 0) : Type 0 where
  pub check : (job proposal answer : List ℕ) → holds ℕ answer [] (λ r a left. CheckSays job proposal answer r a × (left ≡ []))
  pub terms : (job proposal : List ℕ) (out : List ℤ) (answer : List ℕ) → holds ℤ answer out (TermsSays job proposal out answer)
  pub propose : (job out answer : List ℕ) → holds ℕ answer out (ProposeSays job out answer)
  pub propose_linked : (job : List ℕ) (passes : ℕ) (out answer : List ℕ) → holds ℕ answer out (ProposeLinkedSays job passes out answer)
  pub read : (job : List ℕ) (words : List ℤ) (answer : List ℕ) → holds ℤ answer words (ReadSays job words answer)
  pub write : (words : List ℤ) (out answer : List ℕ) → holds ℕ answer out (WriteSays words out answer)
  pub from_list : (g : Given) (text out answer : List ℕ) → holds ℕ answer out (ImportSays g text out answer)
  pub to_list : (rates : List ℕ) (first : ℕ) (out answer : List ℕ) → holds ℕ answer out (ExportSays rates first out answer)
  pub rates : (text out answer : List ℕ) → holds ℕ answer out (RatesSays text out answer)
  pub on_shelf : (call : Call) (shelf answer : List ℕ) → holds ℕ answer shelf (ShelfSays call shelf answer)
  pub fetch : (shelf job out answer : List ℕ) → holds ℕ answer out (FetchSays shelf job out answer)

-- ---- determined

-- "two results fitting one claim are proved equal": the number returned, and every lent word afterwards.
abbrev pub OneResult : (A : Type 0) (answer : List ℕ) (before : List A) → Claim A → Type 0
OneResult A answer before claim =
    (r s : ℕ) (a b : List ℕ) (x y : List A) → claim r a x → claim s b y → (r ≡ s) × (a ≡ b) × (x ≡ y)

abbrev pub Determined : Type 0
Determined = OfEachCall OneResult

-- ---- numbers

-- The number is one of the others, or at most so much.
abbrev pub Among : (others : List ℕ) (most : ℕ) → ℕ → Type 0
Among [] most number = number ≤ most
Among (other ∷ others) most number = (number ≡ other) ⊎ Among others most number

-- "Every refusal has a number and a place": of what is returned the remainder by 32 is the number, and the quotient is the place.
abbrev pub NumberIn : (others : List ℕ) (most : ℕ) {A : Type 0} → Claim A → Type 0
NumberIn others most {A} claim = (r : ℕ) (a : List ℕ) (x : List A) → claim r a x → Among others most (r % 32)

-- Each call gives the numbers that the table of document 01, with 20 of document 02 (W-205), W-203's for a fetch, 22 of W-209 and 14 and 21 of W-207, has
-- for it, and no other: a fetch never gives 11, and the terms (W-202) never 9.
pub record Numbered : Type 0 where
  pub check : (job proposal answer : List ℕ) (r : ℕ) (a : List ℕ) → CheckSays job proposal answer r a → Among (13 ∷ []) 9 (r % 32)
  pub terms : (job proposal : List ℕ) (out : List ℤ) (answer : List ℕ) → NumberIn (13 ∷ []) 8 (TermsSays job proposal out answer)
  pub propose : (job out answer : List ℕ) → NumberIn (10 ∷ 13 ∷ 20 ∷ []) 5 (ProposeSays job out answer)
  pub propose_linked : (job : List ℕ) (passes : ℕ) (out answer : List ℕ) → NumberIn (10 ∷ 13 ∷ 14 ∷ 20 ∷ 21 ∷ []) 5 (ProposeLinkedSays job passes out answer)
  pub read : (job : List ℕ) (words : List ℤ) (answer : List ℕ) → NumberIn (13 ∷ []) 5 (ReadSays job words answer)
  pub write : (words : List ℤ) (out answer : List ℕ) → NumberIn (13 ∷ []) 5 (WriteSays words out answer)
  pub from_list : (g : Given) (text out answer : List ℕ) → NumberIn (2 ∷ 3 ∷ 4 ∷ 13 ∷ 16 ∷ 17 ∷ 18 ∷ 19 ∷ []) 0 (ImportSays g text out answer)
  pub to_list : (rates : List ℕ) (first : ℕ) (out answer : List ℕ) → NumberIn (2 ∷ 13 ∷ []) 0 (ExportSays rates first out answer)
  pub rates : (text out answer : List ℕ) → NumberIn (2 ∷ 13 ∷ 16 ∷ 17 ∷ []) 0 (RatesSays text out answer)
  pub keep : (job proposal shelf answer : List ℕ) → NumberIn (13 ∷ 22 ∷ []) 9 (ShelfSays (own (keep job proposal)) shelf answer)
  pub fetch : (shelf job out answer : List ℕ) → NumberIn (12 ∷ 13 ∷ 22 ∷ []) 9 (FetchSays shelf job out answer)
  pub forget : (society job : ℕ) (shelf answer : List ℕ) → NumberIn (11 ∷ 12 ∷ 13 ∷ 22 ∷ []) 0 (ShelfSays (own (forget society job)) shelf answer)
  pub clear : (counts shelf answer : List ℕ) → NumberIn (13 ∷ 22 ∷ []) 0 (ShelfSays (clear counts) shelf answer)

-- ---- refusals

-- "A refusal changes no lent word or byte, that answer slice excepted", and there number and place are told, and F and G are 0; an answer slice of
-- another length is not written to.
pub record Untouched {A : Type 0} (answer : List ℕ) (before : List A) (returned : ℕ) (answered : List ℕ) (left : List A) : Type 0 where
  pub lent : left ≡ before
  pub told : answered ≡ (if has_four answer then returned % 32 ∷ returned / 32 ∷ 0 ∷ 0 ∷ [] else answer)

abbrev pub RefusalKept : (A : Type 0) (answer : List ℕ) (before : List A) → Claim A → Type 0
RefusalKept A answer before claim = (r : ℕ) (a : List ℕ) (x : List A) → claim r a x → (r % 32 ≡ 0 → ⊥) → Untouched answer before r a x

abbrev pub RefusalsKept : Type 0
RefusalsKept = OfEachCall RefusalKept

-- ---- outputs

-- What holds of every call that writes to an output.
pub record OfEachOutput (holds : (A : Type 0) (answer : List ℕ) (before : List A) → Claim A → Type 0) : Type 0 where
  pub terms : (job proposal : List ℕ) (out : List ℤ) (answer : List ℕ) → holds ℤ answer out (TermsSays job proposal out answer)
  pub propose : (job out answer : List ℕ) → holds ℕ answer out (ProposeSays job out answer)
  pub propose_linked : (job : List ℕ) (passes : ℕ) (out answer : List ℕ) → holds ℕ answer out (ProposeLinkedSays job passes out answer)
  pub read : (job : List ℕ) (words : List ℤ) (answer : List ℕ) → holds ℤ answer words (ReadSays job words answer)
  pub write : (words : List ℤ) (out answer : List ℕ) → holds ℕ answer out (WriteSays words out answer)
  pub from_list : (g : Given) (text out answer : List ℕ) → holds ℕ answer out (ImportSays g text out answer)
  pub to_list : (rates : List ℕ) (first : ℕ) (out answer : List ℕ) → holds ℕ answer out (ExportSays rates first out answer)
  pub rates : (text out answer : List ℕ) → holds ℕ answer out (RatesSays text out answer)
  pub fetch : (shelf job out answer : List ℕ) → holds ℕ answer out (FetchSays shelf job out answer)

-- "A success leaves output beyond what it writes untouched": beyond the place, which is how much it wrote.
abbrev pub RestKept : (A : Type 0) (answer : List ℕ) (before : List A) → Claim A → Type 0
RestKept A answer before claim = (r : ℕ) (a : List ℕ) (x : List A) → claim r a x → r % 32 ≡ 0 → drop (r / 32) x ≡ drop (r / 32) before

abbrev pub RestsKept : Type 0
RestsKept = OfEachOutput RestKept

-- ---- what is told of an accepted table

-- The words of an answer are 0, the place, F and G: the check accepts with just these, no table that meets the job has a loss below F - G, and every one
-- whose loss is not above F is close to the proposal's values (W-208).
pub record ToldBest (job proposal : List ℕ) (place : ℕ) (answered : List ℕ) : Type 0 where
  pub F : ℕ
  pub G : ℕ
  pub words : answered ≡ 0 ∷ place ∷ F ∷ G ∷ []
  pub accepted : check_of job proposal ≡ accepting (pos F) (pos G)
  pub best : NoneBelow (job_in job) (pos F) (pos G)
  pub close : NoneFar (job_in job) (values_in job proposal) (pos F) (pos G)

-- The first n words that a fetch leaves in its output, n being its place, are the values of some proposal for the job presented, and this is told of it;
-- tables that are as good are close to these words.
pub record ToldFetched (job answered left : List ℕ) : Type 0 where
  pub proposal : List ℕ
  pub told : ToldBest job proposal (job_in job).cells answered
  pub room : (job_in job).cells ≤ length left
  pub values : (i : ℕ) → i < (job_in job).cells → pos (get_or left i 0) ≡ values_in job proposal i
  pub close : NoneFar (job_in job) (λ i. pos (get_or left i 0)) (pos told.F) (pos told.G)

-- So it is wherever check, keep or fetch returns the number 0, whatever words are on the shelf.
pub record AcceptedTold : Type 0 where
  pub check : (job proposal answer : List ℕ) (r : ℕ) (a : List ℕ) → CheckSays job proposal answer r a → r % 32 ≡ 0 → ToldBest job proposal 0 a
  pub keep : (job proposal shelf answer : List ℕ) (r : ℕ) (a x : List ℕ) → ShelfSays (own (keep job proposal)) shelf answer r a x → r % 32 ≡ 0 → ToldBest job proposal 0 a
  pub fetch : (shelf job out answer : List ℕ) (r : ℕ) (a x : List ℕ) → FetchSays shelf job out answer r a x → r % 32 ≡ 0 → ToldFetched job a x

-- ---- what is told of a table that is not

-- W-202: a keep on a shelf that has its words and allowed counts returns and answers what the check does, word for word: the place of 9 too. Of a fetch
-- `FetchedAsChecked` says it.
abbrev pub KeptAsChecked : Type 0
KeptAsChecked =
    (job proposal shelf answer : List ℕ) → Ready shelf → (r s : ℕ) (a b x : List ℕ)
    → CheckSays job proposal answer r a → ShelfSays (own (keep job proposal)) shelf answer s b x → (r ≡ s) × (a ≡ b)

-- W-202: "term, residual (0 for a link), side (0 box, 1 weight, 2 link)". Over all places the terms sum to the gap, a whole number of any size, and where
-- the check answers 9, the largest of them stands at the place that it names, the lowest if several are equal.
pub record TermsTold (job proposal : List ℕ) (left : List ℤ) : Type 0 where
  pub cell : (i : ℕ) → i < (job_in job).cells
      → CellTold (job_in job) (values_in job proposal) (multipliers_in job proposal) i (word_at left (3 * i)) (word_at left (3 * i + 1)) (word_at left (3 * i + 2))
  pub link : (l : ℕ) → l < (job_in job).links
      → (word_at left (3 * ((job_in job).cells + l)) ≡ link_term_of (job_in job) (values_in job proposal) (multipliers_in job proposal) l)
      × (word_at left (3 * ((job_in job).cells + l) + 1) ≡ pos 0) × (word_at left (3 * ((job_in job).cells + l) + 2) ≡ pos 2)
  pub sums : sum ((job_in job).cells + (job_in job).links) (λ place. word_at left (3 * place)) ≡ gap_in job proposal
  pub largest : (place : ℕ) → check_of job proposal ≡ Err (GapAbove place) → Largest (λ p. word_at left (3 * p)) ((job_in job).cells + (job_in job).links) place

-- So it is wherever the call returns the number 0.
abbrev pub TermsHanded : Type 0
TermsHanded =
    (job proposal : List ℕ) (out : List ℤ) (answer : List ℕ) (r : ℕ) (a : List ℕ) (x : List ℤ) → TermsSays job proposal out answer r a x → r % 32 ≡ 0
    → TermsTold job proposal x

-- ---- sequences

-- From a cleared shelf, any sequence of calls answers as eight separate lists would, each of at most as many tables as its society's count: a shelf of any
-- words is cleared with counts that are allowed, and then whatever sequence of the calls is made, further clearings included; what C sees of each, the
-- number returned, the answer slice and the output, is what the lists say.
abbrev pub EightListsSeen : Type 0
EightListsSeen =
    (shelf counts answer : List ℕ) → length shelf ≡ shelf_words → test_row (row_in counts) ≡ passed → has_four answer ≡ true → (mades : List Made) (seens : List Seen)
    → MakesAll (clears counts answer ∷ mades) shelf seens → seens ≡ lists_seen (emptied counts) (clears counts answer ∷ mades)

-- From any words: what C sees of one society's calls is the same if every call that names another society is left out.
abbrev pub NoNeighbourSeen : Type 0
NoNeighbourSeen =
    (society : ℕ) (mades : List Made) (shelf : List ℕ) (seens fewer : List Seen)
    → MakesAll mades shelf seens → MakesAll (without_others society mades) shelf fewer
    → own_seen society mades seens ≡ own_seen society (without_others society mades) fewer

-- "its answers depend only on its own calls since the last clearing and that count": two shelves of any words are cleared, each with counts that are
-- allowed and that give the society one count, and then calls are made, no clearing among them, of which those that name the society are the same, with
-- the same slices. What C sees of these is the same, whatever the other societies' counts and calls are.
abbrev pub OwnCallsSeen : Type 0
OwnCallsSeen =
    (society : ℕ) → society ≤ 7 → (counts others xs ys : List ℕ) → ClearedWith counts xs → ClearedWith others ys
    → count_in (row_in counts) society ≡ count_in (row_in others) society
    → (mades more : List Made) → NoClearing mades → NoClearing more → own_made society mades ≡ own_made society more
    → (seens others-seen : List Seen) → MakesAll mades xs seens → MakesAll more ys others-seen
    → own_seen society mades seens ≡ own_seen society more others-seen
