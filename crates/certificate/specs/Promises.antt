-- The promises of this crate, each a short statement of the definitions beside it. Their proofs stand in proofs/: `lower_bound : LowerBound`.
use Rattle.std.specs.Prelude.{ℕ, suc, ◌+◌, ◌*◌, ◌≤◌, ◌<◌, ◌≡◌, ◌≢◌, ℤ, pos, nat_abs, ◌+ℤ◌, ◌-ℤ◌, ◌*ℤ◌, ◌≤ℤ◌}
use Rattle.whole.specs.Sum.{sum}
use Rattle.certificate.specs.Problem.{Problem, loss, scaled_loss, link_term, gap, Meets}
use Rattle.certificate.specs.Terms.{box_term, cell_term, terms, Covers, NotNegative, Certified}
use Rattle.certificate.specs.Differences.{Family, Inside, Consecutive, difference, coefficient, returned, used_with, gathered}
use Rattle.certificate.specs.Far.{off_by, farness, Reaches}

-- ---- the certificate

-- No table that meets the problem, fractions included, has a loss below F - G.
abbrev pub LowerBound : Type 0
LowerBound =
    (P : Problem) (v y t : ℕ → ℤ) → Certified P v y t → (d : ℤ) (X : ℕ → ℤ) → pos 1 ≤ℤ d → Meets P d X
    → (d *ℤ d *ℤ (loss P v -ℤ gap P v y t)) ≤ℤ scaled_loss P d X

-- The rule's cell terms are a certificate, whatever the table.
abbrev pub RuleCertifies : Type 0
RuleCertifies = (limit : ℕ) (P : Problem) (v y : ℕ → ℤ) → NotNegative P y → Certified P v y (terms limit P v y)

-- Up to the limit they are the least that cover their cells, and beyond it they are the box terms: so no term is larger than it has to be.
abbrev pub RuleIsLeast : Type 0
RuleIsLeast = (limit : ℕ) (w r lo hi v t : ℤ) → nat_abs r ≤ limit → Covers w r lo hi v t → cell_term limit w r lo hi v ≤ℤ t

abbrev pub BoxBeyondLimit : Type 0
BoxBeyondLimit = (limit : ℕ) (w r lo hi v : ℤ) → limit < nat_abs r → cell_term limit w r lo hi v ≡ box_term r lo hi v

-- No cell term is negative for a value in its box. For a table that meets bounds and links no link term is, and so the gap is not.
abbrev pub CellTermsNotNegative : Type 0
CellTermsNotNegative = (limit : ℕ) (w r lo hi v : ℤ) → lo ≤ℤ v → v ≤ℤ hi → pos 0 ≤ℤ cell_term limit w r lo hi v

abbrev pub LinkTermsNotNegative : Type 0
LinkTermsNotNegative = (P : Problem) (v y : ℕ → ℤ) → NotNegative P y → Meets P (pos 1) v → (j : ℕ) → j < P.p → pos 0 ≤ℤ link_term P v y j

abbrev pub GapNotNegative : Type 0
GapNotNegative = (limit : ℕ) (P : Problem) (v y : ℕ → ℤ) → NotNegative P y → Meets P (pos 1) v → pos 0 ≤ℤ gap P v y (terms limit P v y)

-- The loss of X / d times d² is what its name says: that of v / 1 is the loss of v, and kX / kd is the same table as X / d.
abbrev pub ScaledByOne : Type 0
ScaledByOne = (P : Problem) (v : ℕ → ℤ) → scaled_loss P (pos 1) v ≡ loss P v

abbrev pub ScaledAlike : Type 0
ScaledAlike = (P : Problem) (k d : ℤ) (X : ℕ → ℤ) → scaled_loss P (k *ℤ d) (λ i. k *ℤ X i) ≡ k *ℤ k *ℤ scaled_loss P d X

-- ---- how far off a rate can be

-- W-208: a table that meets the problem and whose loss is not above that of a certified table v, which meets it too, is off from v by at most 4G, which is
-- 4G·d² for X and d·v.
abbrev pub NoneFar : Type 0
NoneFar =
    (P : Problem) (v y t : ℕ → ℤ) → Certified P v y t → Meets P (pos 1) v → (d : ℤ) (X : ℕ → ℤ) → pos 1 ≤ℤ d → Meets P d X
    → scaled_loss P d X ≤ℤ (d *ℤ d *ℤ loss P v) → farness P (off_by d X v) ≤ℤ (pos 4 *ℤ gap P v y t *ℤ (d *ℤ d))

-- Where the farness is at most `most`, no rate is off by more than an r that reaches.
abbrev pub NoRateFar : Type 0
NoRateFar =
    (P : Problem) (v y : ℕ → ℤ) → NotNegative P y → (most d : ℤ) (X : ℕ → ℤ) → pos 1 ≤ℤ d → Meets P d X
    → farness P (off_by d X v) ≤ℤ (most *ℤ (d *ℤ d))
    → (i : ℕ) → i < P.n → (r : ℕ) → Reaches (P.w i) (P.lo i) (P.hi i) (v i) most r → pos (nat_abs (off_by d X v i)) ≤ℤ (d *ℤ pos r)

-- ---- differences

-- A difference inside n cells is the linear form of its coefficients.
abbrev pub DifferenceIsForm : Type 0
DifferenceIsForm =
    (F : Family) (n f : ℕ) (x : ℕ → ℤ) → F.start f + F.order * F.stride < n
    → sum n (λ i. coefficient F f i *ℤ x i) ≡ difference F x f

-- Its coefficients are the row's, each at its place, and 0 elsewhere.
abbrev pub CoefficientAtPlace : Type 0
CoefficientAtPlace = (F : Family) (f m : ℕ) → 1 ≤ F.stride → m ≤ F.order → coefficient F f (F.start f + m * F.stride) ≡ F.row m

abbrev pub CoefficientElsewhere : Type 0
CoefficientElsewhere = (F : Family) (f i : ℕ) → ((m : ℕ) → m ≤ F.order → i ≢ F.start f + m * F.stride) → coefficient F f i ≡ pos 0

-- Numbers p times the differences are what the cells get back times their values.
abbrev pub ExchangedSums : Type 0
ExchangedSums =
    (F : Family) (n : ℕ) (p x : ℕ → ℤ) → Inside F n
    → sum F.count (λ f. p f *ℤ difference F x f) ≡ sum n (λ i. returned F p i *ℤ x i)

-- A cell gets back, for each coefficient, what comes from the differences that use it so; with consecutive starts that is one number each.
abbrev pub ReturnedByRow : Type 0
ReturnedByRow = (F : Family) (p : ℕ → ℤ) (i : ℕ) → returned F p i ≡ sum (suc F.order) (λ m. F.row m *ℤ used_with F p i m)

abbrev pub ReturnedIsGathered : Type 0
ReturnedIsGathered = (F : Family) (p : ℕ → ℤ) (i : ℕ) → Consecutive F → returned F p i ≡ gathered F p i

-- A row whose coefficients come to 0 does not see a shift of all values.
abbrev pub ShiftUnseen : Type 0
ShiftUnseen =
    (F : Family) (x : ℕ → ℤ) (c : ℤ) (f : ℕ) → sum (suc F.order) F.row ≡ pos 0
    → difference F (λ i. x i +ℤ c) f ≡ difference F x f
