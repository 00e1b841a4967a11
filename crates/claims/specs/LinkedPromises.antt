-- What is promised of the proposal that honours links at the call over C (W-207), whatever it is lent: what `linked` promises, told by the number that is
-- returned and by the words that are left. The proof of each stands in proofs/LinkedPromises.antt.
use Rattle.std.specs.Prelude.{ℕ, ◌+◌, ◌*◌, ◌/◌, ◌%◌, ◌≤◌, ◌≡◌, true, List, [], ◌∷◌, take}
use Rattle.jobs.specs.Packs.{job_in}
use Rattle.linked.specs.Proposal.{most_passes}
use Rattle.linked.specs.Promises.{FirstAccepted, NoneAccepted}
use Rattle.bench.specs.Answers.{has_four}
use Rattle.bench.specs.Calls.{CheckSays, ProposeLinkedSays}
use Rattle.claims.specs.BenchPromises.{ToldBest}

-- The answer has the count of passes in the place of F, and that is the first accepted pass of the sequence; the check, asked about the pack, accepts it, and
-- tells of it what it tells of every table.
pub record LinkedTold (job : List ℕ) (passes place : ℕ) (answered pack : List ℕ) : Type 0 where
  pub count : ℕ
  pub words : answered ≡ 0 ∷ place ∷ count ∷ 0 ∷ []
  pub first : FirstAccepted (job_in job) passes count
  pub checked : (answer : List ℕ) (r : ℕ) (a : List ℕ) → CheckSays job pack answer r a → has_four answer ≡ true → (r ≡ 0) × ToldBest job pack 0 a

-- So it is wherever the call returns the number 0, of the bytes in front of its output, as many as the place says.
abbrev pub LinkedFound : Type 0
LinkedFound =
    (job : List ℕ) (passes : ℕ) (out answer : List ℕ) (r : ℕ) (a x : List ℕ) → ProposeLinkedSays job passes out answer r a x → r % 32 ≡ 0
    → LinkedTold job passes (r / 32) a (take (r / 32) x)

-- "Allowing more passes never changes an answer given": the number returned and every lent word are the same, unless the first call gave 14.
abbrev pub MorePassesTold : Type 0
MorePassesTold =
    (job : List ℕ) (passes more : ℕ) (out answer : List ℕ) (r s : ℕ) (a b x y : List ℕ)
    → ProposeLinkedSays job passes out answer r a x → ProposeLinkedSays job more out answer s b y
    → 1 ≤ passes → passes ≤ more → more ≤ most_passes → (r % 32 ≡ 14 → ⊥) → (r ≡ s) × (a ≡ b) × (x ≡ y)

-- "14 exactly when no pass within the number is accepted, place that number", where there is room for the answer.
abbrev pub FourteenTold : Type 0
FourteenTold =
    (job : List ℕ) (passes : ℕ) (out answer : List ℕ) (r : ℕ) (a x : List ℕ) → ProposeLinkedSays job passes out answer r a x → has_four answer ≡ true
    → (r % 32 ≡ 14 → (r ≡ 32 * passes + 14) × NoneAccepted job passes passes) × (NoneAccepted job passes passes → r ≡ 32 * passes + 14)
