-- The promises of the proposal that honours links at the call over C, each a law whose type is its statement in specs/LinkedPromises.antt.
use Prim.Native.Nat.{ℕ, ◌+◌, ◌*◌, ◌/◌, ◌%◌, ◌≤◌}
use mathlib.Core.Path.{◌≡◌, refl, sym, ap, subst, ◌∙◌}
use mathlib.Core.Bool.{Bool, true, false}
use mathlib.Core.List.{List}
use native.Mathlib.Omega.{arith}
use lib.IntN.{ℤ}
use lib.ListN.{length, take}
use lib.Seq.{sets}
use Rattle.measure.specs.Check.{accepting, check_of}
use Rattle.checked.specs.declared.Answer.{Answer}
use Rattle.checked.specs.Answers.{answer_of}
use Rattle.linked.specs.Proposal.{Offered, Linked, linked_of}
use Rattle.linked.specs.Promises.{NoneAccepted}
use Rattle.linked.proofs.Cases.{passes_counted, pass_written, linked_accepted, more_passes_same, fourteen_exactly}
use Rattle.bench.specs.Answers.{code_of, answer_words, has_four, Says}
use Rattle.bench.specs.Calls.{CheckSays, offer_of}
use Rattle.bench.proofs.Linked.{linked_small}
use Rattle.claims.specs.BenchPromises.{ToldBest}
use Rattle.claims.specs.LinkedPromises.{LinkedTold, LinkedFound, MorePassesTold, FourteenTold}
use Rattle.claims.proofs.Told.{told_of}
use Rattle.claims.proofs.BenchPromises.{one, told_by, place_by}
use Rattle.claims.proofs.ListPromises.{front}
use Rattle.claims.proofs.LinkedCalls.{linked_refused}
use Rattle.std.specs.Prelude.{Ok, Err}
use Rattle.refusals.specs.declared.Refusal.TheVariants.{NotReached}
use Rattle.refusals.specs.Refusals.{number_of, place_of}
use Rattle.refusals.proofs.Most.{fourteen}

-- ---- what was found

-- the check's answer on what it accepts
checked_of_lem : (job pack : List ℕ) (loss gap : ℤ) → check_of job pack ≡ accepting loss gap → (answer : List ℕ) (r : ℕ) (a : List ℕ) → CheckSays job pack answer r a → has_four answer ≡ true
    → (r ≡ 0) × ToldBest job pack 0 a
checked_of_lem job pack loss gap e answer r a says four =
    let same : answer_of (check_of job pack) ≡ answer_of (accepting loss gap) = ap {B = Answer} answer_of e in
    (says.returns ∙ rw (four, same), told_of job pack a (accepting loss gap) e refl (says.answers ∙ rw (four, same)))

pub linked_found : LinkedFound
linked_found job passes out answer r a x says z = go (linked_of (length out) passes job).offer refl
  where
    made : Linked
    made = linked_of (length out) passes job

    t : ((offer_of made.offer).number ≡ 0) × (a ≡ answer_words (offer_of made.offer)) × (x ≡ sets out 0 made.bytes)
    t = told_by (linked_small (length out) passes job) says z

    go : (o : Offered) → made.offer ≡ o → LinkedTold job passes (r / 32) a (take (r / 32) x)
    go (Err b) e =
        let none : number_of b ≡ 0 = ap {B = ℕ} (λ (o : Offered). (offer_of o).number) (sym e) ∙ t.0 in
        absurd (omega (arith, none, linked_refused (length out) passes job e))
    go (Ok o) e =
        let w = pass_written (length out) passes job o.bytes o.passes e in
        let c = linked_accepted (length out) passes job o.bytes o.passes e in
        let at : r / 32 ≡ o.bytes = place_by (linked_small (length out) passes job) says z ∙ ap {B = ℕ} (λ (o : Offered). (offer_of o).place) e in
        let pack : take (r / 32) x ≡ made.bytes = rw (at, t.2) (front made.bytes out w.long w.room_for) in
        record {
          count = o.passes;
          words = t.1 ∙ rw (e, at);
          first = passes_counted (length out) passes job o.bytes o.passes e;
          checked = rw pack (checked_of_lem job made.bytes c.0 c.1.0 c.1.1);
        }

-- ---- more passes

-- without room for the answer
untold : {A : Answer} {answer before after : List ℕ} {r : ℕ} {p x : List ℕ} → Says A answer before after r p x → has_four answer ≡ false
    → (r ≡ 141) × (p ≡ answer) × (x ≡ before)
untold says e = (says.returns ∙ rw e, says.answers ∙ rw e, says.leaves ∙ rw e)

pub more_passes_told : MorePassesTold
more_passes_told job passes more out answer r s a b x y says later some within few other = go (has_four answer) refl
  where
    room : ℕ
    room = length out

    given : has_four answer ≡ true → (linked_of room passes job).offer ≡ Err (NotReached passes) → ⊥
    given e h =
        let code : r ≡ code_of (offer_of (linked_of room passes job).offer) = says.returns ∙ rw e in
        let fourteen : r ≡ 32 * passes + 14 = code ∙ ap {B = ℕ} (λ (o : Offered). code_of (offer_of o)) h in
        other (omega (arith, fourteen))

    go : (t : Bool) → has_four answer ≡ t → (r ≡ s) × (a ≡ b) × (x ≡ y)
    go true e =
        one says (subst (λ (m : Linked). Says (offer_of m.offer) answer out (sets out 0 m.bytes) s b y) (more_passes_same room passes more job some within few (given e)) later)
    go false e = ((untold says e).0 ∙ sym (untold later e).0, (untold says e).1 ∙ sym (untold later e).1, (untold says e).2 ∙ sym (untold later e).2)

-- ---- 14

pub fourteen_told : FourteenTold
fourteen_told job passes out answer r a x says four = (λ h. go (linked_of room passes job).offer refl h, back)
  where
    room : ℕ
    room = length out

    code : r ≡ code_of (offer_of (linked_of room passes job).offer)
    code = says.returns ∙ rw four

    told : {o : Offered} → (linked_of room passes job).offer ≡ o → r ≡ code_of (offer_of o)
    told e = code ∙ ap {B = ℕ} (λ (o : Offered). code_of (offer_of o)) e

    go : (o : Offered) → (linked_of room passes job).offer ≡ o → r % 32 ≡ 14 → (r ≡ 32 * passes + 14) × NoneAccepted job passes passes
    go (Ok o) e h = absurd (omega (arith, told e, h))
    go (Err b) e h =
        let low : number_of b ≤ 31 = subst (λ (o : Offered). (offer_of o).number ≤ 31) e (linked_small room passes job).number in
        let is : number_of b ≡ 14 = omega (arith, told e, h, low) in
        let none = (fourteen_exactly room passes job (place_of b)).0 (e ∙ ap {B = Offered} Err (fourteen b is)) in
        (omega (arith, told e, is, none.place_is), subst (NoneAccepted job passes) none.place_is none)

    back : NoneAccepted job passes passes → r ≡ 32 * passes + 14
    back none = told ((fourteen_exactly room passes job passes).1 none)
