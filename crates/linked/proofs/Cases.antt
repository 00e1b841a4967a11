-- The cases of the answer, each with what is known in it; and the promises, case by case.
use Rattle.std.specs.Prelude.{Ok, Err}
use Prim.Native.Nat.{ℕ, suc, ◌+◌, ◌≤◌, ◌<◌}
use mathlib.Core.Path.{◌≡◌, refl, sym, ap, subst, ◌∙◌}
use mathlib.Core.Bool.{Bool, true, false, ◌&&◌}
use mathlib.Core.List.{List}
use native.Mathlib.Nat as N
use native.Mathlib.Omega.{arith}
use borrow.Author.Tests.{ltb-true, ltb-false, leb-true, lt-ltb}
use lib.Dec.{leb, ltb}
use lib.IntN.{ℤ}
use lib.ListN.{length}
use Rattle.std.specs.Prelude.{if◌then◌else◌}
use Rattle.numbers.proofs.Clash.{clash}
use Rattle.fields.specs.Table.{values_from}
use Rattle.packs.specs.Reading.{Outcome, Ran}
use Rattle.packs.specs.Writing.{Written, refused as unwritten, in_room, write_from}
use Rattle.packs.proofs.Near.{Near}
use Rattle.packs.proofs.Packing.{length_written}
use Rattle.jobs.specs.Job.{Job}
use Rattle.jobs.specs.Packs.{job_in, read_job, read_proposal, write_proposal}
use Rattle.jobs.specs.Allowed.{Allowed}
use Rattle.jobs.proofs.Near.{job_read_near}
use Rattle.jobs.proofs.Readings.{read_jobs_allowed, six_done}
use Rattle.measure.specs.Check.{Verdict, accepting, values_of, multipliers_of, verdict_of, on_read, proposal_verdict, check_of}
use Rattle.checked.specs.Answers.{accepted}
use Rattle.factor.specs.declared.Thin.{Thin}
use Rattle.factor.specs.Factor.{Ending}
use Rattle.house.specs.Proposal.{solved_of}
use Rattle.house.proofs.Thin.{thin_cell}
use Rattle.house.proofs.Fitting.{Roomed, in_room_lem}
use Rattle.house.proofs.Packable.{proposed_writes, proposed_back}
use Rattle.passes.specs.Hildreth.{State, after_pass}
use Rattle.linked.specs.declared.Offer.{Offer}
use Rattle.linked.specs.Proposal.{linked_words, verdict_after, passes_before, Linked, offering, refused, counting, counted, written_after, on_first, on_ending, linked_for, on_job_read, few_passes, linked_of}
use Rattle.linked.specs.Promises as P
use Rattle.linked.specs.Promises.{FirstAccepted, PassesCounted, PassWritten, LinkedAccepted, MorePassesSame, NoneAccepted, FourteenExactly}
use Rattle.linked.proofs.Words.{linked_proposed}
use Rattle.linked.proofs.Answering.{none_accepted, wide_linked, narrow_linked, thin_linked, whole_linked, passes_few, asked, pack_refused}
use Rattle.linked.proofs.First.{none_of, all_before, first_of, more_before}
use Rattle.refusals.specs.declared.Refusal.TheVariants.{TooThin, NoRoom, NotReached, NotProposed, PassesNotAllowed}
use Rattle.refusals.specs.declared.Refusal.{Refusal}
use Rattle.refusals.specs.Refusals.{number_of}

-- ---- the cases

-- a job that was read and factored
pub record Ready (given : ℕ) (job : List ℕ) : Type 0 where
  pub some : 1 ≤ given
  pub few : given ≤ 200
  pub words : ℕ
  pub read : (read_job job).outcome ≡ Ok words
  pub narrow : (job_in job).columns ≤ 12
  pub whole : (solved_of (job_in job)).ending ≡ Ok tt

pub data Case (room given : ℕ) (job : List ℕ) : Linked → Type 0 where
  outside : few_passes given ≡ false → Case room given job (refused PassesNotAllowed)
  unread : (r : Refusal) → few_passes given ≡ true → (read_job job).outcome ≡ Err r → Case room given job (refused r)
  wide : (k : ℕ) → few_passes given ≡ true → (read_job job).outcome ≡ Ok k → 12 < (job_in job).columns → Case room given job (refused NotProposed)
  thin : (k : ℕ) (t : Thin) → few_passes given ≡ true → (read_job job).outcome ≡ Ok k → (job_in job).columns ≤ 12 → (solved_of (job_in job)).ending ≡ Err t → Case room given job (refused (TooThin t.cell))
  none : Ready given job → given ≤ passes_before (job_in job) given → Case room given job (refused (NotReached given))
  first : Ready given job → passes_before (job_in job) given < given
      → Case room given job (counted (suc (passes_before (job_in job) given)) (written_after room (job_in job) (after_pass (job_in job) (suc (passes_before (job_in job) given)))))

both : (given : ℕ) → few_passes given ≡ true → (1 ≤ given) × (given ≤ 200)
both given e = go (leb 1 given) (leb given 200) refl refl e
  where
    go : (a b : Bool) → leb 1 given ≡ a → leb given 200 ≡ b → (a && b) ≡ true → (1 ≤ given) × (given ≤ 200)
    go true true p q e = (leb-true 1 given p, leb-true given 200 q)
    go true false p q e = clash (cc)
    go false b p q e = clash (cc)

module _ (room given : ℕ) (job : List ℕ) where
  on_first_lem : Ready given job → Case room given job (on_first room given (job_in job) (passes_before (job_in job) given))
  on_first_lem r = go (ltb (passes_before (job_in job) given) given) refl
    where
      b : ℕ
      b = passes_before (job_in job) given

      go : (t : Bool) → ltb b given ≡ t → Case room given job (if t then counted (suc b) (written_after room (job_in job) (after_pass (job_in job) (suc b))) else refused (NotReached given))
      go true e = first r (ltb-true b given e)
      go false e = none r (ltb-false b given e)

  on_ending_lem : (k : ℕ) → few_passes given ≡ true → (read_job job).outcome ≡ Ok k → (job_in job).columns ≤ 12 → (e : Ending) → (solved_of (job_in job)).ending ≡ e → Case room given job (on_ending room given (job_in job) e)
  on_ending_lem k f r c (Ok whole) w = on_first_lem (record { some = (both given f).0; few = (both given f).1; words = k; read = r; narrow = c; whole = w })
  on_ending_lem k f r c (Err t) w = thin k t f r c w

  on_columns : (k : ℕ) → few_passes given ≡ true → (read_job job).outcome ≡ Ok k → Case room given job (linked_for room given (job_in job))
  unfolding linked_for
  on_columns k f r = go (ltb 12 (job_in job).columns) refl
    where
      go : (t : Bool) → ltb 12 (job_in job).columns ≡ t → Case room given job (if t then refused NotProposed else on_ending room given (job_in job) (solved_of (job_in job)).ending)
      go true e = wide k f r (ltb-true 12 (job_in job).columns e)
      go false e = on_ending_lem k f r (ltb-false 12 (job_in job).columns e) (solved_of (job_in job)).ending refl

  on_read_lem : few_passes given ≡ true → (o : Outcome) → (read_job job).outcome ≡ o → Case room given job (on_job_read room given (read_job job).words o)
  on_read_lem f (Ok k) q = on_columns k f q
  on_read_lem f (Err r) q = unread r f q

  pub case : Case room given job (linked_of room given job)
  case = go (few_passes given) refl
    where
      go : (t : Bool) → few_passes given ≡ t → Case room given job (if t then on_job_read room given (read_job job).words (read_job job).outcome else refused PassesNotAllowed)
      go true e = on_read_lem e (read_job job).outcome refl
      go false e = outside e

-- the law of the cases, for whoever asks less of each
pub linked_cases : (P : Linked → Type 0) (room given : ℕ) (job : List ℕ) → P (refused PassesNotAllowed)
    → ((r : Refusal) → (read_job job).outcome ≡ Err r → P (refused r)) → P (refused NotProposed)
    → ((cell : ℕ) → cell < 120 → P (refused (TooThin cell))) → (given ≤ 200 → P (refused (NotReached given)))
    → ((j : Job) (s : State) (passes : ℕ) → Allowed j → P (counted passes (written_after room j s))) → P (linked_of room given job)
linked_cases P room given job twenty-one pack twenty ten fourteen proposed = go (case room given job)
  where
    go : {r : Linked} → Case room given job r → P r
    go (outside f) = twenty-one
    go (unread r f q) = pack r q
    go (wide k f q c) = twenty
    go (thin k t f q c w) = ten t.cell (omega (arith, thin_cell (job_in job) t w, (read_jobs_allowed job k q).cells_few))
    go (none r h) = fourteen r.few
    go (first r h) =
        let b = passes_before (job_in job) given in
        proposed (job_in job) (after_pass (job_in job) (suc b)) (suc b) (read_jobs_allowed job r.words r.read)

-- ---- what an answer tells

counting_done : (p : ℕ) (o : Outcome) {n q : ℕ} → counting p o ≡ offering n q → (o ≡ Ok n) × (p ≡ q)
counting_done p (Ok m) {n} {q} e =
    let same : ◌≡◌ {A = Offer} (record { bytes = m; passes = p }) (record { bytes = n; passes = q }) = cc in
    (ap Ok (ap (λ (o : Offer). o.bytes) same), ap (λ (o : Offer). o.passes) same)
counting_done p (Err r) e = clash (cc)

pub counting_refused : (p : ℕ) (o : Outcome) {r : Refusal} → counting p o ≡ Err r → o ≡ Err r
counting_refused p (Ok m) e = clash (cc)
counting_refused p (Err a) {r} e = let same : a ≡ r = cc in ap {B = Outcome} Err same

never_fourteen : (room : ℕ) (bytes : List ℕ) (m place : ℕ) → (in_room room bytes (Ok m)).outcome ≡ Err (NotReached place) → ⊥
never_fourteen room bytes m place e = go (ltb room m) e
  where
    go : (t : Bool) → (if◌then◌else◌ {A = Written} t (unwritten (NoRoom m)) (record { bytes = bytes; outcome = Ok m })).outcome ≡ Err (NotReached place) → ⊥
    go true e = clash (cc)
    go false e = clash (cc)

accepted_is : (v : Verdict) → accepted v ≡ true → (loss : ℤ) × ((gap : ℤ) × (v ≡ accepting loss gap))
accepted_is (Ok figures) e = (figures.loss, (figures.gap, refl))
accepted_is (Err r) e = clash (cc)

-- ---- a proposal that was made

module _ (room given : ℕ) (job : List ℕ) (r : Ready given job) (n passes : ℕ)
    (e : (counted (suc (passes_before (job_in job) given)) (written_after room (job_in job) (after_pass (job_in job) (suc (passes_before (job_in job) given))))).offer ≡ offering n passes) where
  abbrev state_then : State
  state_then = after_pass (job_in job) (suc (passes_before (job_in job) given))

  abbrev pack : Written
  pack = write_proposal (job_in job).cells (job_in job).links (linked_words (job_in job) state_then)

  parts : ((written_after room (job_in job) state_then).outcome ≡ Ok n) × (suc (passes_before (job_in job) given) ≡ passes)
  parts = counting_done (suc (passes_before (job_in job) given)) (written_after room (job_in job) state_then).outcome e

  allowed : Allowed (job_in job)
  allowed = read_jobs_allowed job r.words r.read

  roomed_pack : Roomed room pack (written_after room (job_in job) state_then) n
  roomed_pack = in_room_lem room pack.bytes pack.outcome n parts.0

  back : read_proposal (job_in job).cells (job_in job).links (written_after room (job_in job) state_then).bytes
      ≡ record { words = linked_words (job_in job) state_then; outcome = Ok ((job_in job).cells + (job_in job).links) }
  back = proposed_back (linked_words (job_in job) state_then) (linked_proposed (job_in job) state_then allowed) roomed_pack.ends roomed_pack.bytes

  long : length (written_after room (job_in job) state_then).bytes ≡ n
  long =
      let ws = linked_words (job_in job) state_then in
      let start = values_from (job_in job).cells (job_in job).links in
      ap length roomed_pack.bytes ∙ sym (N.zero-add (length (write_from ws start 0).bytes))
      ∙ length_written ws start 0 n (six_done (write_from ws start 0).outcome n roomed_pack.ends)

  written_then : P.Written room job (written_after room (job_in job) state_then).bytes n passes
  written_then =
      subst (λ (p : ℕ). P.Written room job (written_after room (job_in job) state_then).bytes n p) parts.1
      (record { long = long; room_for = roomed_pack.room_for; reads = back })

  verdict_then : check_of job (written_after room (job_in job) state_then).bytes ≡ verdict_after (job_in job) state_then
  unfolding verdict_after
  verdict_then =
      ap {B = Verdict} (λ (o : Outcome). on_read o (proposal_verdict (job_in job) (written_after room (job_in job) state_then).bytes)) r.read
      ∙ ap {B = Verdict} (λ (q : Ran). on_read q.outcome (verdict_of (job_in job) (values_of q.words) (multipliers_of (job_in job).cells q.words))) back

-- ---- the promises

pub passes_counted : PassesCounted
passes_counted room given job n passes e = go (case room given job) e
  where
    go : {r : Linked} → Case room given job r → r.offer ≡ offering n passes → FirstAccepted (job_in job) given passes
    go (outside f) e = clash (cc)
    go (unread r f q) e = clash (cc)
    go (wide k f q c) e = clash (cc)
    go (thin k t f q c w) e = clash (cc)
    go (none r h) e = clash (cc)
    go (first r h) e = subst (λ (p : ℕ). FirstAccepted (job_in job) given p) (parts room given job r n passes e).1 (first_of (job_in job) given h)

pub pass_written : PassWritten
pass_written room given job n passes e = go (case room given job) e
  where
    go : {r : Linked} → Case room given job r → r.offer ≡ offering n passes → P.Written room job r.bytes n passes
    go (outside f) e = clash (cc)
    go (unread r f q) e = clash (cc)
    go (wide k f q c) e = clash (cc)
    go (thin k t f q c w) e = clash (cc)
    go (none r h) e = clash (cc)
    go (first r h) e = written_then room given job r n passes e

pub linked_accepted : LinkedAccepted
linked_accepted room given job n passes e = go (case room given job) e
  where
    go : {r : Linked} → Case room given job r → r.offer ≡ offering n passes → (loss : ℤ) × ((gap : ℤ) × (check_of job r.bytes ≡ accepting loss gap))
    go (outside f) e = clash (cc)
    go (unread r f q) e = clash (cc)
    go (wide k f q c) e = clash (cc)
    go (thin k t f q c w) e = clash (cc)
    go (none r h) e = clash (cc)
    go (first r h) e =
        let v = verdict_then room given job r n passes e in
        let a = accepted_is (verdict_after (job_in job) (after_pass (job_in job) (suc (passes_before (job_in job) given)))) (first_of (job_in job) given h).accepted in
        (a.0, (a.1.0, v ∙ a.1.1))

-- a job that is read, for any number of passes
read_linked : (room given : ℕ) (job : List ℕ) {k : ℕ} → 1 ≤ given → given ≤ 200 → (read_job job).outcome ≡ Ok k → linked_of room given job ≡ linked_for room given (job_in job)
read_linked room given job h l e = sym (ap {B = Linked} (on_job_read room given (read_job job).words) (sym e) ∙ asked room given job h l)

pub more_passes_same : MorePassesSame
more_passes_same room given more job h l m answered = go (case room given job) answered
  where
    go : {r : Linked} → Case room given job r → (r.offer ≡ Err (NotReached given) → ⊥) → linked_of room more job ≡ r
    go (outside f) other = let t = passes_few room given job h (N.le_trans l m) in clash (cc)
    go (unread r f q) other = sym (pack_refused room more job (N.le_trans h l) m q)
    go (wide k f q c) other = read_linked room more job (N.le_trans h l) m q ∙ sym (wide_linked room more (job_in job) c)
    go (thin k t f q c w) other =
        read_linked room more job (N.le_trans h l) m q ∙ sym (thin_linked room more (job_in job) refl w ∙ narrow_linked room more (job_in job) c)
    go (none r q) other = absurd (other refl)
    go (first r q) other =
        let same = more_before (job_in job) given more l q in
        let under = N.lt_of_lt_of_le q l in
        read_linked room more job (N.le_trans h l) m r.read ∙ sym (whole_linked room more (job_in job) refl r.whole ∙ narrow_linked room more (job_in job) r.narrow)
        ∙ ap {B = Linked} (on_first room more (job_in job)) same ∙ rw (lt-ltb (passes_before (job_in job) given) more under)

pub fourteen_exactly : FourteenExactly
fourteen_exactly room given job place = (λ e. go (case room given job) e, back_again)
  where
    go : {r : Linked} → Case room given job r → r.offer ≡ Err (NotReached place) → NoneAccepted job given place
    go (outside f) e = clash (cc)
    go (unread r f q) e =
        let same : number_of r ≡ 14 = cc in
        let near = subst (Near 20920) q (job_read_near job) in
        absurd (omega (arith, near.1))
    go (wide k f q c) e = clash (cc)
    go (thin k t f q c w) e = clash (cc)
    go (none r h) e =
        let same : given ≡ place = cc in
        record { some = r.some; few = r.few; words = r.words; read = r.read; narrow = r.narrow; whole = r.whole; none = none_of (job_in job) given h; place_is = sym same }
    go (first r h) e = absurd (never r e)
      where
        never : (r : Ready given job) → (counted (suc (passes_before (job_in job) given)) (written_after room (job_in job) (after_pass (job_in job) (suc (passes_before (job_in job) given))))).offer ≡ Err (NotReached place) → ⊥
        never r e =
            let s = after_pass (job_in job) (suc (passes_before (job_in job) given)) in
            let ws = linked_words (job_in job) s in
            let w = proposed_writes ws (linked_proposed (job_in job) s (read_jobs_allowed job r.words r.read)) in
            let bytes = (write_proposal (job_in job).cells (job_in job).links ws).bytes in
            let o = counting_refused (suc (passes_before (job_in job) given)) (written_after room (job_in job) s).outcome e in
            never_fourteen room bytes w.0 place (subst (λ (o : Outcome). (in_room room bytes o).outcome ≡ Err (NotReached place)) w.1 o)

    back_again : NoneAccepted job given place → (linked_of room given job).offer ≡ Err (NotReached place)
    back_again n =
        let b = all_before (job_in job) given n.none in
        let none_yet : given ≤ passes_before (job_in job) given = omega (arith, b) in
        let same : refused (NotReached given) ≡ linked_of room given job =
        none_accepted room given (job_in job) refl none_yet ∙ whole_linked room given (job_in job) refl n.whole ∙ narrow_linked room given (job_in job) n.narrow ∙ sym (read_linked room given job n.some n.few n.read) in
        sym (ap (λ (l : Linked). l.offer) same) ∙ ap (λ (p : ℕ). Err (NotReached p)) (sym n.place_is)
