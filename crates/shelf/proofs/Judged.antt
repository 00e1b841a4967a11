-- Kept numbers as a proposal's words, and the verdict on them by what the searches for a number that is not allowed found.
use mathlib.Core.Path.{◌≡◌, refl, sym, ap, ◌∙◌, subst}
use mathlib.Core.Bool.{Bool, true}
use mathlib.Core.List.{List, [], ◌∷◌, ◌++◌, map, append_assoc}
use Prim.Native.Nat.{ℕ, zero, suc, ◌+◌, ◌-◌, ◌<◌, ◌≤◌}
use native.Mathlib.Nat.{le_of_eq}
use native.Mathlib.Omega.{arith}
use lib.Dec.{lit<}
use lib.IntN.{ℤ, pos, nat_abs}
use lib.ListN.{length, take, drop, get_or, length-drop, length-append, length-map, get_or-append}
use lib.Seq.{take_at, drop-drop, get_or-append-add}
use mir.Syntax.{w64}
use mir.Val.{to_z, of_z}
use borrow.Author.Tests.{leb-true, le-leb, lt-leb, lt-ltb, le-ltb}
use borrow.Rule.Slice.PartMut.{put_mid, mid_of}
use Rattle.whole.proofs.Fits.{small_fits, gives}
use Rattle.std.specs.Prelude.{if◌then◌else◌}
use Rattle.jobs.specs.Job.{Job}
use Rattle.jobs.specs.Words.{word_at}
use Rattle.jobs.specs.Allowed.{Upto, Proposed}
use Rattle.std.specs.Prelude.{Err}
use Rattle.refusals.specs.declared.Refusal.TheVariants.{BadProposal}
use Rattle.measure.proofs.Lowest.{lowest_all, passed_all}
use Rattle.slots.specs.Slots.{head_size, values_end}
use Rattle.checked.specs.Answers.{refusal}
use Rattle.measure.specs.Check.{Verdict, accepting, verdict_for}
use Rattle.shelf.specs.Fetched.{most_value, most_multiplier, up_to, lowest_above, or_six, proposal_of, kept_verdict, handed}
use Rattle.shelf.specs.Given.{Judging}
use Rattle.checked.proofs.Values.{map_append}
use Rattle.slots.proofs.Stored.{put_last, mid_last}

-- ---- words that are signed
pub signed_at_lem : (numbers : List ℕ) (i : ℕ) → word_at (map pos numbers) i ≡ pos (get_or numbers i 0)
signed_at_lem [] i = refl
signed_at_lem (x ∷ xs) zero = refl
signed_at_lem (x ∷ xs) (suc i) = signed_at_lem xs i

-- a word of 32 bits in a signed local is that word
pub signed_read : (z : ℤ) (x : ℕ) → z ≡ pos x → x ≤ 4294967295 → to_z w64 (of_z w64 z) ≡ pos x
signed_read z x e h = gives e (small_fits (pos x) h (lit< tt))

-- ---- a proposal's words, from kept numbers
module _ (v y : List ℕ) where
  pub proposal_length : length (proposal_of v y) ≡ length v + length y
  proposal_length = length-map (v ++ y) pos ∙ length-append v y

  value_at : (i : ℕ) → i < length v → word_at (proposal_of v y) i ≡ pos (get_or v i 0)
  value_at i h = signed_at_lem (v ++ y) i ∙ ap pos (get_or-append v y 0 i h)

  multiplier_at_lem : (l : ℕ) → word_at (proposal_of v y) (length v + l) ≡ pos (get_or y l 0)
  multiplier_at_lem l = signed_at_lem (v ++ y) (length v + l) ∙ ap pos (get_or-append-add v y l 0)

  -- the values were written over the front of the words w, then the multipliers behind them
  pub proposal_put : (w a b : List ℤ) (e : ℕ) → e ≡ length w → length v + length y ≤ length w → a ≡ map pos v ++ drop (length v) w
      → b ≡ map pos y ++ drop (length y) (mid_of (length v) (e - length v) a) → put_mid (length v) (e - length v) a b ≡ proposal_of v y ++ drop (length v + length y) w
  proposal_put w a b e le h ea eb =
      let n = length v in
      let rest = drop n w in
      let r : length rest ≡ e - n = length-drop n w ∙ ap (λ (k : ℕ). k - n) (sym le) in
      let mid : mid_of n (e - n) a ≡ rest = ap (mid_of n (e - n)) ea ∙ mid_last (map pos v) rest n (e - n) (length-map v pos) (omega arith) in
      ap (λ (x : List ℤ). put_mid n (e - n) x b) ea ∙ put_last (map pos v) rest n (e - n) (length-map v pos) (omega arith) b
      ∙ ap (λ (x : List ℤ). map pos v ++ x) (eb ∙ ap (λ (x : List ℤ). map pos y ++ drop (length y) x) mid ∙ ap (λ (x : List ℤ). map pos y ++ x) (drop-drop (length y) n w))
      ∙ sym (append_assoc (map pos v) (map pos y) (drop (n + length y) w)) ∙ ap (λ (x : List ℤ). x ++ drop (n + length y) w) (sym (map_append pos v y))

  -- they stand in front of what was lent
  module _ (p rest : List ℤ) (ep : p ≡ proposal_of v y ++ rest) (k : ℕ) (ek : k ≡ length v + length y) where
    pub proposal_front : take k p ≡ proposal_of v y
    proposal_front = ap (take k) ep ∙ take_at (proposal_of v y) rest k (proposal_length ∙ sym ek)

    pub proposal_inside : k ≤ length p
    proposal_inside = omega (arith, ap length ep ∙ length-append (proposal_of v y) rest, proposal_length)

-- numbers that are allowed make a proposal for the job
up_to_lem : (most : ℕ) (z : ℤ) (x : ℕ) → z ≡ pos x → x ≤ most → Upto most z
up_to_lem most z x e h = subst (Upto most) (sym e) (record { natural = refl; small = h })

pub proposed_for : (v y : List ℕ) → Judging v y → (n links : ℕ) → length v ≡ n → length y ≡ links → Proposed n links (proposal_of v y)
proposed_for v y J n links en el =
    subst (λ (k : ℕ). Proposed k links (proposal_of v y)) en (subst (λ (k : ℕ). Proposed (length v) k (proposal_of v y)) el (record {
      count = proposal_length v y;
      value = λ i h. up_to_lem most_value (word_at (proposal_of v y) i) (get_or v i 0) (value_at v y i h) (leb-true (get_or v i 0) most_value (J.values_small i h));
      multiplier = λ l h. up_to_lem most_multiplier (word_at (proposal_of v y) (length v + l)) (get_or y l 0) (multiplier_at_lem v y l) (leb-true (get_or y l 0) most_multiplier (J.multipliers_small l h));
    }))

-- ---- what the searches found
module _ (first most : ℕ) (numbers : List ℕ) (x : ℕ) (e : x ≡ lowest_above most numbers) (later : Verdict) where
  six_at : x < length numbers → Err (BadProposal (first + x)) ≡ or_six first most numbers later
  six_at h =
      ap {B = Verdict} (λ (k : ℕ). Err (BadProposal (first + k))) e
      ∙ sym (ap {B = Verdict} (λ (b : Bool). if b then Err (BadProposal (first + lowest_above most numbers)) else later) (lt-ltb (lowest_above most numbers) (length numbers) (subst (λ (k : ℕ). k < length numbers) e h)))

  six_none : length numbers ≤ x → later ≡ or_six first most numbers later
  six_none h =
      sym (ap {B = Verdict} (λ (b : Bool). if b then Err (BadProposal (first + lowest_above most numbers)) else later) (le-ltb (lowest_above most numbers) (length numbers) (subst (λ (k : ℕ). length numbers ≤ k) e h)))

pub all_allowed : (most : ℕ) (numbers : List ℕ) (x : ℕ) → x ≡ lowest_above most numbers → length numbers ≤ x → (i : ℕ) → i < length numbers → up_to most numbers i ≡ true
all_allowed most numbers x e h = passed_all (up_to most numbers) (length numbers) (subst (λ (k : ℕ). length numbers ≤ k) e h)

module _ (j : Job) (v y : List ℕ) (a : ℕ) (ea : a ≡ lowest_above most_value v) where
  abbrev after_values : Verdict
  after_values = or_six values_end most_multiplier y (verdict_for j (proposal_of v y))

  pub value_six : a < length v → Err (BadProposal (head_size + a)) ≡ kept_verdict j v y
  unfolding kept_verdict
  value_six h = six_at head_size most_value v a ea after_values h

  module _ (h : length v ≤ a) (b : ℕ) (eb : b ≡ lowest_above most_multiplier y) where
    pub multiplier_six : b < length y → Err (BadProposal (values_end + b)) ≡ kept_verdict j v y
    unfolding kept_verdict
    multiplier_six k = six_at values_end most_multiplier y b eb (verdict_for j (proposal_of v y)) k ∙ six_none head_size most_value v a ea after_values h

    pub none_six : length y ≤ b → verdict_for j (proposal_of v y) ≡ kept_verdict j v y
    unfolding kept_verdict
    none_six k = six_none values_end most_multiplier y b eb (verdict_for j (proposal_of v y)) k ∙ six_none head_size most_value v a ea after_values h

-- where every number is allowed the verdict is the check's
pub allowed_verdict : (j : Job) (v y : List ℕ) → ((i : ℕ) → i < length v → get_or v i 0 ≤ most_value) → ((l : ℕ) → l < length y → get_or y l 0 ≤ most_multiplier)
    → kept_verdict j v y ≡ verdict_for j (proposal_of v y)
allowed_verdict j v y hv hy = sym (none_six j v y (lowest_above most_value v) refl (none_above most_value v hv) (lowest_above most_multiplier y) refl (none_above most_multiplier y hy))
  where
    none_above : (most : ℕ) (numbers : List ℕ) → ((i : ℕ) → i < length numbers → get_or numbers i 0 ≤ most) → length numbers ≤ lowest_above most numbers
    none_above most numbers h = le_of_eq (sym (lowest_all (up_to most numbers) (length numbers) (λ i k. le-leb (get_or numbers i 0) most (h i k))))

-- ---- the values of an accepted table
module _ (room : ℕ) (v : List ℕ) (F G : ℤ) where
  pub hand_short : room < length v → refusal 13 (length v) ≡ handed room v (accepting F G)
  hand_short h = rw (lt-leb (length v) room h)

  pub hand_given : length v ≤ room → (f g : ℕ) → f ≡ nat_abs F → g ≡ nat_abs G → record { answer = record { number = 0; place = length v; loss = f; gap = g }; values = v } ≡ handed room v (accepting F G)
  hand_given h f g ef eg = rw (le-leb (length v) room h, ef, eg)
