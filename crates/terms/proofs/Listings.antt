-- The terms handed out: lent words that hold the words of the first k places, and one place more, a cell's or a link's.
use Prim.Native.Nat.{ℕ, zero, suc, ◌+◌, ◌*◌, ◌<◌}
use mathlib.Core.Path.{◌≡◌, refl, sym, ap, ap₂, subst, ◌∙◌}
use mathlib.Core.Logic.{◌⊎◌, inl, inr}
use mathlib.Core.Bool.{Bool, false}
use mathlib.Core.List.{List, [], ◌∷◌, ◌++◌}
use native.Mathlib.Nat as N
use native.Mathlib.Nat.{zero-add}
use native.Mathlib.Omega.{arith}
use native.Mathlib.Numerals.{add-one}
use borrow.Author.Tests.{lt-ltb, le-ltb}
use lib.Dec.{ltb}
use lib.IntN.{ℤ, pos}
use lib.ListN.{length, length-append, get_or-append}
use lib.Seq.{sets, get_or-append-add}
use Rattle.std.specs.Prelude.{if◌then◌else◌}
use Rattle.numbers.proofs.Stores.{sets_append}
use Rattle.jobs.specs.Job.{Job}
use Rattle.jobs.specs.Words.{word_at, cells_of, job_of}
use Rattle.tally.specs.declared.term.Supplied.{Supplied}
use Rattle.tally.specs.Supplied.{amount_of}
use Rattle.tally.proofs.Locals.{read}
use Rattle.tally.proofs.Terms.{supplied_amount}
use Rattle.measure.specs.Gap.{residual_of, supplied_of}
use Rattle.measure.specs.Largest.{term_at}
use Rattle.measure.specs.Given.{Totalling}
use Rattle.measure.specs.OnWords.{multiplier_on, residual_on, residual_with, supplied_with, link_term_on}
use Rattle.measure.proofs.Largest.{front_is, back_is}
use Rattle.measure.proofs.Totalled.{r_is}
use Rattle.terms.specs.Listing.{side_of, residual_at, side_at, entry_at, entries}
use Rattle.terms.specs.Steps.{entries_on, Longer}

-- ---- three words more

pub entries_count : (j : Job) (v y : ℕ → ℤ) (k : ℕ) → length (entries j v y k) ≡ 3 * k
unfolding entries
entries_count j v y zero = refl
entries_count j v y (suc k) = length-append (entries j v y k) (entry_at j v y k) ∙ omega (arith, entries_count j v y k)

-- the words of a place
pub entries_word : (j : Job) (v y : ℕ → ℤ) (k p d : ℕ) → p < k → d < 3 → word_at (entries j v y k) (3 * p + d) ≡ word_at (entry_at j v y p) d
unfolding entries
entries_word j v y zero p d h l = absurd (N.not-suc-le-zero h)
entries_word j v y (suc k) p d h l = go (λ i. entries_word j v y k p d i l) (N.eq-or-lt_of_le (N.le_of_suc-le-suc h))
  where
    go : (p < k → word_at (entries j v y k) (3 * p + d) ≡ word_at (entry_at j v y p) d) → (p ≡ k) ⊎ (p < k) → word_at (entries j v y k ++ entry_at j v y k) (3 * p + d) ≡ word_at (entry_at j v y p) d
    go f (inl e) =
        ap (λ (i : ℕ). word_at (entries j v y k ++ entry_at j v y k) (i + d)) (ap (λ (i : ℕ). 3 * i) e ∙ sym (entries_count j v y k))
        ∙ get_or-append-add (entries j v y k) (entry_at j v y k) d (pos 0)
        ∙ ap (λ (i : ℕ). word_at (entry_at j v y i) d) (sym e)
    go f (inr i) =
        get_or-append (entries j v y k) (entry_at j v y k) (pos 0) (3 * p + d) (omega (arith, entries_count j v y k)) ∙ f i

entries_next : (j : Job) (v y : ℕ → ℤ) (k : ℕ) → entries j v y k ++ entry_at j v y k ≡ entries j v y (k + 1)
unfolding entries
entries_next j v y k = ap (entries j v y) (sym (add-one k))

pub entries_none : (j : Job) (v y : ℕ → ℤ) (lent : List ℤ) → lent ≡ sets lent 0 (entries j v y 0)
unfolding entries
entries_none j v y lent = refl

entry_next : (j : Job) (v y : ℕ → ℤ) (lent : List ℤ) (k : ℕ) {out after : List ℤ} {a r s : ℤ} → out ≡ sets lent 0 (entries j v y k) → after ≡ sets out (3 * k) (a ∷ r ∷ s ∷ [])
    → a ≡ term_at j v y k → r ≡ residual_at j v y k → s ≡ side_at j v y k → after ≡ sets lent 0 (entries j v y (k + 1))
entry_next j v y lent k {out} {after} {a} {r} {s} eo q ea er es =
    q
    ∙ ap (λ (x : ℤ). sets out (3 * k) (x ∷ r ∷ s ∷ [])) ea
    ∙ ap₂ (λ (x z : ℤ). sets out (3 * k) (term_at j v y k ∷ x ∷ z ∷ [])) er es
    ∙ ap₂ (λ (l : List ℤ) (i : ℕ). sets l i (entry_at j v y k)) eo (sym (zero-add (length (entries j v y k)) ∙ entries_count j v y k))
    ∙ sym (sets_append (entries j v y k) (entry_at j v y k) lent 0)
    ∙ ap (sets lent 0) (entries_next j v y k)

-- ---- a cell's

pub side_cell : (j : Job) (v y : ℕ → ℤ) (i : ℕ) → i < j.cells → side_at j v y i ≡ side_of (supplied_of j v y i)
side_cell j v y i h = ap (λ (o : Bool). if o then side_of (supplied_of j v y i) else pos 2) (lt-ltb i j.cells h)

pub residual_cell : (j : Job) (v y : ℕ → ℤ) (i : ℕ) → i < j.cells → residual_at j v y i ≡ residual_of j v y i
residual_cell j v y i h = ap (λ (o : Bool). if o then residual_of j v y i else pos 0) (lt-ltb i j.cells h)

module _ {ws ps : List ℤ} {n : ℕ} {parts : List ℤ} {start : ℤ} (H : Totalling ws ps n parts start) {i : ℕ} (h : i < n) {r : ℤ}
    (q : r ≡ residual_with ws ps i (read (word_at parts i))) {t : Supplied} (u : t ≡ supplied_with ws ps i (read r)) where
  among : i < cells_of ws
  among = subst (λ (x : ℕ). i < x) H.n_is h

  supplied_is : t ≡ supplied_of (job_of ws) (word_at ps) (multiplier_on ws ps) i
  supplied_is = u ∙ ap (supplied_with ws ps i) (r_is H h q)

  pub cell_next : (lent : List ℤ) {out after : List ℤ} → out ≡ sets lent 0 (entries_on ws ps i) → after ≡ sets out (3 * i) (amount_of t ∷ read r ∷ side_of t ∷ [])
      → after ≡ sets lent 0 (entries_on ws ps (i + 1))
  cell_next lent eo k =
      entry_next (job_of ws) (word_at ps) (multiplier_on ws ps) lent i eo k
      (ap amount_of supplied_is
      ∙ supplied_amount ((job_of ws).weight i) (residual_on ws ps i) ((job_of ws).floor i) ((job_of ws).ceiling i) (word_at ps i)
      ∙ sym (front_is (job_of ws) (word_at ps) (multiplier_on ws ps) i among))
      (r_is H h q ∙ sym (residual_cell (job_of ws) (word_at ps) (multiplier_on ws ps) i among))
      (ap side_of supplied_is ∙ sym (side_cell (job_of ws) (word_at ps) (multiplier_on ws ps) i among))

-- ---- a cell's words, by who supplied the term

-- ---- a link's

beyond : (n l : ℕ) → ltb (n + l) n ≡ false
beyond n l = le-ltb (n + l) n (omega arith)

pub side_link : (j : Job) (v y : ℕ → ℤ) (l : ℕ) → side_at j v y (j.cells + l) ≡ pos 2
side_link j v y l = ap (λ (o : Bool). if o then side_of (supplied_of j v y (j.cells + l)) else pos 2) (beyond j.cells l)

pub residual_link : (j : Job) (v y : ℕ → ℤ) (l : ℕ) → residual_at j v y (j.cells + l) ≡ pos 0
residual_link j v y l = ap (λ (o : Bool). if o then residual_of j v y (j.cells + l) else pos 0) (beyond j.cells l)

module _ (ws ps : List ℤ) {n : ℕ} (en : n ≡ cells_of ws) where
  pub link_next : (l : ℕ) {t : ℤ} → t ≡ link_term_on ws ps l → {out₀ out after : List ℤ} → Longer ws ps n (n + l) out₀ out
      → after ≡ sets out (3 * (n + l)) (t ∷ pos 0 ∷ pos 2 ∷ []) → Longer ws ps n (n + (l + 1)) out₀ after
  link_next l {t} et {out₀} {out} {after} L k = record {
    from = λ lent e.
        entry_next (job_of ws) (word_at ps) (multiplier_on ws ps) lent (n + l) (L.from lent e) k
        (et ∙ sym (ap (λ (m : ℕ). term_at (job_of ws) (word_at ps) (multiplier_on ws ps) (m + l)) en ∙ back_is (job_of ws) (word_at ps) (multiplier_on ws ps) l))
        (sym (ap (λ (m : ℕ). residual_at (job_of ws) (word_at ps) (multiplier_on ws ps) (m + l)) en ∙ residual_link (job_of ws) (word_at ps) (multiplier_on ws ps) l))
        (sym (ap (λ (m : ℕ). side_at (job_of ws) (word_at ps) (multiplier_on ws ps) (m + l)) en ∙ side_link (job_of ws) (word_at ps) (multiplier_on ws ps) l))
        ∙ ap (λ (m : ℕ). sets lent 0 (entries_on ws ps m)) (omega arith);
  }
