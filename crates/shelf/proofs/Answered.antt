-- What a call says and leaves, by what the test of its shelf found.
use mathlib.Core.Path.{◌≡◌, refl, sym, ap, ◌∙◌}
use mathlib.Core.List.{List}
use Prim.Native.Nat.{ℕ}
use Rattle.std.specs.Prelude.{Ok, Err}
use Rattle.refusals.specs.declared.Refusal.{Refusal}
use Rattle.counts.specs.Counts.{Tested, passed as allowed, test_shelf, on_tested, row_in, cleared}
use Rattle.checked.specs.declared.Answer.{Answer}
use Rattle.checked.specs.Answers.{Reply, refusal, refused, done}
use Rattle.shelf.specs.Shelf.{layout_in}
use Rattle.shelf.specs.Calls.{Own, own, clear, laid_after, laid_said, after, said}

-- what is no refusal has passed
pub passing : (o : Tested) → ((r : Refusal) → o ≡ Err r → ⊥) → o ≡ allowed
passing (Ok u) n = refl
passing (Err r) n = absurd (n r refl)

module _ (shelf : List ℕ) where
  -- ---- a society's call
  module _ (call : Own) where
    abbrev said_by : Tested → Reply
    said_by o = on_tested o (laid_said (layout_in shelf) shelf call) refusal

    abbrev left_by : Tested → List ℕ
    left_by o = on_tested o (laid_after (layout_in shelf) shelf call) (λ number place. shelf)

    pub said_passed : test_shelf (row_in shelf) shelf ≡ allowed → laid_said (layout_in shelf) shelf call ≡ said shelf (own call)
    said_passed e = sym (ap {B = Reply} said_by e)

    pub after_passed : test_shelf (row_in shelf) shelf ≡ allowed → laid_after (layout_in shelf) shelf call ≡ after shelf (own call)
    after_passed e = sym (ap left_by e)

    pub said_refused : (r : Refusal) → test_shelf (row_in shelf) shelf ≡ Err r → refused r ≡ said shelf (own call)
    said_refused r e = sym (ap {B = Reply} said_by e)

    pub after_refused : (r : Refusal) → test_shelf (row_in shelf) shelf ≡ Err r → shelf ≡ after shelf (own call)
    after_refused r e = sym (ap left_by e)

  -- ---- clearing
  module _ (counts : List ℕ) where
    abbrev clear_says : Tested → Reply
    clear_says o = on_tested o done refusal

    abbrev clear_leaves : Tested → List ℕ
    clear_leaves o = on_tested o (cleared (row_in counts) shelf) (λ number place. shelf)

    pub clear_passed : test_shelf (row_in counts) shelf ≡ allowed → (done ≡ said shelf (clear counts)) × (cleared (row_in counts) shelf ≡ after shelf (clear counts))
    clear_passed e = (sym (ap {B = Reply} clear_says e), sym (ap clear_leaves e))

    pub clear_refused : (r : Refusal) → test_shelf (row_in counts) shelf ≡ Err r → (refused r ≡ said shelf (clear counts)) × (shelf ≡ after shelf (clear counts))
    clear_refused r e = (sym (ap {B = Reply} clear_says e), sym (ap clear_leaves e))

  -- ---- an answer and the shelf that it leaves
  abbrev answered : {r q : Reply} (a : Answer) → a ≡ r.answer → r ≡ q → a ≡ q.answer
  answered a p e = p ∙ ap {B = Answer} (λ (x : Reply). x.answer) e

  module _ (call : Own) (a : Answer) where
    pub passed : test_shelf (row_in shelf) shelf ≡ allowed → (ys : List ℕ) → a ≡ (laid_said (layout_in shelf) shelf call).answer → ys ≡ laid_after (layout_in shelf) shelf call
        → (a ≡ (said shelf (own call)).answer) × (ys ≡ after shelf (own call))
    passed e ys p q = (answered a p (said_passed call e), q ∙ after_passed call e)
