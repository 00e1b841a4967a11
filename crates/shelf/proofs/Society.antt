-- The whole shelf after a society's part was lent to a span's call, or after it was refused. For any layout.
use mathlib.Core.Path.{◌≡◌, sym, ap, ◌∙◌}
use mathlib.Core.Bool.{Bool, cond}
use mathlib.Core.List.{List}
use Prim.Native.Nat.{ℕ, ◌+◌, ◌-◌, ◌<◌, ◌≤◌}
use native.Mathlib.Omega.{arith}
use borrow.Author.Tests.{le-leb, lt-leb}
use borrow.Rule.Slice.PartMut.{put_mid, mid_of}
use Rattle.slots.specs.Slots.{kept_in, forgot_in}
use Rattle.checked.specs.Answers.{Reply, refusal}
use Rattle.shelf.specs.Shelf.{forget_reply, Layout, size_of, span_of, on_part, on_society, from_society, kept_on, forgot_shelf, forgot_reply}
use Rattle.checked.specs.declared.Answer.{Answer}

module _ (l : Layout) (s : ℕ) (xs : List ℕ) where
  -- ---- a society above 7
  pub on_above : (f : List ℕ → List ℕ) → 7 < s → xs ≡ on_society l s f xs
  unfolding on_society
  on_above f h = sym (ap (λ (b : Bool). cond b (on_part (l.start s) (size_of l s) f xs) xs) (lt-leb s 7 h))

  pub from_above : (f : List ℕ → Reply) → 7 < s → refusal 11 0 ≡ from_society l s f xs
  unfolding from_society
  from_above f h = sym (ap {B = Reply} (λ (b : Bool). cond b (f (span_of l s xs)) (refusal 11 0)) (lt-leb s 7 h))

  pub forget_above : (job : ℕ) (a : Answer) → 7 < s → a ≡ (refusal 11 0).answer → (a ≡ (forgot_reply l s job xs).answer) × (xs ≡ forgot_shelf l s job xs)
  unfolding forgot_reply forgot_shelf
  forget_above job a h e =
      (e ∙ ap {B = Answer} (λ (r : Reply). r.answer) (from_above (forget_reply l.words (l.count s) job) h), on_above (forgot_in l.words (l.count s) job) h)

  -- ---- the words from a to e are lent: they are the society's span
  module _ (a e : ℕ) (starts : a ≡ l.start s) (ends : e ≡ a + size_of l s) (h : s ≤ 7) where
    size : e - a ≡ size_of l s
    size = omega arith

    pub lent_span : mid_of a (e - a) xs ≡ span_of l s xs
    lent_span = ap (λ (k : ℕ). mid_of a k xs) size ∙ ap (λ (n : ℕ). mid_of n (size_of l s) xs) starts

    pub on_within : (f : List ℕ → List ℕ) (ys : List ℕ) → ys ≡ f (mid_of a (e - a) xs) → put_mid a (e - a) xs ys ≡ on_society l s f xs
    unfolding on_society
    on_within f ys y =
        ap (put_mid a (e - a) xs) y ∙ ap (λ (k : ℕ). on_part a k f xs) size ∙ ap (λ (n : ℕ). on_part n (size_of l s) f xs) starts
        ∙ sym (ap (λ (b : Bool). cond b (on_part (l.start s) (size_of l s) f xs) xs) (le-leb s 7 h))

    pub from_within : (f : List ℕ → Reply) → f (mid_of a (e - a) xs) ≡ from_society l s f xs
    unfolding from_society
    from_within f = ap {B = Reply} f lent_span ∙ sym (ap {B = Reply} (λ (b : Bool). cond b (f (span_of l s xs)) (refusal 11 0)) (le-leb s 7 h))

    -- ---- keep and forget
    pub keep_within : (job : ℕ) (x ys : List ℕ) → ys ≡ kept_in l.words (l.count s) job x (mid_of a (e - a) xs) → put_mid a (e - a) xs ys ≡ kept_on l s job x xs
    keep_within job x ys y = on_within (kept_in l.words (l.count s) job x) ys y

    pub forget_within : (job : ℕ) (r : Answer) (ys : List ℕ) → r ≡ (forget_reply l.words (l.count s) job (mid_of a (e - a) xs)).answer
        → ys ≡ forgot_in l.words (l.count s) job (mid_of a (e - a) xs) → (r ≡ (forgot_reply l s job xs).answer) × (put_mid a (e - a) xs ys ≡ forgot_shelf l s job xs)
    unfolding forgot_reply forgot_shelf
    forget_within job r ys p q =
        (p ∙ ap {B = Answer} (λ (x : Reply). x.answer) (from_within (forget_reply l.words (l.count s) job)), on_within (forgot_in l.words (l.count s) job) ys q)
