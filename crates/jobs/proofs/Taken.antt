-- A step of the walk at its place among the words: what a row of the table tells of the word there, and where the walk goes on.
use Prim.Native.Nat.{ℕ, ◌+◌, ◌*◌, ◌≤◌, ◌<◌}
use mathlib.Core.Path.{◌≡◌, refl, sym, ap, subst, ◌∙◌}
use mathlib.Core.Logic.{◌⊎◌, inl, inr}
use mathlib.Core.Bool.{Bool, true, false}
use mathlib.Core.List.{List, [], ◌∷◌}
use native.Mathlib.Nat as N
use native.Mathlib.Omega.{arith}
use lib.IntN.{ℤ, pos, nat_abs}
use lib.ListN.{length, drop, length-drop}
use lib.Seq.{drop-drop, get_or-drop}
use Rattle.numbers.specs.Zigzag.{signed_of}
use Rattle.numbers.proofs.Clash.{clash}
use Rattle.numbers.proofs.Signs.{signed_most}
use Rattle.fields.specs.declared.Field.{Field}
use Rattle.fields.specs.declared.Field.TheVariants.{End}
use Rattle.fields.specs.Table.{Step, within, within_signed, rule, signed_at, end_at, step_of}
use Rattle.fields.proofs.Rows.{kept, within_both}
use Rattle.packs.specs.Reading.{word_of}
use Rattle.jobs.specs.Words.{word_at, count_at}
use Rattle.jobs.specs.Allowed.{Upto, Counted}
use Rattle.jobs.proofs.Steps.{Steps, done, go}
use Rattle.std.specs.Prelude.{Ok}

-- the words from the place p on are steps of the walk from the field f on
pub record At (ws : List ℤ) (f : Field) (p : ℕ) : Type 0 where
  pub steps : Steps f (drop p ws)
  pub inside : p ≤ length ws

pub at_first : {ws : List ℤ} {f : Field} → Steps f ws → At ws f 0
at_first t = record { steps = t; inside = omega arith }

pub at_place : {ws : List ℤ} {f : Field} {p : ℕ} (q : ℕ) → p ≡ q → At ws f p → At ws f q
at_place {ws} {f} q e t = subst (λ (p : ℕ). At ws f p) e t

pub at_field : {ws : List ℤ} {f g : Field} {p : ℕ} → f ≡ g → At ws f p → At ws g p
at_field {ws} {p = p} e t = subst (λ (f : Field). At ws f p) e t

-- nothing stands after the end
end_empty : {l : List ℤ} → Steps End l → l ≡ []
unfolding step_of
end_empty done = refl
end_empty (go x s t) = clash (cc)

pub at_end : {ws : List ℤ} {p : ℕ} → At ws End p → p ≡ length ws
at_end {ws} {p} t = omega (arith, length-drop p ws, ap length (end_empty t.steps), t.inside)

-- the step at the place p
pub record Taken (ws : List ℤ) (f : Field) (p : ℕ) : Type 0 where
  pub x : ℕ
  pub g : Field
  pub step : step_of f x ≡ Ok g
  pub is : word_at ws p ≡ word_of f x
  pub rest : At ws g (p + 1)

first_of : (ws l : List ℤ) (p : ℕ) (a : ℤ) → drop p ws ≡ a ∷ l → word_at ws p ≡ a
first_of ws l p a e = ap (word_at ws) (sym (N.add-zero p)) ∙ sym (get_or-drop p ws 0 (pos 0)) ∙ ap (λ (m : List ℤ). word_at m 0) e

rest_of_lem : (ws l : List ℤ) (p : ℕ) (a : ℤ) → drop p ws ≡ a ∷ l → l ≡ drop (p + 1) ws
rest_of_lem ws l p a e = sym (ap (drop 1) e) ∙ drop-drop 1 p ws

-- only the end has nothing behind it
nothing_left : {f : Field} {l : List ℤ} → Steps f l → l ≡ [] → end_at f ≡ true
nothing_left done e = refl
nothing_left (go x s t) e = clash (cc)

taken_from_lem : (ws l : List ℤ) (p : ℕ) (f : Field) → end_at f ≡ false → drop p ws ≡ l → Steps f l → Taken ws f p
taken_from_lem ws [] p f e q s = let some : true ≡ false = sym (nothing_left s refl) ∙ e in clash (cc)
taken_from_lem ws (a ∷ l) p f e q (go {g = g} x s t) = record {
  x = x;
  g = g;
  step = s;
  is = first_of ws l p (word_of f x) q;
  rest = record {
    steps = subst (λ (m : List ℤ). Steps g m) (rest_of_lem ws l p (word_of f x) q) t;
    inside = omega (arith, length-drop p ws, ap length q);
  };
}

pub taken : {ws : List ℤ} {f : Field} {p : ℕ} → end_at f ≡ false → At ws f p → Taken ws f p
taken {ws} {f} {p} e t = taken_from_lem ws (drop p ws) p f e refl t.steps

-- ---- a row of the table, read at its place

-- a number that is stored as it is: it passed the row's test
pub record Row (ws : List ℤ) (p : ℕ) (test : ℕ → Bool) (s : ℕ → Step) : Type 0 where
  pub counted : Counted ws p
  pub ok : test (count_at ws p) ≡ true
  pub g : Field
  pub next : s (count_at ws p) ≡ Ok g
  pub rest : At ws g (p + 1)

pub row : {ws : List ℤ} {f : Field} {p : ℕ} (test : ℕ → Bool) (s : ℕ → Step) → end_at f ≡ false → signed_at f ≡ false
    → ((x : ℕ) → step_of f x ≡ rule (test x) (s x)) → At ws f p → Row ws p test s
row {ws} {f} {p} test s e u q t =
    let k : Taken ws f p = taken e t in
    let is : word_at ws p ≡ pos k.x = k.is ∙ rw u in
    let count : k.x ≡ count_at ws p = sym (ap nat_abs is) in
    let r = kept (sym (q k.x) ∙ k.step) in
    record {
      counted = is ∙ ap pos count;
      ok = ap test (sym count) ∙ r.ok;
      g = k.g;
      next = ap s (sym count) ∙ r.next;
      rest = k.rest;
    }

-- where the test is a range and the number tells the next field
pub record Plain (ws : List ℤ) (p least most : ℕ) (onward : ℕ → Field) : Type 0 where
  pub range : Upto most (word_at ws p)
  pub some : least ≤ count_at ws p
  pub rest : At ws (onward (count_at ws p)) (p + 1)

pub next_is : {f g : Field} → ◌≡◌ {A = Step} (Ok f) (Ok g) → g ≡ f
next_is e = cc

pub plain : {ws : List ℤ} {f : Field} {p : ℕ} (least most : ℕ) (onward : ℕ → Field) → end_at f ≡ false → signed_at f ≡ false
    → ((x : ℕ) → step_of f x ≡ rule (within least most x) (Ok (onward x))) → At ws f p → Plain ws p least most onward
plain {ws} {p = p} least most onward e u q t =
    let r = row (within least most) (λ x. Ok (onward x)) e u q t in
    let l = within_both least most (count_at ws p) r.ok in
    record { range = record { natural = r.counted; small = l.1 }; some = l.0; rest = at_field (next_is r.next) r.rest }

-- a signed number, by its stored form
pub record SignedRow (ws : List ℤ) (p most : ℕ) (s : ℕ → Step) : Type 0 where
  pub raw : ℕ
  pub is : word_at ws p ≡ signed_of raw
  pub small : nat_abs (word_at ws p) ≤ most
  pub g : Field
  pub next : s raw ≡ Ok g
  pub rest : At ws g (p + 1)

pub signed_row : {ws : List ℤ} {f : Field} {p : ℕ} (most : ℕ) (s : ℕ → Step) → end_at f ≡ false → signed_at f ≡ true
    → ((x : ℕ) → step_of f x ≡ rule (within_signed most x) (s x)) → At ws f p → SignedRow ws p most s
signed_row {ws} {f} {p} most s e u q t =
    let k : Taken ws f p = taken e t in
    let is : word_at ws p ≡ signed_of k.x = k.is ∙ rw u in
    let r = kept (sym (q k.x) ∙ k.step) in
    record {
      raw = k.x;
      is = is;
      small = rw is (signed_most k.x most (within_both 0 (2 * most) k.x r.ok).1);
      g = k.g;
      next = r.next;
      rest = k.rest;
    }

-- what holds at one place and at every later one
pub here_on : {P : ℕ → Type 0} {i n : ℕ} → P i → ((j : ℕ) → i + 1 ≤ j → j < n → P j) → (j : ℕ) → i ≤ j → j < n → P j
here_on {P} {i} {n} here later j h l = go (N.eq-or-lt_of_le h)
  where
    go : (i ≡ j) ⊎ (i < j) → P j
    go (inl e) = subst P e here
    go (inr k) = later j (omega arith) l
