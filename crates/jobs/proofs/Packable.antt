-- Every proposal of allowed numbers is written, as its own numbers one after another.
use Prim.Native.Nat.{ℕ, zero, suc, ◌+◌, ◌-◌, ◌≤◌, ◌<◌}
use mathlib.Core.Path.{◌≡◌, refl, sym, ap, ◌∙◌}
use mathlib.Core.Bool.{false}
use mathlib.Core.List.{List, [], ◌∷◌, ◌++◌, append-nil, append_assoc}
use native.Mathlib.Omega.{arith}
use borrow.Author.Tests.{ne_eqb}
use lib.IntN.{ℤ, pos, nat_abs}
use lib.ListN.{length, take, drop, length-drop, take-append-drop}
use lib.Seq.{length-take-le, get_or-drop, get_or-take}
use Rattle.numbers.specs.Plain.{bytes_of}
use Rattle.fields.specs.declared.Field.{Field}
use Rattle.fields.specs.Table.{signed_at, end_at, multipliers_from, values_from, step_of}
use Rattle.packs.specs.Writing.{Written, Fits, on_put, write_from}
use Rattle.packs.specs.Walking.{packed}
use Rattle.jobs.specs.Words.{word_at}
use Rattle.jobs.specs.Allowed.{Upto, Proposed}
use Rattle.jobs.proofs.Writable.{within_most}
use Rattle.std.specs.Prelude.{Ok}

-- a word that its field allows is written, and the walk goes on
on_word : (f g : Field) (x : ℕ) (ws : List ℤ) (at : ℕ) → end_at f ≡ false → signed_at f ≡ false → step_of f x ≡ Ok g
    → write_from (pos x ∷ ws) f at ≡ on_put (Fits g x) (λ g raw. write_from ws g (at + length (bytes_of raw)))
unfolding write_from
on_word f g x ws at e s t = rw (e, s, t)

-- numbers of one range, one after another; `onward` is the field where so many are left
record Onward (most : ℕ) (onward : ℕ → Field) : Type 0 where
  pub goes : (left : ℕ) → end_at (onward (suc left)) ≡ false
  pub plain : (left : ℕ) → signed_at (onward (suc left)) ≡ false
  pub step : (left x : ℕ) → x ≤ most → step_of (onward (suc left)) x ≡ Ok (onward left)

-- where the walk stands after them, and the bytes of them
record Walked (ws rest : List ℤ) (f g : Field) (at : ℕ) : Type 0 where
  pub next : ℕ
  pub ends : (write_from (ws ++ rest) f at).outcome ≡ (write_from rest g next).outcome
  pub bytes : (write_from (ws ++ rest) f at).bytes ≡ packed ws ++ (write_from rest g next).bytes

walked : {most : ℕ} {onward : ℕ → Field} → Onward most onward → (left : ℕ) (ws rest : List ℤ) (at : ℕ) → length ws ≡ left
    → ((i : ℕ) → i < left → Upto most (word_at ws i)) → Walked ws rest (onward left) (onward 0) at
unfolding packed
walked o zero [] rest at c u = record { next = at; ends = refl; bytes = refl }
walked o zero (w ∷ ws) rest at c u = absurd (omega (arith, c))
walked o (suc left) [] rest at c u = absurd (omega (arith, c))
walked {onward = onward} o (suc left) (w ∷ ws) rest at c u =
    let first = u 0 (omega arith) in
    let x = nat_abs w in
    let r = walked o left ws rest (at + length (bytes_of x)) (omega (arith, c)) (λ i h. u (suc i) (omega arith)) in
    let w : write_from (w ∷ (ws ++ rest)) (onward (suc left)) at ≡ on_put (Fits (onward left) x) (λ g raw. write_from (ws ++ rest) g (at + length (bytes_of raw))) =
    ap {B = Written} (λ (z : ℤ). write_from (z ∷ (ws ++ rest)) (onward (suc left)) at) first.natural
    ∙ on_word (onward (suc left)) (onward left) x (ws ++ rest) at (o.goes left) (o.plain left) (o.step left x first.small) in
    record {
      next = r.next;
      ends = ap (λ (v : Written). v.outcome) w ∙ r.ends;
      bytes = ap (λ (v : Written). v.bytes) w ∙ ap (λ (b : List ℕ). bytes_of x ++ b) r.bytes ∙ sym (append_assoc (bytes_of x) (packed ws) (write_from rest (onward 0) r.next).bytes);
    }

rates_onward : (links : ℕ) → Onward 1000000 (λ left. values_from left links)
unfolding step_of
rates_onward links = record {
  goes = λ left. rw (ne_eqb (suc left) 0 (omega arith));
  plain = λ left. rw (ne_eqb (suc left) 0 (omega arith));
  step = λ left x h. let less : suc left - 1 ≡ left = omega arith in rw (ne_eqb (suc left) 0 (omega arith), within_most 0 1000000 x (omega arith) h, less);
}

multipliers_onward : Onward 1000000000 multipliers_from
unfolding step_of
multipliers_onward = record {
  goes = λ left. rw (ne_eqb (suc left) 0 (omega arith));
  plain = λ left. rw (ne_eqb (suc left) 0 (omega arith));
  step = λ left x h. let less : suc left - 1 ≡ left = omega arith in rw (ne_eqb (suc left) 0 (omega arith), within_most 0 1000000000 x (omega arith) h, less);
}

at_the_end : (next : ℕ) → write_from [] (multipliers_from 0) next ≡ record { bytes = []; outcome = Ok next }
unfolding write_from
at_the_end next = refl

packed_append : (a b : List ℤ) → packed (a ++ b) ≡ packed a ++ packed b
unfolding packed
packed_append [] b = refl
packed_append (x ∷ a) b = ap (λ (r : List ℕ). bytes_of (nat_abs x) ++ r) (packed_append a b) ∙ sym (append_assoc (bytes_of (nat_abs x)) (packed a) (packed b))

-- a list of allowed values and multipliers is written
module _ {cells links : ℕ} (ws : List ℤ) (P : Proposed cells links ws) where
  parted : take cells ws ++ (drop cells ws ++ []) ≡ ws
  parted = ap (λ (r : List ℤ). take cells ws ++ r) (append-nil (drop cells ws)) ∙ take-append-drop cells ws

  pub proposal_packed : (n : ℕ) × (write_from ws (values_from cells links) 0 ≡ record { bytes = packed ws; outcome = Ok n })
  proposal_packed =
      let v = walked (rates_onward links) cells (take cells ws) (drop cells ws ++ []) 0 (length-take-le cells ws (omega (arith, P.count)))
      (λ i h. rw (get_or-take cells ws i (pos 0) h) (P.value i h)) in
      let m = walked multipliers_onward links (drop cells ws) [] v.next (omega (arith, length-drop cells ws, P.count))
      (λ l h. rw (get_or-drop cells ws l (pos 0)) (P.multiplier l h)) in
      let o : (write_from ws (values_from cells links) 0).outcome ≡ Ok m.next =
      ap (λ (l : List ℤ). (write_from l (values_from cells links) 0).outcome) (sym parted) ∙ v.ends ∙ m.ends ∙ ap (λ (w : Written). w.outcome) (at_the_end m.next) in
      let b : (write_from ws (values_from cells links) 0).bytes ≡ packed ws =
      ap (λ (l : List ℤ). (write_from l (values_from cells links) 0).bytes) (sym parted) ∙ v.bytes ∙ ap (λ (r : List ℕ). packed (take cells ws) ++ r) m.bytes
      ∙ ap (λ (r : List ℕ). packed (take cells ws) ++ r) (ap (λ (r : List ℕ). packed (drop cells ws) ++ r) (ap (λ (w : Written). w.bytes) (at_the_end m.next)) ∙ append-nil (packed (drop cells ws)))
      ∙ sym (packed_append (take cells ws) (drop cells ws)) ∙ ap packed (take-append-drop cells ws) in
      (m.next, λ i. record { bytes = b i; outcome = o i })
