-- The two ways in which a call ends: without room for its answer it changes nothing; otherwise it gives the answer that the proved function under it made.
use Rattle.std.proofs.Common.{◌≡◌, ℕ, ◌%◌, ◌^◌, List, length, ap, ◌∙◌, eq-eqb, ne_eqb}
use Rattle.checked.specs.declared.Answer.{Answer}
use Rattle.bench.specs.Answers.{code_of, answer_words, Says}
use Rattle.bench.proofs.Small.{Small, code_told}

module _ {A : Type 0} (a : Answer) (answer : List ℕ) (before after : List A) where
  pub without_room : (length answer ≡ 4 → ⊥) → Says a answer before after 141 answer before
  without_room n = let e = ne_eqb (length answer) 4 n in record { returns = rw e; answers = rw e; leaves = rw e }

  pub with_room : Small a → length answer ≡ 4 → (b : Answer) → b ≡ a → {r : ℕ} {answered : List ℕ} {left : List A}
      → r ≡ code_of b % 2 ^ 64 → answered ≡ answer_words b → left ≡ after → Says a answer before after r answered left
  with_room small h b same returned written left_as =
      let e = eq-eqb (length answer) 4 h in
      record {
        returns = rw e (returned ∙ ap (λ (told : Answer). code_of told % 2 ^ 64) same ∙ code_told small);
        answers = rw e (written ∙ ap answer_words same);
        leaves = rw e left_as;
      }
