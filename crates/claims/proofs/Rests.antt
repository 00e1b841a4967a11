-- The words behind the last span: no call touches them, not even clearing.
use mathlib.Core.Path.{◌≡◌, refl, sym, ap, ◌∙◌}
use mathlib.Core.Bool.{Bool, true, false, cond}
use mathlib.Core.List.{List}
use Prim.Native.Nat.{ℕ, ◌+◌, ◌≤◌}
use native.Mathlib.Omega.{arith}
use lib.Dec.{leb}
use lib.ListN.{length, take, drop, length-drop}
use lib.Seq.{take_all}
use borrow.Author.Tests.{leb-true}
use Rattle.counts.specs.Counts.{passed, societies, shelf_words, count_in, test_row, row_in, start_in, rest_of, Ready}
use Rattle.counts.proofs.Below.{below_apart}
use Rattle.counts.proofs.Tests.{right_eight, shelf_right, ready_passed}
use Rattle.counts.proofs.Cleared.{cleared_rest}
use Rattle.checked.specs.Answers.{accepted}
use Rattle.checked.specs.Checked.{Checked, checked_of}
use Rattle.shelf.specs.Shelf.{Layout, rowed, size_of, span_of, on_part, on_society, kept_shelf, forgot_shelf}
use Rattle.shelf.specs.Calls.{Own, keep, fetch, forget, own, clear, laid_after, after}
use Rattle.shelf.proofs.Parts.{on_after}
use Rattle.shelf.proofs.Spans.{Lawful, society_length}
use Rattle.shelf.proofs.Rows.{rowed_lawful}
use Rattle.shelf.proofs.Answered.{after_passed, clear_passed}
use Rattle.shelf.proofs.Sound.{Sound, accepted_sound}
use Rattle.claims.proofs.Steps.{keep_step, forget_step, kept_same, forgot_same}

-- the words from b on, as a part that is long enough
all_of : (b : ℕ) (xs : List ℕ) → length xs ≡ shelf_words → take shelf_words (drop b xs) ≡ drop b xs
all_of b xs len = take_all shelf_words (drop b xs) (rw length-drop (omega arith))

module _ (row : List ℕ) (right : test_row row ≡ passed) where
  abbrev l : Layout
  l = rowed row

  ok : Lawful l
  ok = rowed_lawful row right

  -- where the rest starts: every span ends before it
  abbrev behind : ℕ
  behind = start_in row societies

  ends : (s : ℕ) → s ≤ 7 → l.start s + size_of l s ≤ behind
  ends s h = omega (arith, below_apart (count_in row) s societies (omega arith))

  -- ---- what is done to a span
  module _ (s : ℕ) (f : List ℕ → List ℕ) (xs : List ℕ) (len : length xs ≡ shelf_words) (same : s ≤ 7 → length (f (span_of l s xs)) ≡ size_of l s) where
    part_on : take shelf_words (drop behind (on_society l s f xs)) ≡ take shelf_words (drop behind xs)
    unfolding on_society
    part_on = go (leb s 7) refl
      where
        go : (b : Bool) → leb s 7 ≡ b → take shelf_words (drop behind (cond b (on_part (l.start s) (size_of l s) f xs) xs)) ≡ take shelf_words (drop behind xs)
        go true e =
            let h = leb-true s 7 e in
            on_after (l.start s) (size_of l s) f xs (omega (arith, ok.within s h)) (same h) behind shelf_words (ends s h)
        go false e = refl

    rest_on : rest_of row (on_society l s f xs) ≡ rest_of row xs
    rest_on = sym (all_of behind (on_society l s f xs) (society_length l ok s f xs len same)) ∙ part_on ∙ all_of behind xs len

  -- ---- each call
  kept_rest : (o : Checked) → (accepted o.verdict ≡ true → Sound o) → (xs : List ℕ) → length xs ≡ shelf_words → rest_of row (kept_shelf l o xs) ≡ rest_of row xs
  unfolding kept_shelf
  kept_rest o sound xs len = go (accepted o.verdict) refl
    where
      go : (b : Bool) → accepted o.verdict ≡ b → rest_of row (cond b (on_society l o.society (keep_step l ok o) xs) xs) ≡ rest_of row xs
      go true e = rest_on o.society (keep_step l ok o) xs len (λ h. kept_same l ok o xs len (sound e))
      go false e = refl

  laid_rest : (call : Own) (xs : List ℕ) → length xs ≡ shelf_words → rest_of row (laid_after l xs call) ≡ rest_of row xs
  unfolding forgot_shelf
  laid_rest (keep job proposal) xs len = kept_rest (checked_of job proposal) (accepted_sound job proposal) xs len
  laid_rest (fetch job room) xs len = refl
  laid_rest (forget s job) xs len = rest_on s (forget_step l ok s job) xs len (forgot_same l ok s job xs len)

pub rest_of_lem : (shelf : List ℕ) → Ready shelf → (call : Own) → rest_of (row_in shelf) (after shelf (own call)) ≡ rest_of (row_in shelf) shelf
rest_of_lem shelf r call = ap (rest_of (row_in shelf)) (sym (after_passed shelf call (ready_passed shelf r))) ∙ laid_rest (row_in shelf) r.row call shelf r.long

pub rest_cleared : (shelf counts : List ℕ) → length shelf ≡ shelf_words → test_row (row_in counts) ≡ passed → rest_of (row_in counts) (after shelf (clear counts)) ≡ rest_of (row_in counts) shelf
rest_cleared shelf counts len e = ap (rest_of (row_in counts)) (sym (clear_passed shelf counts (shelf_right (row_in counts) shelf len e)).1) ∙ cleared_rest (row_in counts) (right_eight counts e) e shelf len
