-- The line of an accepted table, from a job's words and a proposal's rates on to the two packs.
use Prim.Native.Nat.{ℕ, ◌≤◌}
use mathlib.Core.Path.{◌≡◌, sym, ap, ap₂, ◌∙◌}
use mathlib.Core.List.{List, [], ◌∷◌, ◌++◌}
use native.Mathlib.Omega.{arith}
use lib.IntN.{ℤ, pos, nat_abs}
use lib.ListN.{length, replicate}
use lib.Seq.{sets}
use Rattle.jobs.specs.Words.{count_at, cells_of}
use Rattle.jobs.specs.Packs.{read_job}
use Rattle.measure.specs.Check.{Verdict, accepting, check_of}
use Rattle.measure.specs.Opening.{proposal_words}
use Rattle.checked.specs.Checked.{taken_from, checked_of}
use Rattle.checked.specs.Given.{JobWords, Rates}
use Rattle.checked.proofs.Packs.{packs_name}
use Rattle.line.specs.Line.{later, printed, verdict_line, checked_line}
use Rattle.decimals.specs.Puts.{Puts, Room}
use Rattle.line.specs.Puts.{head_fields}
use Rattle.line.specs.Promises.{RefusedLines}
use Rattle.decimals.proofs.Stores.{puts_then, puts_same, room_first, room_then, room_same}
use Rattle.line.proofs.Parts.{table_parts}
use Rattle.line.proofs.Widths.{table_fits, rates_small}

-- ---- a job's words and a proposal's rates
abbrev pub table_line : (words rates : List ℤ) (n loss gap : ℕ) → List ℕ
table_line words rates n loss gap = printed 0 (count_at words 0 ∷ count_at words 1 ∷ loss ∷ gap ∷ taken_from 0 n rates)

pub words_fit : (words rates : List ℤ) (n loss gap : ℕ) → JobWords words → Rates n rates → length (table_line words rates n loss gap) ≤ 1024
words_fit words rates n loss gap J R = table_fits (count_at words 0) (count_at words 1) loss gap (taken_from 0 n rates) J.society J.number (rates_small n rates R)

module _ {words rates : List ℤ} {n : ℕ} (J : JobWords words) (R : Rates n rates) {s j : ℕ} (p : s ≡ count_at words 0) (q : j ≡ count_at words 1)
    (loss gap : ℕ) (out : List ℕ) (room : 1024 ≤ length out) where
  parts : head_fields s j loss gap ++ (later (taken_from 0 n rates) ++ (10 ∷ [])) ≡ table_line words rates n loss gap
  parts = table_parts s j loss gap (taken_from 0 n rates) ∙ ap₂ (λ (a b : ℕ). printed 0 (a ∷ b ∷ loss ∷ gap ∷ taken_from 0 n rates)) p q

  whole : Room (head_fields s j loss gap ++ (later (taken_from 0 n rates) ++ (10 ∷ []))) 0 out
  whole = room_same (sym parts) (record { fits = omega (arith, words_fit words rates n loss gap J R) })

  pub room_head : Room (head_fields s j loss gap) 0 out
  room_head = room_first (head_fields s j loss gap) (later (taken_from 0 n rates) ++ (10 ∷ [])) whole

  module _ {mid : List ℕ} {at : ℕ} (head : Puts (head_fields s j loss gap) out 0 at mid) where
    pub room_values : Room (later (taken_from 0 n rates)) at mid
    room_values = room_first (later (taken_from 0 n rates)) (10 ∷ []) (room_then head whole)

    module _ {after : List ℕ} {end : ℕ} (values : Puts (later (taken_from 0 n rates)) mid at end after) where
      pub room_end : Room (10 ∷ []) end after
      room_end = room_then values (room_then head whole)

      pub put_table : {last : List ℕ} {r : ℕ} → Puts (10 ∷ []) after end r last → Puts (table_line words rates n loss gap) out 0 r last
      put_table feed = puts_same parts (puts_then head (puts_then values feed))

-- ---- two packs that the check has accepted
module _ (job proposal : List ℕ) (F G : ℤ) (e : check_of job proposal ≡ accepting F G)
    (scratch : List ℤ) (stored : scratch ≡ sets (replicate 2092 (pos 0)) 0 (read_job job).words)
    (read : List ℤ) (kept : read ≡ sets (replicate 280 (pos 0)) 0 (proposal_words job proposal)) where
  pub accepted_line : table_line scratch read (cells_of scratch) (nat_abs F) (nat_abs G) ≡ checked_line (checked_of job proposal)
  unfolding checked_of checked_line
  accepted_line =
      packs_name job proposal F G e scratch stored read kept (λ s j vs. printed 0 (s ∷ j ∷ nat_abs F ∷ nat_abs G ∷ vs))
      ∙ sym (ap (λ (v : Verdict). verdict_line v (checked_of job proposal)) e)

-- ---- and two that it has refused
pub refused_lines : RefusedLines
unfolding checked_of checked_line
refused_lines job proposal r e = ap (λ (v : Verdict). verdict_line v (checked_of job proposal)) e
