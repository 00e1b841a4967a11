-- Two packs that the check has accepted: what was read of them stands in front of zeros, so counts and numbers of the lent words are the packs'.
use mathlib.Core.Path.{◌≡◌, sym, ap, ap₂, ◌∙◌, subst}
use mathlib.Core.List.{List}
use Prim.Native.Nat.{ℕ, ◌+◌, ◌*◌, ◌≤◌}
use native.Mathlib.Omega.{arith}
use lib.Dec.{eqb}
use lib.IntN.{ℤ, pos, nat_abs}
use lib.ListN.{length, replicate}
use lib.Seq.{sets}
use Rattle.std.specs.Prelude.{if◌then◌else◌}
use Rattle.fields.specs.Table.{grid_field}
use Rattle.packs.specs.Reading.{Outcome}
use Rattle.jobs.specs.Words.{count_at, cells_of, head_words, links_of, job_of}
use Rattle.jobs.specs.Allowed.{Counts}
use Rattle.jobs.specs.Packs.{read_job, read_proposal}
use Rattle.jobs.proofs.Counts.{order_counts}
use Rattle.jobs.proofs.Readings.{read_words_few}
use Rattle.measure.specs.Check.{accepting, check_of}
use Rattle.measure.specs.Opening.{if_read, proposal_words}
use Rattle.checked.specs.Checked.{taken_from, values_of, multipliers_of}
use Rattle.checked.specs.Answers.{accepted}
use Rattle.checked.specs.Given.{Rates, Wordlike, Given}
use Rattle.checked.proofs.Values.{scratch_length, same_word, same_numbers}
use Rattle.checked.proofs.Sound.{Packed, accepted_read}

module _ (job proposal : List ℕ) (F G : ℤ) (e : check_of job proposal ≡ accepting F G)
    (scratch : List ℤ) (stored : scratch ≡ sets (replicate 2092 (pos 0)) 0 (read_job job).words)
    (rates : List ℤ) (read : rates ≡ sets (replicate 280 (pos 0)) 0 (proposal_words job proposal)) where
  abbrev ws : List ℤ
  ws = (read_job job).words

  -- the proposal's numbers
  abbrev numbers : List ℤ
  numbers = (read_proposal (job_of ws).cells (job_of ws).links proposal).words

  packed : Packed job proposal
  packed = accepted_read job proposal (ap accepted e)

  few : length ws ≤ 2092
  few = read_words_few job packed.job_done.0 packed.job_done.1

  same_count : (i : ℕ) → count_at scratch i ≡ count_at ws i
  same_count i = ap (λ (z : ℤ). nat_abs z) (same_word 2092 ws few scratch stored i)

  same_head : head_words scratch ≡ head_words ws
  unfolding head_words
  same_head = ap (λ (field : ℕ). if eqb field grid_field then 11 else 6) (same_count 3)

  order_counted : Counts scratch 3
  order_counted =
      let C = order_counts packed.allowed packed.laid in
      record {
        inside = omega (arith, C.inside, few, scratch_length 2092 ws few scratch stored);
        natural = same_word 2092 ws few scratch stored 3 ∙ C.natural ∙ ap pos (sym (same_count 3));
        small = omega (arith, C.small, same_count 3);
      }

  same_links : links_of scratch ≡ links_of ws
  same_links = same_count (head_words scratch + 4 * cells_of scratch) ∙ ap₂ (λ (h n : ℕ). count_at ws (h + 4 * n)) same_head (same_count 2)

  over : rates ≡ sets (replicate 280 (pos 0)) 0 numbers
  over = read ∙ ap (λ (o : Outcome). sets (replicate 280 (pos 0)) 0 (if_read o numbers)) packed.job_done.1

  short : length numbers ≤ 280
  short = omega (arith, packed.proposed.count, packed.allowed.cells_few, packed.allowed.links_few)

  pub given_packs : Given scratch rates
  given_packs =
      let A = packed.allowed in
      let P = packed.proposed in
      record {
        job = record {
          room = scratch_length 2092 ws few scratch stored;
          society = omega (arith, same_count 0, A.society);
          number = omega (arith, same_count 1, A.number);
          cells = omega (arith, same_count 2, A.cells_few);
          order = order_counted;
          links = omega (arith, same_links, A.links_few);
        };
        values = subst (λ (n : ℕ). Rates n rates) (sym (same_count 2)) (record {
          few = A.cells_few;
          inside = omega (arith, A.cells_few, scratch_length 280 numbers short rates over);
          small = λ i h. subst (λ (z : ℤ). nat_abs z ≤ 1000000) (sym (same_word 280 numbers short rates over i)) (P.value i h).small;
        });
        multipliers = subst (λ (m : ℕ). Wordlike (cells_of scratch) m rates) (sym same_links) (subst (λ (n : ℕ). Wordlike n (links_of ws) rates) (sym (same_count 2)) (record {
          inside = omega (arith, A.cells_few, A.links_few, scratch_length 280 numbers short rates over);
          small = λ i h. omega (arith, ap (λ (z : ℤ). nat_abs z) (same_word 280 numbers short rates over (cells_of ws + i)), (P.multiplier i h).small);
        }));
      }

  same_first : taken_from 0 (cells_of scratch) rates ≡ values_of (job_of ws) proposal
  same_first =
      ap (λ (n : ℕ). taken_from 0 n rates) (same_count 2) ∙ same_numbers 280 numbers short rates over 0 (cells_of ws) (omega (arith, packed.proposed.count))

  -- what the packs name is what stands in the lent words
  pub packs_name : {A : Type 0} (f : (society job : ℕ) (values : List ℕ) → A)
      → f (count_at scratch 0) (count_at scratch 1) (taken_from 0 (cells_of scratch) rates) ≡ f (count_at ws 0) (count_at ws 1) (values_of (job_of ws) proposal)
  packs_name {A} f =
      ap₂ {C = A} (λ (s j : ℕ). f s j (taken_from 0 (cells_of scratch) rates)) (same_count 0) (same_count 1)
      ∙ ap {B = A} (f (count_at ws 0) (count_at ws 1)) same_first

  -- and its multipliers
  pub packs_multiply : taken_from (cells_of scratch) (links_of scratch) rates ≡ multipliers_of (job_of ws) proposal
  packs_multiply =
      ap₂ (λ (a n : ℕ). taken_from a n rates) (same_count 2) same_links
      ∙ same_numbers 280 numbers short rates over (cells_of ws) (links_of ws) (omega (arith, packed.proposed.count))
