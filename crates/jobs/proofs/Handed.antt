-- A job's words on their way to the lender, and a proposal's refusals: what the two readers and the writer of this crate add to `packs`.
use Prim.Native.Nat.{ℕ, ◌+◌, ◌-◌, ◌≤◌}
use mathlib.Core.Path.{◌≡◌, sym, ap, ◌∙◌}
use mathlib.Core.List.{List}
use native.Mathlib.Omega.{arith}
use lib.IntN.{ℤ, pos}
use lib.ListN.{length, take, drop, replicate, length-replicate}
use lib.Seq.{sets, sets-eq, length-sets, take_at}
use Rattle.fields.specs.declared.Field.TheVariants.{Society}
use Rattle.packs.specs.Writing.{Written, refused, in_room, roomed}
use Rattle.packs.specs.Walking.{numbers_from, packed}
use Rattle.packs.proofs.Packing.{numbers_counted, numbers_done, numbers_refused}
use Rattle.packs.proofs.Near.{numbers_few}
use Rattle.jobs.specs.Packs.{read_job, write_job, handed_out, read_job_into}
use Rattle.jobs.proofs.Readings.{read_words_counted, read_words_few}
use Rattle.std.specs.Prelude.{Ok, Err}
use Rattle.refusals.specs.declared.Refusal.{Refusal}

-- ---- lent words that hold all that is stored

module _ (l₀ : List ℤ) {room : ℕ} (long : length l₀ ≡ room) (ws : List ℤ) {k : ℕ} (count : length ws ≡ k) (few : k ≤ room) {l : List ℤ} (stored : l ≡ sets l₀ 0 ws) where
  pub held_room : k ≤ length l
  held_room = omega (arith, ap length stored ∙ length-sets l₀ 0 ws ∙ long)

  pub held_part : take k l ≡ ws
  held_part = ap (take k) (stored ∙ sets-eq ws l₀ 0 (omega (arith, long, count))) ∙ take_at ws (drop (0 + length ws) l₀) k count

-- ---- a scratch of 2,092 words holds a job

long : length (replicate 2092 (pos 0)) ≡ 2092
long = length-replicate 2092 (pos 0)

-- its words, as they are read
module _ (s : List ℕ) {k : ℕ} (e : (read_job s).outcome ≡ Ok k) {scratch : List ℤ} (stored : scratch ≡ sets (replicate 2092 (pos 0)) 0 (read_job s).words) where
  few_words : k ≤ 2092
  few_words = omega (arith, read_words_counted s k e, read_words_few s k e)

  pub scratch_room : k ≤ length scratch
  scratch_room = held_room (replicate 2092 (pos 0)) long (read_job s).words (sym (read_words_counted s k e)) few_words stored

  pub scratch_part : take (k - 0) scratch ≡ (read_job s).words
  scratch_part = held_part (replicate 2092 (pos 0)) long (read_job s).words {k = k - 0} (omega (arith, read_words_counted s k e)) (omega (arith, few_words)) stored

  pub scratch_handed : (room : ℕ) → handed_out room (take k scratch) (Ok k) ≡ read_job_into room s
  scratch_handed room =
      rw (held_part (replicate 2092 (pos 0)) long (read_job s).words (sym (read_words_counted s k e)) few_words stored) (ap (handed_out room (read_job s).words) (sym e))

-- the numbers that stand for them, as they are written
module _ (ws : List ℤ) {k : ℕ} (e : (numbers_from ws 0 Society 0).outcome ≡ Ok k) {scratch : List ℤ}
    (stored : scratch ≡ sets (replicate 2092 (pos 0)) 0 (numbers_from ws 0 Society 0).words) where
  pub numbers_room : k ≤ length scratch
  numbers_room =
      held_room (replicate 2092 (pos 0)) long (numbers_from ws 0 Society 0).words (omega (arith, numbers_counted ws 0 Society 0 k e)) (omega (arith, numbers_few ws 0 Society 0 k e)) stored

  pub job_written : (room : ℕ) → in_room room (packed (take (k - 0) scratch)) (Ok (length (packed (take (k - 0) scratch)))) ≡ roomed room (write_job ws)
  job_written room =
      rw (held_part (replicate 2092 (pos 0)) long (numbers_from ws 0 Society 0).words {k = k - 0} (omega (arith, numbers_counted ws 0 Society 0 k e)) (omega (arith, numbers_few ws 0 Society 0 k e)) stored)
      (ap {B = Written} (roomed room) (sym (numbers_done ws Society e)))

pub job_refused : (room : ℕ) (ws : List ℤ) {r : Refusal} → (numbers_from ws 0 Society 0).outcome ≡ Err r → refused r ≡ roomed room (write_job ws)
job_refused room ws e = ap {B = Written} (in_room room (write_job ws).bytes) (sym (numbers_refused ws Society e))
