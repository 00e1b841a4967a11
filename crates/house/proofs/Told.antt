-- What is known of the words of a job that was read: where they stand, and how large they are.
use Rattle.std.proofs.Common.{◌≡◌, ℕ, ◌^◌, ◌<◌, ◌≤◌, List, ℤ, nat_abs, lit<, to_z-of_z, w64, to_z, of_z}
use Rattle.whole.proofs.Fits.{small_fits, gives}
use Rattle.jobs.specs.Words.{cells_of, order_of, job_of}
use Rattle.jobs.specs.declared.words.ReadJob.{ReadJob}
use Rattle.house.specs.Known.{Known}

-- a read job carries it
pub known : (job : ReadJob) → Known job.words.now
known job = record { allowed = job.allowed; laid = job.laid }

-- a word that is passed on
pub word_is : (x : ℤ) {c : ℕ} → nat_abs x ≤ c → c < 2 ^ 63 → to_z w64 (of_z w64 x) ≡ x
word_is x h r = to_z-of_z (small_fits x h r)

module _ {ws : List ℤ} (k : Known ws) where
  pub cells_few : cells_of ws ≤ 120
  cells_few = k.allowed.cells_few

  pub order_few : order_of ws ≤ 4
  order_few = k.allowed.order_few

  pub constant_small : nat_abs (job_of ws).constant ≤ 1000
  constant_small = k.allowed.constant.small

  pub constant_is : {x : ℤ} → x ≡ (job_of ws).constant → to_z w64 (of_z w64 x) ≡ (job_of ws).constant
  constant_is e = gives e (small_fits (job_of ws).constant constant_small (lit< tt))

  module _ {i : ℕ} (h : i < cells_of ws) where
    pub crude_small : nat_abs ((job_of ws).crude i) ≤ 1000000
    crude_small = (k.allowed.cell i h).crude.small

    pub weight_small : nat_abs ((job_of ws).weight i) ≤ 1000
    weight_small = (k.allowed.cell i h).weight.small

    pub crude_is : {x : ℤ} → x ≡ (job_of ws).crude i → to_z w64 (of_z w64 x) ≡ (job_of ws).crude i
    crude_is e = gives e (small_fits ((job_of ws).crude i) crude_small (lit< tt))

    pub weight_is : {x : ℤ} → x ≡ (job_of ws).weight i → to_z w64 (of_z w64 x) ≡ (job_of ws).weight i
    weight_is e = gives e (small_fits ((job_of ws).weight i) weight_small (lit< tt))
