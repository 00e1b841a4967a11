-- How large the places of the two packs can be: a job has at most 2,092 numbers, a proposal for one at most 280.
use Prim.Native.Nat.{ℕ, ◌*◌, ◌≤◌}
use mathlib.Core.Path.{refl}
use mathlib.Core.List.{List}
use native.Mathlib.Omega.{arith}
use lib.IntN.{ℤ}
use Rattle.fields.specs.declared.Field.{Field}
use Rattle.fields.specs.declared.Field.TheVariants.{Society}
use Rattle.fields.specs.Table.{values_from}
use Rattle.fields.proofs.Budget.{budget, budget_values}
use Rattle.packs.specs.Reading.{Outcome, read_from}
use Rattle.packs.specs.Writing.{write_from}
use Rattle.packs.proofs.Near.{Near, read_near, write_near}
use Rattle.jobs.specs.Packs.{read_job, write_job}
use Rattle.std.specs.Prelude.{Ok, Err}

pub job_read_near : (s : List ℕ) → Near 20920 (read_job s).outcome
job_read_near s = read_near Society refl s

pub job_written_near : (ws : List ℤ) → Near 20920 (write_job ws).outcome
job_written_near ws = write_near Society refl ws

near_more : {a b : ℕ} (o : Outcome) → a ≤ b → Near a o → Near b o
near_more (Ok n) h l = omega arith
near_more (Err r) h l = (l.0, l.1, omega (arith, l.2))

module _ (cells links : ℕ) (c : cells ≤ 120) (l : links ≤ 160) where
  abbrev first : Field
  first = values_from cells links

  few : 10 * budget first ≤ 2800
  few = omega (arith, (budget_values cells links).0)

  pub proposal_read_near : (s : List ℕ) → Near 2800 (read_from first s).outcome
  proposal_read_near s = near_more (read_from first s).outcome few (read_near first (budget_values cells links).1 s)

  pub proposal_written_near : (ws : List ℤ) → Near 2800 (write_from ws first 0).outcome
  proposal_written_near ws = near_more (write_from ws first 0).outcome few (write_near first (budget_values cells links).1 ws)
