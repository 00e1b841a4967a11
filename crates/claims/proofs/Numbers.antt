-- A job pack is refused with a number from 1 to 5.
use Prim.Native.Nat.{ℕ, ◌≤◌}
use mathlib.Core.Path.{◌≡◌, subst}
use mathlib.Core.List.{List}
use Rattle.packs.proofs.Near.{Near}
use Rattle.jobs.specs.Packs.{read_job}
use Rattle.jobs.proofs.Near.{job_read_near}
use Rattle.std.specs.Prelude.{Err}
use Rattle.refusals.specs.declared.Refusal.{Refusal}
use Rattle.refusals.specs.Refusals.{number_of}

abbrev pub OneToFive : ℕ → Type 0
OneToFive number = (1 ≤ number) × (number ≤ 5)

pub refused_one_to_five : (job : List ℕ) (r : Refusal) → (read_job job).outcome ≡ Err r → OneToFive (number_of r)
refused_one_to_five job r e = let near = subst (Near 20920) e (job_read_near job) in (near.0, near.1)
