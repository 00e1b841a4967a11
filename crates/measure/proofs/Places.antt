-- Where the words of a job stand, and what is known of each: a job that is `Allowed` and `Laid` has its cells' words first and then its links' words,
-- all inside the list.
use Prim.Native.Nat.{ℕ, ◌<◌}
use mathlib.Core.List.{List}
use native.Mathlib.Omega.{arith}
use lib.IntN.{ℤ}
use Rattle.jobs.specs.Words.{links_of, start_of, job_of}
use Rattle.jobs.specs.Allowed.{Allowed, Laid}
use Rattle.jobs.proofs.Places.{link_inside}
use Rattle.measure.specs.Given.{LinkAt}

module _ {ws : List ℤ} (A : Allowed (job_of ws)) (L : Laid ws) where
  pub link_at_lem : (l : ℕ) → l < links_of ws → LinkAt ws (start_of ws l)
  link_at_lem l h = record {
    inside = link_inside L l h;
    terms = record { natural = L.terms l h; small = (A.link l h).terms_few };
    cell = λ m k. record { natural = L.cell l m h k; small = omega (arith, ((A.link l h).term m k).cell, A.cells_few) };
    cell_inside = λ m k. ((A.link l h).term m k).cell;
    coefficient = λ m k. ((A.link l h).term m k).coefficient_small;
    bound = (A.link l h).bound;
  }
