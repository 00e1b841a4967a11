-- What the functions of this crate count on: the numbers of a cell, of a link and of a tally lie in the ranges that document 01's "Numbers allowed" leave
-- them. Each record holds what one function asks for.
use Rattle.std.specs.Prelude.{ℕ, ◌+◌, ◌≤◌, ℤ, pos, nat_abs, ◌≤ℤ◌}
use Rattle.jobs.specs.Allowed.{Upto}
use Rattle.tally.specs.declared.term.Supplied.{Supplied}
use Rattle.tally.specs.declared.Tally.{Tally}
use Rattle.tally.specs.Supplied.{amount_of}

-- A residual with its box and value.
pub record Boxed (r lo hi v : ℤ) : Type 0 where
  pub r_small : nat_abs r ≤ 7000000000000
  pub lo_in : Upto 1000000 lo
  pub hi_in : Upto 1000000 hi
  pub v_in : Upto 1000000 v

-- A positive weight, and a residual whose square counts.
pub record Squares (w r : ℤ) : Type 0 where
  pub w_in : Upto 1000 w
  pub w_some : 1 ≤ nat_abs w
  pub r_small : nat_abs r ≤ 2000000000

pub record CellNumbers (w r lo hi v : ℤ) : Type 0 where
  pub w_in : Upto 1000 w
  pub box : Boxed r lo hi v

-- A multiplier, a link's bound and its sum.
pub record LinkNumbers (y b s : ℤ) : Type 0 where
  pub y_in : Upto 1000000000 y
  pub b_small : nat_abs b ≤ 1000000000
  pub s_small : nat_abs s ≤ 40000000

-- A tolerance, a running total and the next term.
pub record Settles (tolerance total t : ℤ) : Type 0 where
  pub tolerance_in : Upto 1000000000000000 tolerance
  pub total_least : pos 0 ≤ℤ total
  pub total_small : nat_abs total ≤ 8000000000000000000
  pub t_small : nat_abs t ≤ 7000000000000000000

-- A tolerance, a tally and the next term.
pub record Tallies (tolerance : ℤ) (tally : Tally) (t : ℤ) : Type 0 where
  pub settles : Settles tolerance tally.total t
  pub largest_small : nat_abs tally.largest ≤ 7000000000000000000

-- A cell term, whichever side supplied it.
pub record Amount (s : Supplied) : Type 0 where
  pub small : nat_abs (amount_of s) ≤ 7000000000000000000

-- The tallies of n cells and of the links.
pub record Led (n : ℕ) (cells links : Tally) : Type 0 where
  pub cells_small : nat_abs cells.largest ≤ 7000000000000000000
  pub links_small : nat_abs links.largest ≤ 7000000000000000000
  pub few : n + links.place ≤ 280
