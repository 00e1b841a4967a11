-- What the functions of this crate count on: the numbers of a job and of a proposal that were read lie in the ranges of document 01, "Numbers
-- allowed". Each record holds what one function asks for.
use Rattle.std.specs.Prelude.{ℕ, ◌+◌, ◌*◌, ◌≤◌, ◌<◌, ◌≡◌, true, List, ℤ, pos, nat_abs, ◌+ℤ◌, length, ◌≤ℤ◌}
use Rattle.jobs.specs.Words.{word_at, count_at, cells_of, links_of, job_of}
use Rattle.jobs.specs.Allowed.{Upto, Allowed, Laid, Proposed}
use Rattle.tally.specs.declared.Tally.{Tally}
use Rattle.tally.specs.Tally.{tallied_of}
use Rattle.measure.specs.OnWords.{in_box_on, holds_on, smooth_on, link_part_on, link_term_on}

-- The words of a job, and those of a proposal for it.
pub record Given (ws ps : List ℤ) : Type 0 where
  pub allowed : Allowed (job_of ws)
  pub laid : Laid ws
  pub proposed : Proposed (cells_of ws) (links_of ws) ps

-- The coefficients of a row of order z, whichever they are.
pub record Coefficients (z : ℕ) (row : List ℤ) : Type 0 where
  pub few : z ≤ 4
  pub small : (m : ℕ) → m ≤ z → nat_abs (word_at row m) ≤ 1000

-- A row and the rates that its difference at the cell i uses.
pub record Differs (row : List ℤ) (z stride i : ℕ) (v : List ℤ) : Type 0 where
  pub coefficients : Coefficients z row
  pub inside : i + z * stride < length v
  pub rates : (m : ℕ) → m ≤ z → Upto 1000000 (word_at v (i + m * stride))

-- A difference whose coefficients, times y, are added to the parts of the cells that it uses.
pub record GivesBack (row : List ℤ) (z stride i : ℕ) (y : ℤ) (parts : List ℤ) : Type 0 where
  pub coefficients : Coefficients z row
  pub y_small : nat_abs y ≤ 20000000000
  pub inside : i + z * stride < length parts
  pub small : (m : ℕ) → m ≤ z → nat_abs (word_at parts (i + m * stride)) ≤ 100000000000000000

-- One direction of smoothing over n rates: differences of order z with a stride, in rows of `width` cells, with the constant k; and the parts of the cells.
pub record Smooths (v : List ℤ) (n z stride width : ℕ) (k : ℤ) (parts : List ℤ) : Type 0 where
  pub order_some : 1 ≤ z
  pub order_few : z ≤ 4
  pub stride_some : 1 ≤ stride
  pub width_some : 1 ≤ width
  pub cells_few : n ≤ 120
  pub reach : z * stride < n
  pub inside : n ≤ length v
  pub rates : (i : ℕ) → i < n → Upto 1000000 (word_at v i)
  pub constant : nat_abs k ≤ 1000
  pub room : n ≤ length parts
  pub small : (i : ℕ) → i < n → nat_abs (word_at parts i) ≤ 10000000000000

-- A job and a proposal with n cells, and the link parts of the cells.
pub record Smoothing (ws ps : List ℤ) (n : ℕ) (parts : List ℤ) : Type 0 where
  pub given : Given ws ps
  pub n_is : n ≡ cells_of ws
  pub room : n ≤ length parts
  pub small : (i : ℕ) → i < n → nat_abs (word_at parts i) ≤ 6400000000000

-- The words of a link that starts at s.
pub record LinkAt (ws : List ℤ) (s : ℕ) : Type 0 where
  pub inside : s + 2 * count_at ws s + 2 ≤ length ws
  pub terms : Upto 4 (word_at ws s)
  pub cell : (m : ℕ) → m < count_at ws s → Upto 119 (word_at ws (s + 1 + 2 * m))
  pub cell_inside : (m : ℕ) → m < count_at ws s → count_at ws (s + 1 + 2 * m) < cells_of ws
  pub coefficient : (m : ℕ) → m < count_at ws s → nat_abs (word_at ws (s + 2 + 2 * m)) ≤ 10
  pub bound : nat_abs (word_at ws (s + 1 + 2 * count_at ws s)) ≤ 1000000000

-- A link and a proposal.
pub record Linked (ws ps : List ℤ) (s : ℕ) : Type 0 where
  pub link : LinkAt ws s
  pub proposed : Proposed (cells_of ws) (links_of ws) ps

-- A product that is added to the part of a cell.
pub record Adding (parts : List ℤ) (cell : ℕ) (y c : ℤ) : Type 0 where
  pub inside : cell < length parts
  pub now_small : nat_abs (word_at parts cell) ≤ 200000000000000000
  pub y_small : nat_abs y ≤ 20000000000
  pub c_small : nat_abs c ≤ 1000

-- A link whose multiplier times coefficients are added to link parts.
pub record Scattering (ws : List ℤ) (s : ℕ) (y : ℤ) (parts : List ℤ) : Type 0 where
  pub link : LinkAt ws s
  pub y_in : Upto 1000000000 y
  pub room : cells_of ws ≤ length parts
  pub small : (i : ℕ) → i < cells_of ws → nat_abs (word_at parts i) ≤ 7000000000000

-- A walk over all links of a job with n cells, and link parts that are all 0.
pub record Walking (ws ps : List ℤ) (n : ℕ) (parts : List ℤ) : Type 0 where
  pub given : Given ws ps
  pub n_is : n ≡ cells_of ws
  pub room : n ≤ length parts
  pub zeros : (i : ℕ) → word_at parts i ≡ pos 0

-- The numbers of a residual.
pub record Slopes (w v u part : ℤ) : Type 0 where
  pub w_in : Upto 1000 w
  pub v_in : Upto 1000000 v
  pub u_in : Upto 1000000 u
  pub part_small : nat_abs part ≤ 6912000000000

-- The cell i, with what links and differences add to its residual, or with its residual.
pub record ResidualAt (ws ps : List ℤ) (i : ℕ) (part : ℤ) : Type 0 where
  pub given : Given ws ps
  pub inside : i < cells_of ws
  pub part_small : nat_abs part ≤ 6912000000000

pub record CellAt (ws ps : List ℤ) (i : ℕ) (r : ℤ) : Type 0 where
  pub given : Given ws ps
  pub inside : i < cells_of ws
  pub r_small : nat_abs r ≤ 7000000000000

-- The cells of a table that lies in its boxes, with what links and differences add to their residuals, and the total of the link terms.
pub record Totalling (ws ps : List ℤ) (n : ℕ) (parts : List ℤ) (start : ℤ) : Type 0 where
  pub given : Given ws ps
  pub n_is : n ≡ cells_of ws
  pub room : n ≤ length parts
  pub parts_are : (i : ℕ) → i < n → word_at parts i ≡ link_part_on ws ps i +ℤ smooth_on ws ps i
  pub boxes : (i : ℕ) → i < n → in_box_on ws ps i ≡ true
  pub start_least : pos 0 ≤ℤ start
  pub start_small : nat_abs start ≤ 8000000000000000000

-- A table in its boxes.
pub record Boxes (ws ps : List ℤ) (n : ℕ) : Type 0 where
  pub given : Given ws ps
  pub n_is : n ≡ cells_of ws
  pub boxes : (i : ℕ) → i < n → in_box_on ws ps i ≡ true

-- A table that meets its boxes and links, with its link parts; and with the tally of its link terms too.
pub record Parted (ws ps : List ℤ) (n : ℕ) (parts : List ℤ) : Type 0 where
  pub table : Boxes ws ps n
  pub kept : (l : ℕ) → l < links_of ws → holds_on ws ps l ≡ true
  pub parts_room : n ≤ length parts
  pub parts_are : (i : ℕ) → i < n → word_at parts i ≡ link_part_on ws ps i

pub record Judging (ws ps : List ℤ) (n : ℕ) (tally : Tally) (parts : List ℤ) : Type 0 where
  pub parted : Parted ws ps n parts
  pub tally_is : tally ≡ tallied_of (job_of ws).tolerance (pos 0) (link_term_on ws ps) (links_of ws)
