-- A line and a grid after their solve: the factor that a pass runs on, and the values that it starts from.
use Prim.Native.Nat.{ℕ, ◌+◌, ◌*◌, ◌≤◌}
use mathlib.Core.Path.{◌≡◌, sym, ap, ◌∙◌}
use mathlib.Core.List.{List, ◌++◌, append-nil}
use native.Mathlib.Nat as N
use native.Mathlib.Omega.{arith}
use lib.IntN.{ℤ}
use lib.Ieee.{Float}
use lib.ListN.{length, take, drop_of_length-le, take-append-drop}
use lib.Seq.{sets, sets-eq}
use Rattle.jobs.specs.Job.{Job}
use Rattle.jobs.specs.Words.{cells_of, columns_of, order_of, job_of}
use Rattle.factor.specs.Factor.{Ending}
use Rattle.factor.specs.Places.{Starts, Placed}
use Rattle.factor.proofs.Turns.{factor_length}
use Rattle.jobs.specs.declared.words.ReadJob.{ReadJob}
use Rattle.house.specs.Band.{band_of}
use Rattle.house.specs.Factoring.{Solved, Solves, front, HandsOut, rows_of, solved_with}
use Rattle.house.specs.Grid.{reach, grid_rows, grid_solved}
use Rattle.house.specs.declared.grid.Grid.{Grid}
use Rattle.house.specs.Proposal.{line_solved, solved_of}
use Rattle.house.proofs.Told.{known, cells_few, order_few}
use Rattle.house.proofs.Shaped.{one_column, more_columns}
use Rattle.house.proofs.Places.{reach_few}
use Rattle.house.proofs.Solving.{line_is, grid_is, line_places, grid_places, pivots_length}
use Rattle.factor.specs.declared.Factor.{Factor}
use Rattle.linked.specs.Given.{Factored}

pub line_room : (j : Job) → length (line_solved j).multipliers ≡ 480
unfolding line_solved solved_with
line_room j = factor_length (rows_of (band_of j)) j.order j.cells 0 _ _

line_pivots : (j : Job) → length (line_solved j).pivots ≡ 120
unfolding line_solved solved_with
line_pivots j = pivots_length (rows_of (band_of j)) j.order j.cells 0 _ _

-- a list that is as long as the room goes out whole
front_whole : (room xs : List Float) → length xs ≡ length room → front room xs ≡ xs
front_whole room xs e =
    let all : take (length room) xs ≡ xs = sym (append-nil (take (length room) xs)) ∙ ap (λ (r : List Float). take (length room) xs ++ r) (sym (drop_of_length-le xs {i = length room} (omega (arith, e)))) ∙ take-append-drop (length room) xs in
    ap (sets room 0) all ∙ sets-eq xs room 0 (omega (arith, e)) ∙ ap (λ (r : List Float). xs ++ r) (drop_of_length-le room {i = 0 + length xs} (omega (arith, e))) ∙ append-nil xs

-- so a line's factor does
pub line_out : (j : Job) (d₀ l₀ : List Float) → length d₀ ≡ 120 → length l₀ ≡ 480 → {e : Ending} {d l v : List Float} → HandsOut (line_solved j) d₀ l₀ e d l v
    → Solves (line_solved j) e d l v
line_out j d₀ l₀ hd hl h = (h.0, h.1 ∙ front_whole d₀ (line_solved j).pivots (line_pivots j ∙ sym hd), h.2 ∙ front_whole l₀ (line_solved j).multipliers (line_room j ∙ sym hl), h.3)

pub grid_room : (j : Job) → length (grid_solved j).multipliers ≡ 4584
unfolding grid_solved solved_with
grid_room j = factor_length (grid_rows j) (reach j) j.cells 0 _ _

-- there is room for the rows that were made
pub few : (job : ReadJob) {n : ℕ} → n ≡ cells_of job.words.now → n ≤ 120
few job en = omega (arith, en, cells_few (known job))

module _ {z n : ℕ} {starts : List ℕ} (st : Starts z n starts) {e : Ending} {d l v : List Float} where
  pub line_fits : (job : ReadJob) → n ≡ cells_of job.words.now → z ≡ order_of job.words.now → Solves (line_solved (job_of job.words.now)) e d l v → Placed z n starts l
  line_fits job en ez h = line_places st (few job en) (omega (arith, ez, order_few (known job))) (ap length h.2 ∙ line_room (job_of job.words.now))

  pub grid_fits : (grid : Grid) → n ≡ cells_of grid.job.words.now → z ≡ grid.z → Solves (grid_solved (job_of grid.job.words.now)) e d l v → Placed z n starts l
  grid_fits grid en ez h =
      grid_places st (few grid.job en) (omega (arith, ez, grid.reach_is, reach_few (known grid.job) grid.columns_few)) (ap length h.2 ∙ grid_room (job_of grid.job.words.now))

-- what is known after a solve
abbrev Ready : List ℤ → Factor → Ending → (v : List Float) → Type 0
Ready ws f e v = (e ≡ (solved_of (job_of ws)).ending) × Factored ws f × (v ≡ (solved_of (job_of ws)).values)

module _ {ws : List ℤ} {f : Factor} (en : f.cells ≡ cells_of ws) {e : Ending} {v : List Float} where
  ready : f.reach ≡ reach (job_of ws) → {s : Solved} → s ≡ solved_of (job_of ws) → Solves s e f.pivots.now f.multipliers.now v → Ready ws f e v
  ready ez p h = (
    h.0 ∙ ap {B = Ending} (λ (s : Solved). s.ending) p,
    record {
      n_is = en;
      z_is = ez;
      d_is = h.1 ∙ ap {B = List Float} (λ (s : Solved). s.pivots) p;
      l_is = h.2 ∙ ap {B = List Float} (λ (s : Solved). s.multipliers) p;
    },
    h.3 ∙ ap {B = List Float} (λ (s : Solved). s.values) p,
  )

module _ (job : ReadJob) {f : Factor} (en : f.cells ≡ cells_of job.words.now) {e : Ending} {v : List Float} where
  pub line_ready : columns_of job.words.now ≡ 1 → f.reach ≡ order_of job.words.now → Solves (line_solved (job_of job.words.now)) e f.pivots.now f.multipliers.now v → Ready job.words.now f e v
  line_ready one ez h =
      let ws = job.words.now in
      ready {ws = ws} {f = f} en (ez ∙ sym (N.mul-one (order_of ws)) ∙ ap (λ (c : ℕ). order_of ws * c) (sym one)) (line_is (job_of ws) (one_column (known job) one)) h

module _ (grid : Grid) {f : Factor} (en : f.cells ≡ cells_of grid.job.words.now) {e : Ending} {v : List Float} where
  pub grid_ready : (columns_of grid.job.words.now ≡ 1 → ⊥) → f.reach ≡ grid.z → Solves (grid_solved (job_of grid.job.words.now)) e f.pivots.now f.multipliers.now v → Ready grid.job.words.now f e v
  grid_ready more ez h = let ws = grid.job.words.now in ready {ws = ws} {f = f} en (ez ∙ grid.reach_is) (grid_is (job_of grid.job.words.now) (more_columns (known grid.job) more)) h
