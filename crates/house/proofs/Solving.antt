-- The values of a job follow from its factor, by what the job is.
use Rattle.std.proofs.Common.{◌≡◌, ℕ, zero, suc, ◌+◌, ◌≤◌, Bool, true, false, List, length, set, replicate, sym, refl, ap, ◌∙◌, subst, arith, length-set, Ok, Err}
use native.Mathlib.Nat as N
use lib.Ieee.{Float}
use lib.Seq.{sets}
use Rattle.std.specs.Prelude.{if◌then◌else◌}
use Rattle.jobs.specs.Job.{Job}
use Rattle.factor.specs.Factor.{Ending, Pivot, Band, Factor, start_of, judged, factor_step, on_pivot, factor_from, factor_of}
use Rattle.factor.specs.Places.{Starts, Placed}
use Rattle.factor.specs.Solve.{solved_by}
use Rattle.factor.proofs.Turns.{start_rises, start_wider}
use Rattle.house.specs.Band.{zero64, band_of, right_of}
use Rattle.house.specs.Factoring.{Solved, Solves, front, HandsOut, rows_of, solved_with}
use Rattle.house.specs.Grid.{reach, grid_rows, grid_solved}
use Rattle.house.specs.Proposal.{line_solved, solved_of}

-- a factor and the solve with it, by how the factoring ended
abbrev Makes : Factor → Ending → (d l : List Float) → Type 0
Makes f e d l = (e ≡ f.ending) × (d ≡ f.pivots) × (l ≡ f.multipliers)

pub solved_holds : (room : ℕ) (band : Band) (z n : ℕ) (right : List Float) {e r : Ending} {d l v : List Float} → Makes (factor_of room band z n) e d l
    → (r ≡ e) × (v ≡ solved_by z n right d l e) → Solves (solved_with room band z n right) r d l v
unfolding solved_with
solved_holds room band z n right h k = (k.0 ∙ h.0, h.1, h.2, k.1 ∙ rw (h.0, h.1, h.2))

-- for the same solve by another name
pub solves_same : {s t : Solved} → s ≡ t → {e : Ending} {d l v : List Float} → Solves s e d l v → Solves t e d l v
solves_same p {e} {d} {l} {v} h = subst (λ (s : Solved). Solves s e d l v) p h

-- a factor that was made in lists of zeros
made_in : (room : ℕ) (band : Band) (z n : ℕ) {e : Ending} {d₀ l₀ d l : List Float} → d₀ ≡ replicate 120 zero64 → l₀ ≡ replicate room zero64
    → Makes (factor_from band z n 0 d₀ l₀) e d l → Makes (factor_of room band z n) e d l
made_in room band z n {e} {d₀} {l₀} {d} {l} ed el h = subst (λ (f : Factor). Makes f e d l) (λ t. factor_from band z n 0 (ed t) (el t)) h

-- the same for the code's own names of a line and of a grid
pub line_holds : (j : Job) {a : List (List Float)} {n z : ℕ} {b d₀ l₀ d l v : List Float} {e r : Ending} → a ≡ band_of j → n ≡ j.cells → z ≡ j.order → b ≡ right_of j
    → d₀ ≡ replicate 120 zero64 → l₀ ≡ replicate 480 zero64 → Makes (factor_from (rows_of a) z n 0 d₀ l₀) e d l
    → (r ≡ e) × (v ≡ solved_by z n b d l e) → Solves (line_solved j) r d l v
unfolding line_solved
line_holds j {a} {n} {z} {b} ea en ez eb ed el f k =
    solves_same (λ t. solved_with 480 (rows_of (ea t)) (ez t) (en t) (eb t)) (solved_holds 480 (rows_of a) z n b (made_in 480 (rows_of a) z n ed el f) k)

pub grid_holds : (j : Job) {n z : ℕ} {b d₀ l₀ d l v : List Float} {e r : Ending} → n ≡ j.cells → z ≡ reach j → b ≡ right_of j
    → d₀ ≡ replicate 120 zero64 → l₀ ≡ replicate 4584 zero64 → Makes (factor_from (grid_rows j) z n 0 d₀ l₀) e d l
    → (r ≡ e) × (v ≡ solved_by z n b d l e) → Solves (grid_solved j) r d l v
unfolding grid_solved
grid_holds j {n} {z} {b} en ez eb ed el f k =
    solves_same (λ t. solved_with 4584 (grid_rows j) (ez t) (en t) (eb t)) (solved_holds 4584 (grid_rows j) z n b (made_in 4584 (grid_rows j) z n ed el f) k)

-- the pivots keep their places
pub pivots_length : (band : Band) (z n j : ℕ) (d l : List Float) → length (factor_from band z n j d l).pivots ≡ length d
unfolding factor_from
pivots_length band z zero j d l = refl
pivots_length band z (suc n) j d l =
    let step = factor_step (band j) d l z j in
    let d1 = set d j step.pivot in
    let l1 = sets l (start_of z j) step.multipliers in
    go (judged step.pivot) d1 l1 (factor_from band z n (j + 1) d1 l1) (pivots_length band z n (j + 1) d1 l1) ∙ length-set d j step.pivot
  where
    go : (p : Pivot) (d l : List Float) (rest : Factor) → length rest.pivots ≡ length d → length (on_pivot p j d l rest).pivots ≡ length d
    go (Ok x) d l rest h = h
    go (Err x) d l rest h = refl

-- what goes out of the rows that were made
pub handed_out_lem : (d₀ l₀ : List Float) {s : Solved} {e : Ending} {d l v d' l' : List Float} → Solves s e d l v → d' ≡ front d₀ d → l' ≡ front l₀ l → HandsOut s d₀ l₀ e d' l' v
handed_out_lem d₀ l₀ h ed el = (h.0, ed ∙ ap (front d₀) h.1, el ∙ ap (front l₀) h.2, h.3)

-- there is room for a line's multipliers, and for a grid's
room_for : (y places : ℕ) → start_of y 120 ≤ places → {z n : ℕ} {starts : List ℕ} {l : List Float} → Starts z n starts → n ≤ 120 → z ≤ y → length l ≡ places → Placed z n starts l
room_for y places most {z} {n} s hn hz e =
    record { listed = s; room = rw e (N.le_trans (start_rises z n 120 hn) (N.le_trans (start_wider z y 120 hz) most)) }

pub line_places : {z n : ℕ} {starts : List ℕ} {l : List Float} → Starts z n starts → n ≤ 120 → z ≤ 4 → length l ≡ 480 → Placed z n starts l
unfolding start_of
line_places = room_for 4 480 (omega arith)

pub grid_places : {z n : ℕ} {starts : List ℕ} {l : List Float} → Starts z n starts → n ≤ 120 → z ≤ 48 → length l ≡ 4584 → Placed z n starts l
unfolding start_of
grid_places = room_for 48 4584 (omega arith)

-- a job, by what it is
module _ (j : Job) where
  pub line_is : j.grid ≡ false → line_solved j ≡ solved_of j
  unfolding solved_of
  line_is g = ap {B = Solved} (λ (b : Bool). if b then grid_solved j else line_solved j) (sym g)

  pub grid_is : j.grid ≡ true → grid_solved j ≡ solved_of j
  unfolding solved_of
  grid_is g = ap {B = Solved} (λ (b : Bool). if b then grid_solved j else line_solved j) (sym g)
