-- What is known of a job's words, and of a proposal's, holds in one way only, so that a value can carry it.
use Rattle.std.specs.Prelude.{ℕ, Bool, true, false, List, ℤ, ◌≤ℤ◌}
use Rattle.std.specs.Coded.{le_prop, Coded-set, coded_ℕ, coded_ℤ}
use Rattle.std.proofs.Props.{props}
use Rattle.jobs.specs.Job.{Job}
use Rattle.jobs.specs.Allowed.{Upto, CellAllowed, TermAllowed, LinkAllowed, GridAllowed, LineAllowed, ShapeAllowed, Allowed, GridLaid, Laid, Proposed}

order_prop : (x y : ℤ) → IsProp (x ≤ℤ y)
order_prop x y = Prim.hlevel props

Upto-prop : (most : ℕ) (z : ℤ) → IsProp (Upto most z)
Upto-prop most z a b = λ t. record { natural = Coded-set coded_ℤ _ _ a.natural b.natural t; small = le_prop a.small b.small t }

CellAllowed-prop : (j : Job) (i : ℕ) → IsProp (CellAllowed j i)
CellAllowed-prop j i a b = λ t. record {
  crude = Upto-prop 1000000 (j.crude i) a.crude b.crude t;
  weight = Upto-prop 1000 (j.weight i) a.weight b.weight t;
  floor = Upto-prop 1000000 (j.floor i) a.floor b.floor t;
  ceiling = Upto-prop 1000000 (j.ceiling i) a.ceiling b.ceiling t;
  box = order_prop (j.floor i) (j.ceiling i) a.box b.box t;
}

TermAllowed-prop : (j : Job) (l m : ℕ) → IsProp (TermAllowed j l m)
TermAllowed-prop j l m a b = λ t. record {
  cell = le_prop a.cell b.cell t;
  coefficient_small = le_prop a.coefficient_small b.coefficient_small t;
  coefficient_some = le_prop a.coefficient_some b.coefficient_some t;
  rising = λ h. le_prop (a.rising h) (b.rising h) t;
}

LinkAllowed-prop : (j : Job) (l : ℕ) → IsProp (LinkAllowed j l)
LinkAllowed-prop j l a b = λ t. record {
  terms_some = le_prop a.terms_some b.terms_some t;
  terms_few = le_prop a.terms_few b.terms_few t;
  term = λ m h. TermAllowed-prop j l m (a.term m h) (b.term m h) t;
  bound = le_prop a.bound b.bound t;
}

ShapeAllowed-prop : (j : Job) (grid : Bool) → IsProp (ShapeAllowed j grid)
ShapeAllowed-prop j true a b = λ t. record {
  rows_some = le_prop a.rows_some b.rows_some t;
  columns_some = le_prop a.columns_some b.columns_some t;
  across_less = le_prop a.across_less b.across_less t;
  second_some = le_prop a.second_some b.second_some t;
}
ShapeAllowed-prop j false a b = λ t. record {
  columns_one = Coded-set coded_ℕ _ _ a.columns_one b.columns_one t;
  across_one = Coded-set coded_ℕ _ _ a.across_one b.across_one t;
  second_none = Coded-set coded_ℤ _ _ a.second_none b.second_none t;
}

pub Allowed-prop : (j : Job) → IsProp (Allowed j)
Allowed-prop j a b = λ t. record {
  society = le_prop a.society b.society t;
  number = le_prop a.number b.number t;
  cells_some = le_prop a.cells_some b.cells_some t;
  cells_few = le_prop a.cells_few b.cells_few t;
  shape = ShapeAllowed-prop j j.grid a.shape b.shape t;
  cells_are = Coded-set coded_ℕ _ _ a.cells_are b.cells_are t;
  order_some = le_prop a.order_some b.order_some t;
  order_few = le_prop a.order_few b.order_few t;
  order_less = le_prop a.order_less b.order_less t;
  across_some = le_prop a.across_some b.across_some t;
  across_few = le_prop a.across_few b.across_few t;
  second = Upto-prop 999 j.second a.second b.second t;
  constant = Upto-prop 1000 j.constant a.constant b.constant t;
  constant_some = le_prop a.constant_some b.constant_some t;
  constants = le_prop a.constants b.constants t;
  tolerance = Upto-prop 1000000000000000 j.tolerance a.tolerance b.tolerance t;
  cell = λ i h. CellAllowed-prop j i (a.cell i h) (b.cell i h) t;
  weights = le_prop a.weights b.weights t;
  links_few = le_prop a.links_few b.links_few t;
  link = λ l h. LinkAllowed-prop j l (a.link l h) (b.link l h) t;
}

GridLaid-prop : (ws : List ℤ) → IsProp (GridLaid ws)
GridLaid-prop ws a b = λ t. record {
  rows = Coded-set coded_ℤ _ _ a.rows b.rows t;
  columns = Coded-set coded_ℤ _ _ a.columns b.columns t;
  down = Coded-set coded_ℤ _ _ a.down b.down t;
  across = Coded-set coded_ℤ _ _ a.across b.across t;
}

pub Laid-prop : (ws : List ℤ) → IsProp (Laid ws)
Laid-prop ws a b = λ t. record {
  society = Coded-set coded_ℤ _ _ a.society b.society t;
  number = Coded-set coded_ℤ _ _ a.number b.number t;
  cells = Coded-set coded_ℤ _ _ a.cells b.cells t;
  order = Coded-set coded_ℤ _ _ a.order b.order t;
  grid = λ h. GridLaid-prop ws (a.grid h) (b.grid h) t;
  links = Coded-set coded_ℤ _ _ a.links b.links t;
  terms = λ j h. Coded-set coded_ℤ _ _ (a.terms j h) (b.terms j h) t;
  cell = λ j m h k. Coded-set coded_ℤ _ _ (a.cell j m h k) (b.cell j m h k) t;
  ends = Coded-set coded_ℕ _ _ a.ends b.ends t;
}

pub Proposed-prop : (cells links : ℕ) (ws : List ℤ) → IsProp (Proposed cells links ws)
Proposed-prop cells links ws a b = λ t. record {
  count = Coded-set coded_ℕ _ _ a.count b.count t;
  value = λ i h. Upto-prop 1000000 _ (a.value i h) (b.value i h) t;
  multiplier = λ j h. Upto-prop 1000000000 _ (a.multiplier j h) (b.multiplier j h) t;
}
