-- What the functions of this crate count on, and a link by the words where it starts.
use Rattle.std.specs.Prelude.{ℕ, ◌+◌, ◌*◌, List, ℤ, Float}
use Rattle.std.specs.Coded.{Coded-set, coded_ℤ, le_prop}
use Rattle.jobs.specs.Words.{word_at, count_at}
use Rattle.jobs.specs.Allowed.{Upto}
use Rattle.measure.specs.Given.{LinkAt}
use Rattle.passes.specs.Hildreth.{Link, State}

abbrev pub link_at : List ℤ → (s : ℕ) → Link
link_at ws s = record {
  terms = count_at ws s;
  cell = λ m. count_at ws (s + 1 + 2 * m);
  coefficient = λ m. word_at ws (s + 2 + 2 * m);
  bound = word_at ws (s + 1 + 2 * count_at ws s);
}

-- What is known of a link's words holds in one way only, so a struct may keep it.
Upto-prop : (most : ℕ) (z : ℤ) → IsProp (Upto most z)
Upto-prop most z a b = λ t. record { natural = Coded-set coded_ℤ _ _ a.natural b.natural t; small = le_prop a.small b.small t }

pub LinkAt-prop : (ws : List ℤ) (s : ℕ) → IsProp (LinkAt ws s)
LinkAt-prop ws s a b = λ t. record {
  inside = le_prop a.inside b.inside t;
  terms = Upto-prop 4 _ a.terms b.terms t;
  cell = λ m h. Upto-prop 119 _ (a.cell m h) (b.cell m h) t;
  cell_inside = λ m h. le_prop (a.cell_inside m h) (b.cell_inside m h) t;
  coefficient = λ m h. le_prop (a.coefficient m h) (b.coefficient m h) t;
  bound = le_prop a.bound b.bound t;
}

-- Values and multipliers in two lists.
abbrev pub state : (v y : List Float) → State
state v y = record { values = v; multipliers = y }
