-- A job by its words in pack order (document 01, "Packs": "society, job, n, order field, k, T; for each cell u, w, lo, hi; the link count; for each
-- link the term count, its terms (cell, coefficient), then b"; W-205: "Order field 5 announces a grid: after it stand rows, columns, the order down,
-- the order across and a second constant; then k and T as before"), and where each link starts among them.
use Rattle.std.specs.Prelude.{ℕ, zero, suc, ◌+◌, ◌-◌, ◌*◌, Bool, List, eqb, ℤ, pos, nat_abs, get_or}
use Rattle.std.specs.Prelude.{if◌then◌else◌}
use Rattle.fields.specs.Table.{order_used, grid_field}
use Rattle.jobs.specs.Job.{Job}

abbrev pub word_at : List ℤ → ℕ → ℤ
word_at ws i = get_or ws i (pos 0)

-- A word that counts or names something.
abbrev pub count_at : List ℤ → ℕ → ℕ
count_at ws i = nat_abs (word_at ws i)

abbrev pub cells_of : List ℤ → ℕ
cells_of ws = count_at ws 2

-- "Order field 5 announces a grid"
abbrev pub is_grid : List ℤ → Bool
is_grid ws = eqb (count_at ws 3) grid_field

-- The words before the first cell, and of each cell. The last two of the head are k and T.
unfoldable pub head_words : List ℤ → ℕ
head_words ws = if is_grid ws then 11 else 6

abbrev pub cell_words : ℕ
cell_words = 4

-- A grid's own words; without them a job has one column.
unfoldable pub rows_of : List ℤ → ℕ
rows_of ws = if is_grid ws then count_at ws 4 else cells_of ws

unfoldable pub columns_of : List ℤ → ℕ
columns_of ws = if is_grid ws then count_at ws 5 else 1

unfoldable pub order_of : List ℤ → ℕ
order_of ws = if is_grid ws then count_at ws 6 else order_used (count_at ws 3)

unfoldable pub across_of : List ℤ → ℕ
across_of ws = if is_grid ws then count_at ws 7 else 1

unfoldable pub second_of : List ℤ → ℤ
second_of ws = if is_grid ws then word_at ws 8 else pos 0

abbrev pub links_of : List ℤ → ℕ
links_of ws = count_at ws (head_words ws + cell_words * cells_of ws)

-- Where the link j starts: a link has its term count, two words a term, and its bound.
unfoldable pub start_of : List ℤ → ℕ → ℕ
start_of ws zero = suc (head_words ws) + cell_words * cells_of ws
start_of ws (suc j) = start_of ws j + 2 * count_at ws (start_of ws j) + 2

abbrev pub job_of : List ℤ → Job
job_of ws = record {
  society = count_at ws 0;
  number = count_at ws 1;
  cells = cells_of ws;
  grid = is_grid ws;
  rows = rows_of ws;
  columns = columns_of ws;
  order = order_of ws;
  across = across_of ws;
  second = second_of ws;
  constant = word_at ws (head_words ws - 2);
  tolerance = word_at ws (head_words ws - 1);
  crude = λ i. word_at ws (head_words ws + cell_words * i);
  weight = λ i. word_at ws (head_words ws + 1 + cell_words * i);
  floor = λ i. word_at ws (head_words ws + 2 + cell_words * i);
  ceiling = λ i. word_at ws (head_words ws + 3 + cell_words * i);
  links = links_of ws;
  terms = λ j. count_at ws (start_of ws j);
  cell = λ j m. count_at ws (start_of ws j + 1 + 2 * m);
  coefficient = λ j m. word_at ws (start_of ws j + 2 + 2 * m);
  bound = λ j. word_at ws (start_of ws j + 1 + 2 * count_at ws (start_of ws j));
}
