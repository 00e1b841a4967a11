-- Document 01, "Loss and gap": the differences of a table v, and its loss; W-205: a grid's differences in both directions.
use Rattle.std.specs.Prelude.{ℕ, ◌-◌, ◌*◌, ℤ, pos, ◌+ℤ◌, ◌-ℤ◌, ◌*ℤ◌}
use Rattle.std.specs.Prelude.{if◌then◌else◌}
use Rattle.whole.specs.Sum.{sum}
use Rattle.certificate.specs.Problem.{squared}
use Rattle.certificate.specs.Differences.{Family, along, form_at, difference, in_row}
use Rattle.jobs.specs.Job.{Job}
use Rattle.rows.specs.Rows.{row_of}

-- Differences of an order over n cells, as many as lie inside: the one numbered f starts at the cell f, and its cells stand `stride` apart.
abbrev pub family_with : (order stride n : ℕ) → Family
family_with order stride n = along (row_of order) order stride (n - order * stride)

-- "D at i, for i from 0 to n-z-1, is the sum over m = 0..z of s(m) times v(i+m)": D at i is `difference (family_of j) v i`. W-205: "differences down the
-- columns"; cells run along a row first, so those of a column stand `columns` apart, and in a job that is no grid 1 apart.
abbrev pub family_of : Job → Family
family_of j = family_with j.order j.columns j.cells

-- "those along the rows": the difference that starts at a cell, if it ends in the same row of a grid of `width` columns; 0 where it would run over that
-- row's end.
abbrev pub form_within : (width : ℕ) (row : ℕ → ℤ) (order stride start : ℕ) → (v : ℕ → ℤ) → ℤ
form_within width row order stride start v = if in_row width order stride start then form_at row order stride start v else pos 0

abbrev pub difference_within : (width : ℕ) → Family → (v : ℕ → ℤ) → (f : ℕ) → ℤ
difference_within width F v f = form_within width F.row F.order F.stride (F.start f) v

abbrev pub family_across : Job → Family
family_across j = family_with j.across 1 j.cells

abbrev pub across_at : Job → (v : ℕ → ℤ) → (f : ℕ) → ℤ
across_at j v f = difference_within j.columns (family_across j) v f

-- "Loss F = sum of w(v-u)^2 + k times the sum of D^2"; W-205: "The loss adds k times the squared differences down the columns and the second constant
-- times those along the rows". The second constant of a job that is no grid is 0.
abbrev pub fit_of : Job → (v : ℕ → ℤ) → ℤ
fit_of j v = sum j.cells (λ i. j.weight i *ℤ squared (v i -ℤ j.crude i))

abbrev pub roughness : Family → (D : ℕ → ℤ) → ℤ
roughness F D = sum F.count (λ f. squared (D f))

abbrev pub rough_of : Job → (v : ℕ → ℤ) → ℤ
rough_of j v = j.constant *ℤ roughness (family_of j) (difference (family_of j) v) +ℤ j.second *ℤ roughness (family_across j) (across_at j v)

unfoldable pub loss_of : Job → (v : ℕ → ℤ) → ℤ
loss_of j v = fit_of j v +ℤ rough_of j v
