-- Document 01, "Loss and gap": residuals, terms and the gap of a table v with multipliers y.
use Rattle.std.specs.Prelude.{ℕ, ℤ, pos, ◌+ℤ◌, ◌-ℤ◌, ◌*ℤ◌}
use Rattle.whole.specs.Sum.{sum}
use Rattle.certificate.specs.Terms.{cell_term}
use Rattle.certificate.specs.Differences.{difference, returned}
use Rattle.jobs.specs.Job.{Job, link_coefficient}
use Rattle.tally.specs.declared.term.Supplied.{Supplied}
use Rattle.tally.specs.Supplied.{limit, supplied}
use Rattle.measure.specs.Loss.{family_of, family_across, across_at}

-- The sum of the link l over a table.
unfoldable pub link_sum : Job → (l : ℕ) → (v : ℕ → ℤ) → ℤ
link_sum j l v = sum (j.terms l) (λ m. j.coefficient l m *ℤ v (j.cell l m))

-- "2k times the sum, over every D that uses cell i, of D times that cell's s"; for a grid of both directions, each with its constant.
abbrev pub slope_of : Job → (v : ℕ → ℤ) → (i : ℕ) → ℤ
slope_of j v i =
    j.constant *ℤ returned (family_of j) (difference (family_of j) v) i +ℤ j.second *ℤ returned (family_across j) (across_at j v) i

abbrev pub smooth_part : Job → (v : ℕ → ℤ) → (i : ℕ) → ℤ
smooth_part j v i = pos 2 *ℤ slope_of j v i

-- "the sum over links naming cell i of multiplier times coefficient"
abbrev pub link_part : Job → (y : ℕ → ℤ) → (i : ℕ) → ℤ
link_part j y i = sum j.links (λ l. y l *ℤ link_coefficient j l i)

-- "Residual of cell i: r = 2w(v-u) + 2k times … + …"
unfoldable pub residual_of : Job → (v y : ℕ → ℤ) → (i : ℕ) → ℤ
residual_of j v y i = pos 2 *ℤ j.weight i *ℤ (v i -ℤ j.crude i) +ℤ smooth_part j v i +ℤ link_part j y i

-- "Cell term": the rule stands in `cell_term`.
abbrev pub cell_term_of : Job → (v y : ℕ → ℤ) → (i : ℕ) → ℤ
cell_term_of j v y i = cell_term limit (j.weight i) (residual_of j v y i) (j.floor i) (j.ceiling i) (v i)

-- W-202: with what supplied it.
abbrev pub supplied_of : Job → (v y : ℕ → ℤ) → (i : ℕ) → Supplied
supplied_of j v y i = supplied (j.weight i) (residual_of j v y i) (j.floor i) (j.ceiling i) (v i)

-- "Link term: multiplier times (b minus the link's sum)"
abbrev pub link_term_of : Job → (v y : ℕ → ℤ) → (l : ℕ) → ℤ
link_term_of j v y l = y l *ℤ (j.bound l -ℤ link_sum j l v)

-- "Gap G = sum of all cell terms and link terms."
unfoldable pub gap_of : Job → (v y : ℕ → ℤ) → ℤ
gap_of j v y = sum j.cells (cell_term_of j v y) +ℤ sum j.links (link_term_of j v y)
