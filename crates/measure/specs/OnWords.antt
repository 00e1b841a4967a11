-- The rules of document 01 by words, as code has them: ws are a job's words, and ps those of a proposal for it, its values and then its multipliers.
use Rattle.std.specs.Prelude.{ℕ, Bool, List, ℤ, pos, ◌+ℤ◌, ◌-ℤ◌, ◌*ℤ◌}
use Rattle.certificate.specs.Problem.{squared}
use Rattle.certificate.specs.Terms.{cell_term}
use Rattle.jobs.specs.Words.{cells_of, job_of}
use Rattle.tally.specs.declared.term.Supplied.{Supplied}
use Rattle.tally.specs.Supplied.{limit, supplied}
use Rattle.measure.specs.Loss.{fit_of, rough_of, loss_of}
use Rattle.measure.specs.Gap.{smooth_part, link_part, residual_of, cell_term_of, link_term_of, gap_of}
use Rattle.measure.specs.Check.{Verdict, in_box, holds, values_of, multipliers_of, judged_of}
use Rattle.measure.specs.Running.{Walked, held_links, parts_of, walk_of, met_of, walked_links}

abbrev pub multiplier_on : (ws ps : List ℤ) → (l : ℕ) → ℤ
multiplier_on ws ps l = multipliers_of (cells_of ws) ps l

abbrev pub in_box_on : (ws ps : List ℤ) → (i : ℕ) → Bool
in_box_on ws ps i = in_box (job_of ws) (values_of ps) i

abbrev pub holds_on : (ws ps : List ℤ) → (l : ℕ) → Bool
holds_on ws ps l = holds (job_of ws) (values_of ps) l

abbrev pub fit_term_on : (ws ps : List ℤ) → (i : ℕ) → ℤ
fit_term_on ws ps i = (job_of ws).weight i *ℤ squared (values_of ps i -ℤ (job_of ws).crude i)

abbrev pub fit_on : (ws ps : List ℤ) → ℤ
fit_on ws ps = fit_of (job_of ws) (values_of ps)

abbrev pub loss_on : (ws ps : List ℤ) → ℤ
loss_on ws ps = loss_of (job_of ws) (values_of ps)

abbrev pub rough_on : (ws ps : List ℤ) → ℤ
rough_on ws ps = rough_of (job_of ws) (values_of ps)

abbrev pub smooth_on : (ws ps : List ℤ) → (i : ℕ) → ℤ
smooth_on ws ps i = smooth_part (job_of ws) (values_of ps) i

abbrev pub link_part_on : (ws ps : List ℤ) → (i : ℕ) → ℤ
link_part_on ws ps i = link_part (job_of ws) (multiplier_on ws ps) i

abbrev pub residual_on : (ws ps : List ℤ) → (i : ℕ) → ℤ
residual_on ws ps i = residual_of (job_of ws) (values_of ps) (multiplier_on ws ps) i

-- The residual of the cell i with `part` for what differences and links add to it, and the cell term with r for its residual.
abbrev pub residual_with : (ws ps : List ℤ) → (i : ℕ) → (part : ℤ) → ℤ
residual_with ws ps i part = pos 2 *ℤ (job_of ws).weight i *ℤ (values_of ps i -ℤ (job_of ws).crude i) +ℤ part

abbrev pub cell_term_with : (ws ps : List ℤ) → (i : ℕ) → (r : ℤ) → ℤ
cell_term_with ws ps i r = cell_term limit ((job_of ws).weight i) r ((job_of ws).floor i) ((job_of ws).ceiling i) (values_of ps i)

-- The same, with who supplied it.
abbrev pub supplied_with : (ws ps : List ℤ) → (i : ℕ) → (r : ℤ) → Supplied
supplied_with ws ps i r = supplied ((job_of ws).weight i) r ((job_of ws).floor i) ((job_of ws).ceiling i) (values_of ps i)

abbrev pub cell_term_on : (ws ps : List ℤ) → (i : ℕ) → ℤ
cell_term_on ws ps i = cell_term_of (job_of ws) (values_of ps) (multiplier_on ws ps) i

abbrev pub link_term_on : (ws ps : List ℤ) → (l : ℕ) → ℤ
link_term_on ws ps l = link_term_of (job_of ws) (values_of ps) (multiplier_on ws ps) l

abbrev pub gap_on : (ws ps : List ℤ) → ℤ
gap_on ws ps = gap_of (job_of ws) (values_of ps) (multiplier_on ws ps)

abbrev pub judged_on : (ws ps : List ℤ) → Verdict
judged_on ws ps = judged_of (job_of ws) (values_of ps) (multiplier_on ws ps)

-- The links below the lowest broken one, what the first k links add to the cell i, and what a walk over the links answers.
abbrev pub held_on : (ws ps : List ℤ) → ℕ
held_on ws ps = held_links (job_of ws) (values_of ps)

abbrev pub parts_on : (ws ps : List ℤ) → (k i : ℕ) → ℤ
parts_on ws ps k i = parts_of (job_of ws) (multiplier_on ws ps) k i

abbrev pub walk_on : (ws ps : List ℤ) → Walked
walk_on ws ps = walk_of (job_of ws) (values_of ps) (multiplier_on ws ps)

-- The same after the boxes, and the links walked over.
abbrev pub met_on : (ws ps : List ℤ) → Walked
met_on ws ps = met_of (job_of ws) (values_of ps) (multiplier_on ws ps)

abbrev pub walked_on : (ws ps : List ℤ) → ℕ
walked_on ws ps = walked_links (job_of ws) (values_of ps)
