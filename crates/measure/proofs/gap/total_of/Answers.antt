use mathlib.Core.Path.{◌∙◌, refl, sym}
use native.Mathlib.Omega.{arith}
use Rattle.whole.proofs.Fits.{gives}
use Rattle.jobs.specs.Words.{job_of}
use Rattle.tally.proofs.Locals.{tolerance_fits}
use Rattle.tally.proofs.Tallies.{tally_starts}
use Rattle.measure.specs.OnWords.{cell_term_on}
use Rattle.measure.proofs.Totalled.{total_amount, total_cell, total_next, total_residual, total_tallies, totalling_by}
use Rattle.measure.proofs.gap.total_of.Goals as goal

pub loop-i-init : goal.loop-i-init
loop-i-init c = (gives c.tolerance-tolerance.ensures (tolerance_fits c.requires.given.allowed.tolerance), c.no_terms-tally.ensures ∙ tally_starts (job_of c.args.p.job.words.now).tolerance _ (cell_term_on c.args.p.job.words.now c.args.p.words.now))

pub residual_at-r-requires : goal.residual_at-r-requires
residual_at-r-requires c = total_residual c.requires _ (omega arith)

pub cell_term_at-t-requires : goal.cell_term_at-t-requires
cell_term_at-t-requires c = total_cell c.requires (omega arith) c.residual_at-r.ensures

pub amount_of-requires : goal.amount_of-requires
amount_of-requires c = total_amount c.requires (omega arith) c.residual_at-r.ensures c.cell_term_at-t.ensures

pub tallied-tally-requires : goal.tallied-tally-requires
tallied-tally-requires c = total_tallies (totalling_by (sym (gives refl c.ranges.start)) c.requires) (omega arith) c.residual_at-r.ensures c.cell_term_at-t.ensures
    c.amount_of.ensures (record { is = c.loop-i.invariant.0 }) c.loop-i.invariant.1

pub loop-i-preserved : goal.loop-i-preserved
loop-i-preserved c = (
  c.loop-i.invariant.0,
  total_next (totalling_by (sym (gives refl c.ranges.start)) c.requires) (omega arith) c.residual_at-r.ensures c.cell_term_at-t.ensures
      c.amount_of.ensures (record { is = c.loop-i.invariant.0 }) c.loop-i.invariant.1 c.tallied-tally.ensures,
)
