use mathlib.Core.Path.{sym, ◌≡◌}
use native.Mathlib.Omega.{arith}
use Rattle.whole.proofs.Fits.{adds_fits, adds_next}
use Rattle.whole.proofs.Sums.{sum_zero}
use Rattle.jobs.specs.Words.{count_at}
use Rattle.measure.proofs.Proposals.{linked}
use Rattle.measure.proofs.Walks.{sum_adds}
use Rattle.measure.specs.Running.{sum_at}
use Rattle.measure.proofs.links.link_sum.Goals as goal

pub loop-m-init : goal.loop-m-init
loop-m-init c = sym (sum_zero _)

pub sum_term-total-requires : goal.sum_term-total-requires
sum_term-total-requires c = (c.requires, omega (arith, c.count_at-t.ensures))

pub overflow_add-total : goal.overflow_add-total
overflow_add-total c = adds_fits (sum_adds (linked c.args.p c.requires)) (omega (arith, c.count_at-t.ensures)) (record { is = c.loop-m.invariant }) c.sum_term-total.ensures

pub loop-m-preserved : goal.loop-m-preserved
loop-m-preserved c = (adds_next (sum_adds (linked c.args.p c.requires)) (omega (arith, c.count_at-t.ensures)) (record { is = c.loop-m.invariant }) c.sum_term-total.ensures).is

pub returns : goal.returns
unfolding sum_at
returns c = let e : c.loop-m.m ≡ count_at c.args.p.job.words.now c.args.s = omega (arith, c.count_at-t.ensures) in rw e at c.loop-m.invariant
