use Rattle.std.proofs.Common.{◌≡◌, rules, arith, Fits}
use Rattle.std.specs.Prelude.{Err}
use Rattle.lists.proofs.Walks.{walking_small, walking_go, walking_bad, walking_end}
use Rattle.lists.proofs.reading.read_lines.Goals as goal

pub returns-in_err-entry : goal.returns-in_err-entry
returns-in_err-entry c =
    let e : c.from_residual.result ≡ Err c.in_err-entry.field-0.0 = search rules in
    rw e (walking_bad c.loop-at.invariant c.loop-at-test.true c.break_from-end.ensures.0 c.entry_at.ensures c.in_err-entry.field-0.0 c.in_err-entry.was)

pub overflow_cast-entry : goal.overflow_cast-entry
overflow_cast-entry c =
    let small = (walking_small c.loop-at.invariant c.loop-at-test.true c.break_from-end.ensures.0 c.entry_at.ensures c.in_ok-entry.entry c.in_ok-entry.was).exposure_small in
    record { fits = omega (arith, small) }

pub overflow_cast-entry-in-loop-at : goal.overflow_cast-entry-in-loop-at
overflow_cast-entry-in-loop-at c =
    let small = (walking_small c.loop-at.invariant c.loop-at-test.true c.break_from-end.ensures.0 c.entry_at.ensures c.in_ok-entry.entry c.in_ok-entry.was).count_small in
    record { fits = omega (arith, small) }

pub loop-at-preserved : goal.loop-at-preserved
loop-at-preserved c = rw (c.store.ensures, c.store-in-loop-at.ensures) (walking_go c.loop-at.invariant c.loop-at-test.true c.break_from-end.ensures.0 c.entry_at.ensures c.break_from-end.ensures.1 c.in_ok-entry.entry c.in_ok-entry.was)

pub returns : goal.returns
returns c = walking_end c.loop-at.invariant c.loop-at-test.false
