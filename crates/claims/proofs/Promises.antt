-- The promises, each a law whose type is its statement in specs/Promises.antt.
use Rattle.claims.specs.Promises.{AcceptedExactly, JobRefusedExactly, ProposalRefusedExactly, OutsideExactly, BrokenExactly, AboveExactly, NoOtherRefusal, EachSideSaid, NoTermNegative, TermAtMost, LossAtMost, LineLoss, Best, AcceptedMeets, AcceptedClose, LineFarness, GridFarness, FarReached, FourLeast, WorkedTables, WorkedGrid}
use Rattle.claims.proofs.Accepted as Accepted
use Rattle.claims.proofs.Terms as Terms
use Rattle.claims.proofs.Best as Best
use Rattle.claims.proofs.Far as Far
use Rattle.claims.proofs.Told as Told
use Rattle.claims.proofs.Lines as Lines
use Rattle.claims.proofs.Worked as Worked

pub accepted_exactly : AcceptedExactly
accepted_exactly = Accepted.accepted_exactly

pub job_refused_exactly : JobRefusedExactly
job_refused_exactly = Accepted.job_refused_exactly

pub proposal_refused_exactly : ProposalRefusedExactly
proposal_refused_exactly = Accepted.proposal_refused_exactly

pub outside_exactly : OutsideExactly
outside_exactly = Accepted.outside_exactly

pub broken_exactly : BrokenExactly
broken_exactly = Accepted.broken_exactly

pub above_exactly : AboveExactly
above_exactly = Accepted.above_exactly

pub no_other_refusal : NoOtherRefusal
no_other_refusal = Accepted.no_other_refusal

pub each_side_said : EachSideSaid
each_side_said = Terms.each_side_said

pub no_term_negative : NoTermNegative
no_term_negative = Terms.no_term_negative

pub term_at_most : TermAtMost
term_at_most = Terms.term_at_most

pub loss_at_most : LossAtMost
loss_at_most = Told.loss_most

pub line_loss : LineLoss
line_loss = Lines.line_loss

pub best : Best
best = Best.best

pub accepted_meets : AcceptedMeets
accepted_meets = Best.accepted_meets

pub accepted_close : AcceptedClose
accepted_close = Far.accepted_close

pub line_farness : LineFarness
line_farness = Lines.line_farness

pub grid_farness : GridFarness
grid_farness = Worked.grid_farness

pub far_reached : FarReached
far_reached = Worked.far_reached

pub four_least : FourLeast
four_least = Worked.four_least

pub worked_tables : WorkedTables
worked_tables = Worked.worked_tables

pub worked_grid : WorkedGrid
worked_grid = Worked.worked_grid
