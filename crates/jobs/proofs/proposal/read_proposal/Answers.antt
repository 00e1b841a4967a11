-- What was read from the first value on, with every refusal made 6.
use Rattle.jobs.specs.Packs.{as_six}
use mathlib.Core.Path.{ap, ◌∙◌}
use Rattle.jobs.proofs.proposal.read_proposal.Goals as goal

pub returns : goal.returns
returns c = rw (← c.values_from-first.ensures) (c.as_six.ensures ∙ ap as_six c.read.ensures.0, c.read.ensures.1)
