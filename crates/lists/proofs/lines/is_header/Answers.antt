-- The bytes are compared with the header of the list.
use mathlib.Core.Path.{ap, ◌∙◌}
use lib.Dec.{eqb}
use lib.Pointwise.{pointwise}
use Rattle.lists.specs.Lines.{claims_header, rates_header}
use Rattle.lists.proofs.Cuts.{same_told}
use Rattle.lists.proofs.lines.is_header.Goals as goal

pub returns-then-claims : goal.returns-then-claims
returns-then-claims c = rw c.if-claims.true (c.eq.ensures ∙ ap (pointwise eqb c.args.line.now) c.as_slice.ensures ∙ same_told c.args.line.now claims_header)

pub returns : goal.returns
returns c = rw c.if-claims.false (c.eq-2.ensures ∙ ap (pointwise eqb c.args.line.now) c.as_slice-2.ensures ∙ same_told c.args.line.now rates_header)
