-- The range of the stored form is tested first, then the term.
use Rattle.fields.proofs.after_stored.Goals as goal

pub returns : goal.returns
returns c = rw (← c.is_within.ensures, ← c.after_coefficient.ensures) c.ruled.ensures
