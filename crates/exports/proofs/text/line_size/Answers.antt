-- The digits of both numbers, a comma and CR LF.
use Rattle.exports.proofs.Texts.{line_length}
use Rattle.exports.proofs.text.line_size.Goals as goal

pub returns : goal.returns
returns c = line_length c.args.age c.args.rate c.size-a.ensures.0 c.size-b.ensures.0 c.size-a.ensures.1 c.size-b.ensures.1
