-- The length of the input, and then what is read of it, decide which line it is.
use mathlib.Core.Path.{sym, ◌∙◌}
use mathlib.Core.List.{[], ◌∷◌}
use native.Mathlib.Omega.{arith}
use Rattle.numbers.proofs.Reading.{offset_after}
use Rattle.line.specs.Line.{printed}
use Rattle.line.proofs.Lines.{line_put, long_line, read_line}
use borrow.Author.Rules.{rules}
use Rattle.line.proofs.line_of.Goals as goal

pub returns-then-input-gt-LIMIT : goal.returns-then-input-gt-LIMIT
returns-then-input-gt-LIMIT c = let both = line_put c.args.input.now (printed 1 (8192 ∷ [])) (long_line c.args.input.now c.if-input-gt-LIMIT.true) (search rules) c.put_refusal.ensures in record { count = both.0; output = both.1 }

pub put_packs-requires : goal.put_packs-requires
put_packs-requires c = let input = c.args.input.now in
    (omega (arith, offset_after 9 input 0 c.in-Some.size.value c.in-Some.size.next (sym c.number_at.ensures ∙ c.in-Some.is)), search rules)

pub returns-in-Some : goal.returns-in-Some
returns-in-Some c = let input = c.args.input.now in
    let both = line_put input _ (read_line input c.if-input-gt-LIMIT.false (sym c.number_at.ensures ∙ c.in-Some.is)) (search rules) c.put_packs.ensures in record { count = both.0; output = both.1 }

pub returns-in-None : goal.returns-in-None
returns-in-None c = let input = c.args.input.now in
    let both = line_put input _ (read_line input c.if-input-gt-LIMIT.false (sym c.number_at.ensures ∙ c.in-None.is)) (search rules) c.put_refusal-in-None.ensures in record { count = both.0; output = both.1 }
