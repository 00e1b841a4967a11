-- The header is the first line; the lines of data come after the CR LF that ends it.
use Rattle.std.specs.Prelude.{Err}
use Rattle.refusals.specs.declared.Refusal.TheVariants.{BadLine}
use Rattle.lists.proofs.Walks.{list_headed, list_headless, read_same_as, read_none}
use Rattle.lists.proofs.reading.read_list.Goals as goal

pub returns-then-not-is_header : goal.returns-then-not-is_header
returns-then-not-is_header c = let a = c.args in read_same_as (list_headless a.claims a.text.now c.break_from-end.ensures.0 c.is_header.ensures c.if-not-is_header.true) (read_none (Err (BadLine 1)) a.exposures.now a.counts.now)

pub returns : goal.returns
returns c = let a = c.args in read_same_as (list_headed a.claims a.text.now c.break_from-end.ensures.0 c.is_header.ensures c.if-not-is_header.false) c.read_lines.ensures
