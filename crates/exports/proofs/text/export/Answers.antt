-- A table that may not go out is refused before room is looked at.
use native.Mathlib.Omega.{arith}
use mathlib.Core.Path.{refl, sym, ◌∙◌}
use Rattle.exports.proofs.Texts.{out_of}
use Rattle.exports.proofs.text.export.Goals as goal

pub returns-then-not-is_exportable : goal.returns-then-not-is_exportable
returns-then-not-is_exportable c = rw (sym c.is_exportable.ensures ∙ c.if-not-is_exportable.true) (refl, refl)

pub export_lines-requires : goal.export_lines-requires
export_lines-requires c = let o = out_of c.args.first c.args.rates.now (sym c.is_exportable.ensures ∙ c.if-not-is_exportable.false) in (omega (arith, o.old), o.few)

pub returns : goal.returns
returns c = rw (sym c.is_exportable.ensures ∙ c.if-not-is_exportable.false) c.export_lines.ensures
