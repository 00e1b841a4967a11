-- The line has the sizes of the loss and the gap, and as many values as the job has cells.
use mathlib.Core.Path.{ap, ap₂, ◌∙◌}
use borrow.Author.Rules.{rules}
use lib.IntN.{ℤ, nat_abs}
use mir.Facts.{to_z-of_z}
use mir.Syntax.{w64}
use mir.Val.{SFits}
use Prim.Native.Nat.{ℕ}
use native.Mathlib.Omega.{arith}
use Rattle.jobs.specs.Words.{cells_of}
use Rattle.decimals.proofs.Stores.{puts_same}
use Rattle.line.proofs.Tables.{table_line}
use Rattle.line.proofs.table.put_table.Goals as goal

pub count_at-n-requires : goal.count_at-n-requires
count_at-n-requires c = let J = c.requires.0.job in (omega (arith, J.room), omega (arith, J.cells))

pub put_rates-requires : goal.put_rates-requires
put_rates-requires c = let p = c.requires in (p.0.job, rw c.count_at-n.ensures p.0.values, p.1)

pub returns : goal.returns
returns c =
    let words = c.args.words.now in
    let rates = c.args.rates.now in
    let inner : SFits w64 c.args.figures.loss = search rules in
    let outer : SFits w64 c.args.figures.gap = search rules in
    let f = c.size_of-loss.ensures ∙ ap (λ (z : ℤ). nat_abs z) (to_z-of_z inner) in
    let g = c.size_of-gap.ensures ∙ ap (λ (z : ℤ). nat_abs z) (to_z-of_z outer) in
    let line = ap (λ (n : ℕ). table_line words rates n c.size_of-loss.result c.size_of-gap.result) c.count_at-n.ensures
    ∙ ap₂ (λ (x y : ℕ). table_line words rates (cells_of words) x y) f g in
    puts_same line c.put_rates.ensures
