-- The word k stands in the list, or the list ends early.
use Rattle.packs.proofs.Along.{small_groups, word_groups}
use Rattle.packs.specs.Writing.{raw_of}
use Rattle.packs.specs.Walking.{in_groups}
use lib.IntN.{pos}
use lib.ListN.{get_or}
use mathlib.Core.Path.{ap, ◌∙◌}
use mir.Facts.{to_z-of_z}
use mir.Val.{SFits}
use mir.Syntax.{w64}
use native.Mathlib.Omega.{arith}
use borrow.Author.Tests.{lt-ltb, le-ltb}
use borrow.Author.Rules.{rules}
use Rattle.packs.proofs.walking.in_words.Goals as goal

pub in_groups-requires : goal.in_groups-requires
in_groups-requires c = omega (arith, c.requires, c.if-k-words.true, c.well_formed.0.1)

pub returns-then-k-words : goal.returns-then-k-words
returns-then-k-words c = let x = get_or c.args.words.now c.args.k (pos 0) in
    let fits : SFits w64 x = search rules in
    let e = c.in_groups.ensures ∙ ap (in_groups c.args.at) (c.raw_of-raw.ensures ∙ ap (raw_of c.args.f) (to_z-of_z fits)) in
    (rw (lt-ltb _ _ c.if-k-words.true) (e ∙ word_groups c.args.at c.args.f x fits), rw c.in_groups.ensures (small_groups c.args.at c.raw_of-raw.result))

pub returns : goal.returns
returns c = (rw (le-ltb _ _ c.if-k-words.false), tt)
