-- A count is one word, and its test goes by that word.
use Rattle.std.proofs.Common.{ℕ, [], ◌∷◌, Option, ap, ◌∙◌, rules, tests}
use Rattle.std.proofs.lemmas.Iterator.{YieldsList-from_slice}
use Rattle.std.proofs.lemmas.Iterator.Search.{position_from_yields_List}
use Rattle.slots.specs.Slots.{lowest}
use Rattle.slots.proofs.Lowest.{first_word_is}
use Rattle.counts.specs.Counts.{is_wrong}
use Rattle.counts.proofs.Tests.{wrong_alone}
use Rattle.counts.proofs.lowest_wrong.Goals as goal

pub returns : goal.returns
returns c =
    let row = c.args.row.now in
    first_word_is is_wrong wrong_alone row c.position.result
    (position_from_yields_List (λ x. is_wrong (x ∷ [])) _ _ _ c.position.ensures.ran (YieldsList-from_slice row (cc)) (λ x b q k. search (rules, tests)))
    ∙ ap {B = Option ℕ} (λ (n : ℕ). lowest is_wrong 1 n row) c.requires
