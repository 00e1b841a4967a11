use Rattle.std.proofs.Common.{◌∙◌, leb, rules, tests}
use Rattle.std.proofs.lemmas.Iterator.{YieldsList-from_slice}
use Rattle.std.proofs.lemmas.Iterator.Search.{all_from_yields_List}
use Rattle.decimals.specs.Whole.{largest}
use Rattle.exports.proofs.Texts.{upto_all}
use Rattle.exports.proofs.text.all_upto.Goals as goal

pub returns : goal.returns
returns c = all_from_yields_List (λ x. leb x largest) _ _ _ c.all.ensures.ran (YieldsList-from_slice c.args.rates.now cc) (λ x b q k. search (rules, tests)) ∙ upto_all largest c.args.rates.now
