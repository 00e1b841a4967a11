-- The first slot that passes is the lowest.
use Rattle.std.proofs.Common.{rules, arith, ◌*◌, drop, refl, tests}
use Rattle.std.proofs.lemmas.Iterator.{YieldsList-from_range}
use Rattle.std.proofs.lemmas.Iterator.Search.{position_from_yields_List}
use Rattle.slots.specs.Slots.{slot_words, has_job}
use Rattle.slots.proofs.Lowest.{first_is}
use Rattle.slots.proofs.search.Slots.find_job.Goals as goal

pub returns : goal.returns
returns c =
    let s = c.args.self.span.now in
    let n = c.args.self.count in
    first_is (has_job c.args.job) slot_words s n c.position.result
    (position_from_yields_List (λ p. has_job c.args.job (drop (slot_words * p) s)) _ _ _ c.position.ensures.ran (YieldsList-from_range 0 n n refl (omega arith)) (λ x b q k. search (rules, tests)))
