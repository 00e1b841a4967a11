-- The first slot that passes is the lowest.
use Rattle.std.proofs.Common.{rules, arith, ◌≡◌, ◌*◌, drop, refl, tests, ap}
use Rattle.std.proofs.lemmas.Iterator.{YieldsList-from_range}
use Rattle.std.proofs.lemmas.Iterator.Search.{position_from_yields_List}
use Rattle.slots.specs.declared.search.Slots.{Slots}
use Rattle.slots.specs.Slots.{slot_words, is_empty}
use Rattle.slots.proofs.Lowest.{first_is}
use Rattle.slots.proofs.search.Slots.find_empty.Goals as goal

pub returns : goal.returns
unfolding is_empty
returns c =
    let s = c.args.self.span.now in
    let n = c.args.self.count in
    first_is is_empty slot_words s n c.position.result
    (position_from_yields_List (λ p. is_empty (drop (slot_words * p) s)) _ _ _ c.position.ensures.ran (YieldsList-from_range 0 n n refl (omega arith)) (λ x b q k. (let e : q.0 ≡ c.args.self = search (rules, tests) in ap {B = record { 0 : Slots }} (λ (z : Slots). record { 0 = z }) e, search (rules, tests))))
