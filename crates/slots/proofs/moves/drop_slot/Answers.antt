-- The words behind slot p move down by one slot, and then the words of the last slot become zeros.
use Rattle.std.proofs.Common.{ℕ, ◌*◌, ◌-◌, ◌≤◌, ap, ◌∙◌, ◌++◌, List, take, drop, replicate, ◌+◌, arith}
use lib.ListN.{length, length-drop}
use borrow.Rule.Slice.PartMut.{put_mid, mid_of}
use Rattle.slots.specs.Slots.{slot_words}
use Rattle.slots.proofs.Placed.{cut, cut_length, lent_length, lent_moved, moved_put, moved_last, dropped_is}
use Rattle.slots.proofs.moves.drop_slot.Goals as goal

pub returns : goal.returns
returns c =
    let s = c.args.span.now in
    let p = c.args.p in
    let a = slot_words * p in
    let part = mid_of a (length s - a) s in
    let room : slot_words ≤ length part = lent_length slot_words a s c.requires in
    let ys = put_mid a (length s - a) s c.copy_within.new.self in
    let moved = lent_moved slot_words a s c.requires c.copy_within.new.self (c.copy_within.ensures.after ∙ cut slot_words 0 part room) in
    let len = ap length moved ∙ cut_length slot_words a s c.requires in
    moved_put slot_words a s c.requires ys moved len c.fill.new.self
    ∙ ap (λ (z : List ℕ). take a s ++ (drop (a + slot_words) s ++ z)) (c.fill.ensures.after (λ y e. e))
    ∙ ap (λ (n : ℕ). take a s ++ (drop (a + slot_words) s ++ replicate n 0)) (moved_last slot_words a s c.requires ys moved len) ∙ dropped_is slot_words p s
