-- Room is tested last, and the values are copied whole.
use mathlib.Core.Path.{◌≡◌, refl, ap}
use lib.IntN.{nat_abs}
use lib.ListN.{length}
use borrow.Rule.Slice.PartMut.{put_mid}
use Rattle.std.proofs.Common.{rules}
use Rattle.measure.specs.Check.{accepting}
use Rattle.checked.specs.Answers.{refusal}
use Rattle.shelf.specs.Fetched.{handed}
use Rattle.shelf.proofs.Picked.{replied}
use Rattle.shelf.proofs.Judged.{hand_short, hand_given}
use Rattle.shelf.proofs.kept.hand_out.Goals as goal

pub returns-then-out-n : goal.returns-then-out-n
returns-then-out-n c = let a = c.args in
    let o = a.out.now in
    let v = a.values.now in
    let both = replied (refusal 13 (length v)) (handed (length o) v (accepting a.figures.loss a.figures.gap)) (refusal 13 (length v)).answer o o
    (hand_short (length o) v a.figures.loss a.figures.gap c.if-out-n.true) refl refl in record { answer = both.0; output = both.1 }

pub returns : goal.returns
returns c = let a = c.args in
    let o = a.out.now in
    let v = a.values.now in
    let loss = c.size_of-loss in
    let gap = c.size_of-gap in
    let f : loss.result ≡ nat_abs a.figures.loss = search rules in
    let g : gap.result ≡ nat_abs a.figures.gap = search rules in
    let both = replied (record { answer = record { number = 0; place = length v; loss = loss.result; gap = gap.result }; values = v }) (handed (length o) v (accepting a.figures.loss a.figures.gap)) (record { number = 0; place = length v; loss = loss.result; gap = gap.result }) o (put_mid 0 (length v) o c.copy_from_slice.new.self)
    (hand_given (length o) v a.figures.loss a.figures.gap c.if-out-n.false loss.result gap.result f g) refl (ap (put_mid 0 (length v) o) c.copy_from_slice.ensures.after) in
    record { answer = both.0; output = both.1 }
