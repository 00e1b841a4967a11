use mathlib.Core.Path.{◌≡◌, refl, sym, ap, ◌∙◌}
use mathlib.Core.List.{List, map}
use Prim.Native.Nat.{ℕ, ◌+◌, ◌<◌}
use native.Mathlib.Omega.{arith}
use lib.IntN.{nat_abs}
use lib.ListN.{length, set, drop, length-set, length-drop}
use lib.Seq.{get_or-drop}
use Rattle.shelf.proofs.Copied.{copied, copy_more}
use Rattle.checked.proofs.Values.{length_map, map_at}
use Rattle.shelf.proofs.accepted.copy_rates.Goals as goal

pub loop-i-init : goal.loop-i-init
loop-i-init c = (refl, refl)

pub overflow_add-a : goal.overflow_add-a
overflow_add-a c = omega (arith, c.requires.0.inside)

pub count_at-requires : goal.count_at-requires
count_at-requires c = let less : c.loop-i.i < c.args.n = omega arith in
    (omega (arith, c.requires.0.inside), omega (arith, c.requires.0.small c.loop-i.i less))

pub overflow_cast-values : goal.overflow_cast-values
overflow_cast-values c = let less : c.loop-i.i < c.args.n = omega arith in
    record { fits = omega (arith, c.count_at.ensures, c.requires.0.small c.loop-i.i less) }

pub loop-i-preserved : goal.loop-i-preserved
loop-i-preserved c = let rates = c.args.rates.now in
    let a = c.args.a in
    let i = c.loop-i.i in
    let s = map nat_abs rates in
    let d = c.args.values.now in
    let inside : i < length (drop a s) = rw length-drop (omega (arith, length_map nat_abs rates, c.requires.0.inside)) in
    let room : i < length d = omega (arith, c.requires.1) in (
      simp length-set c.loop-i.invariant.0,
      ap (λ (l : List ℕ). set l i c.count_at.result) c.loop-i.invariant.1
          ∙ ap (λ (v : ℕ). set (copied (drop a s) d i) i v) (c.count_at.ensures ∙ sym (map_at rates (a + i)) ∙ sym (get_or-drop a s i 0))
          ∙ copy_more 0 (drop a s) d i inside room,
    )

pub shape_of-values : goal.shape_of-values
shape_of-values c = c.loop-i.invariant.0

pub returns : goal.returns
returns c = let a = c.args in
    let all : c.loop-i.i ≡ a.n = omega arith in
    c.loop-i.invariant.1 ∙ ap (λ (k : ℕ). copied (drop a.a (map nat_abs a.rates.now)) a.values.now k) all
