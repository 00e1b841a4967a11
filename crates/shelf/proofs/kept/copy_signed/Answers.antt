use mathlib.Core.Path.{◌≡◌, refl, sym, ap, ◌∙◌}
use mathlib.Core.List.{List, ◌++◌, map}
use Prim.Native.Nat.{ℕ, ◌≤◌, ◌<◌}
use native.Mathlib.Omega.{arith}
use lib.IntN.{ℤ, pos}
use lib.ListN.{length, set, get_or, drop, length-set, length-map}
use mir.Syntax.{w64}
use mir.Val.{to_z, of_z}
use Rattle.shelf.proofs.Copied.{copied, copy_more, copy_all}
use Rattle.shelf.proofs.Judged.{signed_at_lem, signed_read}
use Rattle.shelf.proofs.kept.copy_signed.Goals as goal

pub loop-i-init : goal.loop-i-init
loop-i-init c = (refl, refl)

pub bounds-words-i : goal.bounds-words-i
bounds-words-i c = omega (arith, c.loop-i.invariant.0, c.requires)

pub loop-i-preserved : goal.loop-i-preserved
loop-i-preserved c =
    let numbers = c.args.numbers.now in
    let d = c.args.words.now in
    let i = c.loop-i.i in
    let s : List ℤ = map pos numbers in
    let inside : i < length (map pos numbers) = omega (arith, length-map numbers pos) in
    let room : i < length d = omega (arith, c.requires) in
    let small : get_or numbers i 0 ≤ 4294967295 = omega (arith, c.type_inv.numbers i) in (
      simp length-set c.loop-i.invariant.0,
      ap (λ (l : List ℤ). set l i (to_z w64 (of_z w64 c.from.result))) c.loop-i.invariant.1
          ∙ ap (λ (v : ℤ). set (copied s d i) i v) (signed_read c.from.result (get_or numbers i 0) c.from.ensures small ∙ sym (signed_at_lem numbers i))
          ∙ copy_more (pos 0) s d i inside room,
    )

pub shape_of-words : goal.shape_of-words
shape_of-words c = c.loop-i.invariant.0

pub returns : goal.returns
returns c = let numbers = c.args.numbers.now in
    let d = c.args.words.now in
    let all : c.loop-i.i ≡ length (map pos numbers) = omega (arith, length-map numbers pos) in
    c.loop-i.invariant.1 ∙ copy_all (map pos numbers) d c.loop-i.i all ∙ ap (λ (n : ℕ). map pos numbers ++ drop n d) (length-map numbers pos)
