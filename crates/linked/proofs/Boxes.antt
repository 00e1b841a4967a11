-- The values of a proposal lie in their boxes, so the check can refuse it for a link or for its gap alone.
use Prim.Native.Nat.{ℕ, ◌<◌}
use mathlib.Core.Path.{◌≡◌, refl, sym}
use mathlib.Core.Logic.{◌⊎◌, inl, inr}
use mathlib.Core.Bool.{Bool, true, false, ◌&&◌}
use native.Mathlib.Nat as N
use borrow.Author.Tests.{le-ltb}
use lib.Dec.{T, ltb}
use lib.IntN.{ℤ}
use lib.Ieee.{nan}
use lib.ListN.{get_or}
use lib.Signed.{◌≤ℤ◌, le_z}
use Rattle.std.specs.Prelude.{if◌then◌else◌}
use Rattle.numbers.proofs.Clash.{clash}
use Rattle.whole.proofs.Order.{pos_mono}
use Rattle.std.specs.Prelude.{Err}
use Rattle.refusals.specs.declared.Refusal.{Refusal}
use Rattle.refusals.specs.declared.Refusal.TheVariants.{OutsideBox, BrokenLink, GapAbove}
use Rattle.refusals.specs.Refusals.{number_of}
use Rattle.jobs.specs.Job.{Job}
use Rattle.jobs.specs.Words.{word_at}
use Rattle.jobs.specs.Allowed.{Allowed}
use Rattle.jobs.proofs.Readings.{read_jobs_allowed}
use Rattle.jobs.specs.Packs.{job_in}
use Rattle.measure.specs.Loss.{loss_of}
use Rattle.measure.specs.Gap.{gap_of}
use Rattle.measure.specs.Largest.{largest_place}
use Rattle.measure.specs.Check.{accepting, lowest_failing, in_box, holds, values_of, multipliers_of, verdict_of}
use Rattle.measure.proofs.Lowest.{lowest_all}
use Rattle.house.proofs.Boxed.{value_between}
use Rattle.passes.specs.Hildreth.{State}
use Rattle.linked.specs.Proposal.{linked_words, verdict_after}
use Rattle.linked.specs.Promises.{RejectedByLinkOrGap}
use Rattle.linked.proofs.Words.{value_is}

and_true : (a b : Bool) → T a → T b → (a && b) ≡ true
and_true true true p q = refl
and_true true false p q = absurd q
and_true false b p q = absurd p

module _ (j : Job) (a : Allowed j) (s : State) where
  above : (i : ℕ) → i < j.cells → j.floor i ≤ℤ word_at (linked_words j s) i
  above i h = rw (value_is j s i h, (a.cell i h).floor.natural) (pos_mono (value_between (a.cell i h) (get_or s.values i nan)).0)

  below : (i : ℕ) → i < j.cells → word_at (linked_words j s) i ≤ℤ j.ceiling i
  below i h = rw (value_is j s i h, (a.cell i h).ceiling.natural) (pos_mono (value_between (a.cell i h) (get_or s.values i nan)).1)

  in_box_lem : (i : ℕ) → i < j.cells → in_box j (values_of (linked_words j s)) i ≡ true
  in_box_lem i h =
      let x = word_at (linked_words j s) i in
      and_true (le_z (j.floor i) x) (le_z x (j.ceiling i)) (above i h).le (below i h).le

  no_seven : ltb (lowest_failing (in_box j (values_of (linked_words j s))) j.cells) j.cells ≡ false
  no_seven = rw (lowest_all (in_box j (values_of (linked_words j s))) j.cells in_box_lem) (le-ltb j.cells j.cells (N.le_refl j.cells))

-- which refusals are left
left : (a b c : Bool) (p q m : ℕ) (f g : ℤ) (r : Refusal) → a ≡ false
    → (if a then Err (OutsideBox p) else if b then Err (BrokenLink q) else if c then accepting f g else Err (GapAbove m)) ≡ Err r
    → (number_of r ≡ 8) ⊎ (number_of r ≡ 9)
left true b c p q m f g r h e = clash (cc)
left false true c p q m f g r h e = inl (let x : 8 ≡ number_of r = cc in sym x)
left false false true p q m f g r h e = clash (cc)
left false false false p q m f g r h e = inr (let x : 9 ≡ number_of r = cc in sym x)

pub rejected_by_link_or_gap : RejectedByLinkOrGap
unfolding verdict_after verdict_of
rejected_by_link_or_gap job k read s r e =
    let j = job_in job in
    let v = values_of (linked_words j s) in
    let y = multipliers_of j.cells (linked_words j s) in
    left (ltb (lowest_failing (in_box j v) j.cells) j.cells) (ltb (lowest_failing (holds j v) j.links) j.links) (le_z (gap_of j v y) j.tolerance)
    (lowest_failing (in_box j v) j.cells) (lowest_failing (holds j v) j.links) (largest_place j v y) (loss_of j v) (gap_of j v y) r (no_seven j (read_jobs_allowed job k read) s) e
