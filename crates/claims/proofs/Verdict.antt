-- The verdict on a table with multipliers, case by case: what each verdict needs, and that one of the four is met.
use Prim.Native.Nat.{ℕ}
use mathlib.Core.Path.{◌≡◌, refl, ◌∙◌}
use mathlib.Core.Logic.{◌⊎◌, inl, inr}
use mathlib.Core.Bool.{Bool, true, false}
use native.Mathlib.Nat as N
use borrow.Author.Tests.{lt-ltb, le-ltb}
use lib.Dec.{T, ltb}
use lib.IntN.{ℤ}
use lib.Signed.{◌≤ℤ◌, ◌<ℤ◌, le_z, le_z_yes, clash_ℤ}
use mir.Facts.{and_yes, yes_and}
use Rattle.whole.proofs.Order.{≤ℤ-or->}
use Rattle.std.specs.Prelude.{if◌then◌else◌}
use Rattle.jobs.specs.Job.{Job}
use Rattle.measure.specs.Loss.{loss_of}
use Rattle.measure.specs.Gap.{gap_of}
use Rattle.measure.specs.Largest.{largest_place}
use Rattle.measure.specs.Check.{Verdict, accepting, lowest_failing, in_box, holds, verdict_of}
use Rattle.claims.specs.Meets.{InBox, LinkHolds, EveryInBox, EveryLinkHolds}
use Rattle.claims.specs.Verdicts.{LowestNot}
use Rattle.claims.proofs.Lowest.{Tells, Sought, all, lowest, sought, ends_after, ends_at}
use Rattle.std.specs.Prelude.{Err}
use Rattle.refusals.specs.declared.Refusal.TheVariants.{OutsideBox, BrokenLink, GapAbove}

-- the tests of a box and of a link say whether a value is in its box and a link holds
boxes : (j : Job) (v : ℕ → ℤ) → Tells (InBox j v) (in_box j v)
boxes j v = record {
  sure = λ i t. let h = and_yes (le_z (j.floor i) (v i)) (le_z (v i) (j.ceiling i)) t in (le_z_yes h.0, le_z_yes h.1);
  seen = λ i h. yes_and (le_z (j.floor i) (v i)) (le_z (v i) (j.ceiling i)) h.0.le h.1.le;
}

links : (j : Job) (v : ℕ → ℤ) → Tells (LinkHolds j v) (holds j v)
links j v = record { sure = λ l t. le_z_yes t; seen = λ l h. h.le }

told : (b : Bool) → T b → b ≡ true
told true t = refl
told false t = absurd t

denied : (b : Bool) → (T b → ⊥) → b ≡ false
denied true f = absurd (f tt)
denied false f = refl

past : (n : ℕ) → ltb n n ≡ false
past n = le-ltb n n (N.le_refl n)

module _ (j : Job) (v y : ℕ → ℤ) where
  -- the verdict by where the two searches end and by the last test
  abbrev by : (cell link : ℕ) (within : Bool) → Verdict
  by cell link within =
      if ltb cell j.cells then Err (OutsideBox cell) else
      if ltb link j.links then Err (BrokenLink link) else
      if within then accepting (loss_of j v) (gap_of j v y) else Err (GapAbove (largest_place j v y))

  verdict_by : {cell link : ℕ} {within : Bool} → lowest_failing (in_box j v) j.cells ≡ cell → lowest_failing (holds j v) j.links ≡ link
      → le_z (gap_of j v y) j.tolerance ≡ within → verdict_of j v y ≡ by cell link within
  unfolding verdict_of
  verdict_by a b c = rw (a, b, c)

  pub verdict_outside : (place : ℕ) → LowestNot (InBox j v) j.cells place → verdict_of j v y ≡ Err (OutsideBox place)
  verdict_outside place L =
      verdict_by (ends_at (boxes j v) j.cells place L) refl refl
      ∙ rw (lt-ltb place j.cells L.among)

  module _ (B : EveryInBox j v) where
    abbrev boxes_pass : lowest_failing (in_box j v) j.cells ≡ j.cells
    boxes_pass = ends_after (boxes j v) j.cells B

    pub verdict_broken : (place : ℕ) → LowestNot (LinkHolds j v) j.links place → verdict_of j v y ≡ Err (BrokenLink place)
    verdict_broken place L =
        verdict_by boxes_pass (ends_at (links j v) j.links place L) refl
        ∙ rw (past j.cells, lt-ltb place j.links L.among)

    module _ (H : EveryLinkHolds j v) where
      links_pass : lowest_failing (holds j v) j.links ≡ j.links
      links_pass = ends_after (links j v) j.links H

      pub verdict_above : j.tolerance <ℤ gap_of j v y → verdict_of j v y ≡ Err (GapAbove (largest_place j v y))
      verdict_above h =
          verdict_by boxes_pass links_pass (denied (le_z (gap_of j v y) j.tolerance) (λ t. clash_ℤ h (le_z_yes t)))
          ∙ rw (past j.cells, past j.links)

      pub verdict_accepted : gap_of j v y ≤ℤ j.tolerance → verdict_of j v y ≡ accepting (loss_of j v) (gap_of j v y)
      verdict_accepted h =
          verdict_by boxes_pass links_pass (told (le_z (gap_of j v y) j.tolerance) h.le) ∙ rw (past j.cells, past j.links)

-- one of the four is met
pub data Ruled (j : Job) (v y : ℕ → ℤ) : Type 0 where
  outside : (place : ℕ) → LowestNot (InBox j v) j.cells place → Ruled j v y
  broken : EveryInBox j v → (place : ℕ) → LowestNot (LinkHolds j v) j.links place → Ruled j v y
  above : EveryInBox j v → EveryLinkHolds j v → j.tolerance <ℤ gap_of j v y → Ruled j v y
  accepted : EveryInBox j v → EveryLinkHolds j v → gap_of j v y ≤ℤ j.tolerance → Ruled j v y

pub ruled : (j : Job) (v y : ℕ → ℤ) → Ruled j v y
ruled j v y = go (sought (boxes j v) j.cells) (sought (links j v) j.links) (≤ℤ-or-> (gap_of j v y) j.tolerance)
  where
    go : Sought (boxes j v) j.cells → Sought (links j v) j.links → (gap_of j v y ≤ℤ j.tolerance) ⊎ (j.tolerance <ℤ gap_of j v y) → Ruled j v y
    go (lowest place e L) o h = outside place L
    go (all e B) (lowest place q L) h = broken B place L
    go (all e B) (all q H) (inl h) = accepted B H h
    go (all e B) (all q H) (inr h) = above B H h
