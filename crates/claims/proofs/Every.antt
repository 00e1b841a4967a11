-- What holds of every table of a list holds after a keep and after a forget.
use mathlib.Core.Bool.{Bool, true, false, cond}
use mathlib.Core.List.{List, [], ◌∷◌, ◌++◌}
use Prim.Native.Nat.{ℕ}
use lib.Dec.{ltb}
use lib.ListN.{length}
use Rattle.claims.specs.Lists.{Table, is_of, holds, replaced, removed, youngest, kept}

abbrev pub All : (P : Table → Type 0) → List Table → Type 0
All P [] = Unit
All P (t ∷ ts) = P t × All P ts

module _ (P : Table → Type 0) where
  all_cond : (b : Bool) (ss ts : List Table) → All P ss → All P ts → All P (cond b ss ts)
  all_cond true ss ts p q = p
  all_cond false ss ts p q = q

  pub all_removed : (j : ℕ) (ts : List Table) → All P ts → All P (removed j ts)
  all_removed j [] a = tt
  all_removed j (t ∷ ts) a = all_cond (is_of j t) ts (t ∷ removed j ts) a.1 (a.0, all_removed j ts a.1)

  all_replaced : (u : Table) (ts : List Table) → P u → All P ts → All P (replaced u ts)
  all_replaced u [] f a = tt
  all_replaced u (t ∷ ts) f a = all_cond (is_of u.job t) (u ∷ ts) (t ∷ replaced u ts) (f, a.1) (a.0, all_replaced u ts f a.1)

  all_append : (u : Table) (ts : List Table) → P u → All P ts → All P (ts ++ (u ∷ []))
  all_append u [] f a = (f, tt)
  all_append u (t ∷ ts) f a = (a.0, all_append u ts f a.1)

  all_youngest : (ts : List Table) → All P ts → All P (youngest ts)
  all_youngest [] a = tt
  all_youngest (t ∷ ts) a = a.1

  pub all_kept : (u : Table) (ts : List Table) (c : ℕ) → P u → All P ts → All P (kept c u ts)
  all_kept u ts c f a =
      all_cond (holds u.job ts) (replaced u ts) (cond (ltb (length ts) c) ts (youngest ts) ++ (u ∷ [])) (all_replaced u ts f a)
      (all_append u (cond (ltb (length ts) c) ts (youngest ts)) f (all_cond (ltb (length ts) c) ts (youngest ts) a (all_youngest ts a)))
