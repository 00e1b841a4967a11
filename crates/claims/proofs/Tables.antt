-- A list of tables does not grow past its count, after a keep and after a forget.
use mathlib.Core.Path.{◌≡◌, refl}
use mathlib.Core.Bool.{Bool, true, false, cond}
use mathlib.Core.List.{List, [], ◌∷◌, ◌++◌}
use Prim.Native.Nat.{ℕ, zero, suc, ◌-◌, ◌<◌, ◌≤◌}
use native.Mathlib.Omega.{arith}
use lib.Dec.{ltb}
use lib.ListN.{length, length-append}
use borrow.Author.Tests.{ltb-true}
use Rattle.claims.specs.Lists.{Table, is_of, holds, replaced, removed, youngest, kept}

few_cond : (b : Bool) (ss ts : List Table) (c : ℕ) → length ss ≤ c → length ts ≤ c → length (cond b ss ts) ≤ c
few_cond true ss ts c p q = p
few_cond false ss ts c p q = q

pub few_removed : (j : ℕ) (ts : List Table) (c : ℕ) → length ts ≤ c → length (removed j ts) ≤ c
few_removed j [] c h = h
few_removed j (t ∷ ts) zero h = absurd (omega arith)
few_removed j (t ∷ ts) (suc c) h =
    let k : length (removed j ts) ≤ c = few_removed j ts c (omega arith) in
    few_cond (is_of j t) ts (t ∷ removed j ts) (suc c) (omega arith) (omega arith)

few_replaced : (u : Table) (ts : List Table) (c : ℕ) → length ts ≤ c → length (replaced u ts) ≤ c
few_replaced u [] c h = h
few_replaced u (t ∷ ts) zero h = absurd (omega arith)
few_replaced u (t ∷ ts) (suc c) h =
    let k : length (replaced u ts) ≤ c = few_replaced u ts c (omega arith) in
    few_cond (is_of u.job t) (u ∷ ts) (t ∷ replaced u ts) (suc c) (omega arith) (omega arith)

length_youngest : (ts : List Table) → length (youngest ts) ≡ length ts - 1
length_youngest [] = refl
length_youngest (t ∷ ts) = omega arith

few_next : (u : Table) (ts : List Table) (c : ℕ) → 0 < c → length ts ≤ c → length (cond (ltb (length ts) c) ts (youngest ts) ++ (u ∷ [])) ≤ c
few_next u ts c pos h = go (ltb (length ts) c) refl
  where
    go : (b : Bool) → ltb (length ts) c ≡ b → length (cond b ts (youngest ts) ++ (u ∷ [])) ≤ c
    go true e = let l = ltb-true (length ts) c e in omega (arith, length-append ts (u ∷ []))
    go false e = omega (arith, length-append (youngest ts) (u ∷ []), length_youngest ts)

pub few_kept : (u : Table) (ts : List Table) (c : ℕ) → 0 < c → length ts ≤ c → length (kept c u ts) ≤ c
few_kept u ts c pos h = few_cond (holds u.job ts) (replaced u ts) (cond (ltb (length ts) c) ts (youngest ts) ++ (u ∷ [])) c (few_replaced u ts c h) (few_next u ts c pos h)
