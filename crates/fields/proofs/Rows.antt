-- Reading a row of the table backwards: what is known of a number that lets the walk go on, and of a field that is the end.
use Prim.Native.Nat.{ℕ, ◌*◌, ◌^◌, ◌≤◌, ◌<◌}
use mathlib.Core.Path.{◌≡◌, refl}
use mathlib.Core.Bool.{Bool, true, false, ◌&&◌}
use native.Mathlib.Omega.{arith}
use borrow.Author.Tests.{leb-true, ltb-true, ltb-false, eqb-true}
use lib.Dec.{leb, ltb, eqb}
use Rattle.numbers.proofs.Clash.{clash}
use Rattle.numbers.proofs.Both.{both}
use Rattle.fields.specs.declared.Field.{Field}
use Rattle.fields.specs.declared.Field.TheVariants.{Society, Job, Count, Order, Rows, Columns, OrderDown, OrderAcross, SecondConstant, Constant, Tolerance, Crude, Weight, Floor, Ceiling, LinkCount, TermCount, Cell, Coefficient, Bound, Value, Multiplier, End}
use Rattle.std.specs.Prelude.{Ok, Err}
use Rattle.fields.specs.declared.Barred.TheVariants.{Unallowed}
use Rattle.fields.specs.Table.{Step, within, rule, are_columns, is_order, signed_at, end_at, step_of}

-- a rule that lets the walk go on was kept
pub record Kept (allowed : Bool) (s : Step) (g : Field) : Type 0 where
  pub ok : allowed ≡ true
  pub next : s ≡ Ok g

pub kept : {allowed : Bool} {s : Step} {g : Field} → rule allowed s ≡ Ok g → Kept allowed s g
kept {allowed} {s} {g} e = go allowed refl e
  where
    go : (o : Bool) → allowed ≡ o → rule o s ≡ Ok g → Kept allowed s g
    go true q e = record { ok = q; next = e }
    go false q e = clash (cc)

pub within_both : (least most x : ℕ) → within least most x ≡ true → (least ≤ x) × (x ≤ most)
within_both least most x e = go (leb least x) refl e
  where
    go : (o : Bool) → leb least x ≡ o → (o && leb x most) ≡ true → (least ≤ x) × (x ≤ most)
    go true q e = (leb-true least x q, leb-true x most e)
    go false q e = clash (cc)

pub record OrderTold (length x : ℕ) : Type 0 where
  pub some : 1 ≤ x
  pub few : x ≤ 4
  pub less : x < length

pub order_told : (length x : ℕ) → is_order length x ≡ true → OrderTold length x
order_told length x e =
    let t = both (within 1 4 x) (ltb x length) e in
    let w = within_both 1 4 x t.0 in
    record { some = w.0; few = w.1; less = ltb-true x length t.1 }

pub record ColumnsTold (n rows x : ℕ) : Type 0 where
  pub some : 2 ≤ x
  pub few : x ≤ 120
  pub product : rows * x ≡ n

pub columns_told : (n rows x : ℕ) → are_columns n rows x ≡ true → ColumnsTold n rows x
columns_told n rows x e =
    let t = both (within 2 120 x) (eqb (rows * x) n) e in
    let w = within_both 2 120 x t.0 in
    record { some = w.0; few = w.1; product = eqb-true (rows * x) n t.1 }

-- a number beyond what is allowed
within_out : (most x : ℕ) → most < x → within 0 most x ≡ false
within_out most x h = go (within 0 most x) refl
  where
    go : (o : Bool) → within 0 most x ≡ o → o ≡ false
    go true q = absurd (omega (arith, within_both 0 most x q))
    go false q = refl

-- a signed number that nine groups do not hold is not allowed
pub signed_large : (f : Field) (x : ℕ) → signed_at f ≡ true → 2 ^ 63 ≤ x → step_of f x ≡ Err Unallowed
unfolding step_of
signed_large Society x t h = clash (cc)
signed_large Job x t h = clash (cc)
signed_large Count x t h = clash (cc)
signed_large (Order a) x t h = clash (cc)
signed_large (Rows a) x t h = clash (cc)
signed_large (Columns a b) x t h = clash (cc)
signed_large (OrderDown a b) x t h = clash (cc)
signed_large (OrderAcross a) x t h = clash (cc)
signed_large (SecondConstant a) x t h = clash (cc)
signed_large (Constant a b) x t h = clash (cc)
signed_large (Tolerance a) x t h = clash (cc)
signed_large (Crude a) x t h = clash (cc)
signed_large (Weight a) x t h = clash (cc)
signed_large (Floor a) x t h = clash (cc)
signed_large (Ceiling a b) x t h = clash (cc)
signed_large (LinkCount a) x t h = clash (cc)
signed_large (TermCount a) x t h = clash (cc)
signed_large (Cell a) x t h = clash (cc)
signed_large (Coefficient a) x t h = rw (within_out 20 x (omega arith))
signed_large (Bound a) x t h = rw (within_out 2000000000 x (omega arith))
signed_large (Value a b) x t h = clash (cc)
signed_large (Multiplier a) x t h = clash (cc)
signed_large End x t h = clash (cc)

-- and so one that is allowed is small in its stored form
pub signed_small : (f : Field) (x : ℕ) (g : Field) → signed_at f ≡ true → step_of f x ≡ Ok g → x < 2 ^ 63
signed_small f x g t e = go (ltb x (2 ^ 63)) refl
  where
    go : (o : Bool) → ltb x (2 ^ 63) ≡ o → x < 2 ^ 63
    go true q = ltb-true x (2 ^ 63) q
    go false q = let n = signed_large f x t (ltb-false x (2 ^ 63) q) in clash (cc)

-- only the end is the end
pub end_only : (f : Field) → end_at f ≡ true → f ≡ End
end_only Society e = clash (cc)
end_only Job e = clash (cc)
end_only Count e = clash (cc)
end_only (Order a) e = clash (cc)
end_only (Rows a) e = clash (cc)
end_only (Columns a b) e = clash (cc)
end_only (OrderDown a b) e = clash (cc)
end_only (OrderAcross a) e = clash (cc)
end_only (SecondConstant a) e = clash (cc)
end_only (Constant a b) e = clash (cc)
end_only (Tolerance a) e = clash (cc)
end_only (Crude a) e = clash (cc)
end_only (Weight a) e = clash (cc)
end_only (Floor a) e = clash (cc)
end_only (Ceiling a b) e = clash (cc)
end_only (LinkCount a) e = clash (cc)
end_only (TermCount a) e = clash (cc)
end_only (Cell a) e = clash (cc)
end_only (Coefficient a) e = clash (cc)
end_only (Bound a) e = clash (cc)
end_only (Value a b) e = clash (cc)
end_only (Multiplier a) e = clash (cc)
end_only End e = refl
