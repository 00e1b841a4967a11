-- After the turns below m, what is left to take off is the products from m on.
use mathlib.Core.Path.{◌≡◌}
use Prim.Native.Nat.{◌-◌}
use Rattle.factor.specs.Factor.{less_by, product_of}
use Rattle.factor.proofs.less_products.Given as goal

abbrev pub invariant-loop-m : goal.invariant-loop-m
invariant-loop-m l = less_by (product_of l.lj l.j l.li l.i l.d) l.m (l.i - l.m) l.rest ≡ less_by (product_of l.lj l.j l.li l.i l.d) l.lo (l.i - l.lo) l.x
