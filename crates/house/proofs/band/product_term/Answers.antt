-- The tests are those of `uses_both`, and coefficients are small.
use Rattle.std.proofs.Common.{◌-◌, arith, lit<, lt-ltb, le-leb}
use Rattle.rows.proofs.Rule.{row_small}
use Rattle.house.proofs.Sizes.{product_fits, product_is}
use Rattle.house.proofs.band.product_term.Goals as goal

pub overflow_mul-result : goal.overflow_mul-result
overflow_mul-result c = let a = c.args in
    product_fits (c.requires.4.at a.m) (c.requires.4.at (a.m - a.o)) (row_small a.z a.m (omega arith) (omega arith)) (row_small a.z (a.m - a.o) (omega arith) (omega arith)) (lit< tt) (lit< tt) (lit< tt)

pub returns : goal.returns
returns c = let a = c.args in
    rw (le-leb _ _ c.if-m-o.false, le-leb _ _ c.if-i-m.false, lt-ltb _ _ c.if-n-last.false)
    (product_is (c.requires.4.at a.m) (c.requires.4.at (a.m - a.o)) (row_small a.z a.m (omega arith) (omega arith)) (row_small a.z (a.m - a.o) (omega arith) (omega arith)) (lit< tt) (lit< tt) (lit< tt))
