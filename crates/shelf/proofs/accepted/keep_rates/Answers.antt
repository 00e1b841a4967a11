-- The values and multipliers that are lent are the proposal's, and the society and the number are those of the job's words.
use native.Mathlib.Omega.{arith}
use lib.ListN.{take, drop, replicate}
use Rattle.checked.specs.Checked.{taken_from}
use Rattle.shelf.specs.Shelf.{layout_in}
use Rattle.shelf.proofs.Packs.{numbers_part, kept_by_lem}
use Rattle.shelf.proofs.accepted.keep_rates.Goals as goal

pub copy_rates-requires : goal.copy_rates-requires
copy_rates-requires c = let R = c.requires.2 in (R.values, omega (arith, R.cells_few))

pub copy_rates-requires-2 : goal.copy_rates-requires-2
copy_rates-requires-2 c = let R = c.requires.2 in (R.multipliers, omega (arith, R.links_few))

pub count_at-society-requires : goal.count_at-society-requires
count_at-society-requires c = let J = c.requires.1 in (omega (arith, J.room), omega (arith, J.society))

pub count_at-number-requires : goal.count_at-number-requires
count_at-number-requires c = let J = c.requires.1 in (omega (arith, J.room), omega (arith, J.number))

pub overflow_cast-society : goal.overflow_cast-society
overflow_cast-society c = let J = c.requires.1 in record { fits = omega (arith, c.count_at-society.ensures, J.society) }

pub overflow_cast-table : goal.overflow_cast-table
overflow_cast-table c = let J = c.requires.1 in record { fits = omega (arith, c.count_at-number.ensures, J.number) }

pub returns : goal.returns
returns c = let kept = c.keep_society in
    let number = c.count_at-number in
    let society = c.count_at-society in
    let R = c.requires.2 in
    let a = c.args in
    let rates = a.rates.now in
    let n = a.n in
    let links = a.links in
    let values = c.copy_rates.new.values in
    let multipliers = c.copy_rates-2.new.values in
    kept_by_lem (layout_in a.shelf.now) a.words.now a.loss a.gap society.result number.result society.ensures number.ensures
    (take n values) (taken_from 0 n rates) (take links multipliers) (taken_from n links rates)
    (numbers_part 0 n rates (drop n (replicate 120 0)) values R.values.inside c.copy_rates.ensures)
    (numbers_part n links rates (drop links (replicate 160 0)) multipliers R.multipliers.inside c.copy_rates-2.ensures)
    a.shelf.now kept.new.shelf kept.ensures
