-- The first number above the most is the lowest at which the test fails.
use Rattle.std.proofs.Common.{◌≡◌, ℕ, ltb, Bool, true, false, cond, List, length, get_or, Some, None, unwrap_or, sym, ap, ◌∙◌, rules, tests, arith}
use Rattle.std.specs.List.{position_or_len}
use Rattle.std.proofs.lemmas.List.Sums.{fails_before_first, passes_at_first}
use borrow.Author.Tests.{ltb-true, ltb-false, le-leb, lt-leb}
use Rattle.std.proofs.lemmas.Iterator.{YieldsList-from_slice}
use Rattle.std.proofs.lemmas.Iterator.Search.{position_from_yields_List}
use Rattle.measure.proofs.Lowest.{lowest_all, lowest_at}
use Rattle.shelf.specs.Fetched.{up_to, lowest_above}
use Rattle.shelf.proofs.kept.lowest_above.Goals as goal

module _ (most : ℕ) (numbers : List ℕ) where
  abbrev first : ℕ
  first = position_or_len (ltb most) numbers

  small : (k : ℕ) → ltb most (get_or numbers k 0) ≡ false → up_to most numbers k ≡ true
  small k e = le-leb (get_or numbers k 0) most (ltb-false most (get_or numbers k 0) e)

  above : (b : Bool) → ltb first (length numbers) ≡ b → unwrap_or (cond b (Some first) None) (length numbers) ≡ lowest_above most numbers
  above true e =
      let h = ltb-true first (length numbers) e in
      sym (lowest_at (up_to most numbers) (length numbers) first h (λ k l. small k (fails_before_first (ltb most) numbers k 0 l)) (lt-leb (get_or numbers first 0) most (ltb-true most (get_or numbers first 0) (passes_at_first (ltb most) numbers 0 h))))
  above false e = let h = ltb-false first (length numbers) e in sym (lowest_all (up_to most numbers) (length numbers) (λ k l. small k (fails_before_first (ltb most) numbers k 0 (omega arith))))

pub returns : goal.returns
returns c =
    let most = c.args.most in
    let numbers = c.args.numbers.now in
    let e = position_from_yields_List (ltb most) _ _ c.position.result c.position.ensures.ran (YieldsList-from_slice numbers (cc)) (λ x b q k. search (rules, tests)) in
    c.unwrap_or.ensures ∙ ap (λ o. unwrap_or o (length numbers)) e ∙ above most numbers (ltb (first most numbers) (length numbers)) (λ _. ltb (first most numbers) (length numbers))
