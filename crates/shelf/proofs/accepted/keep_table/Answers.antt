-- The table is kept with the sizes of its loss and gap, and the answer has them too.
use mathlib.Core.Path.{◌≡◌, sym, ap, ap₂, ◌∙◌, subst}
use Prim.Native.Nat.{ℕ, ◌≤◌}
use native.Mathlib.Omega.{arith}
use lib.IntN.{nat_abs}
use Rattle.jobs.specs.Words.{count_at, links_of}
use Rattle.jobs.proofs.Places.{head_few}
use Rattle.checked.specs.declared.Answer.{Answer}
use Rattle.checked.specs.Checked.{taken_from}
use Rattle.shelf.specs.Given.{kept_from, table_kept}
use Rattle.shelf.specs.Shelf.{layout_in}
use Rattle.shelf.proofs.Packs.{links_place, rated_given}
use borrow.Author.Rules.{rules}
use Rattle.shelf.proofs.accepted.keep_table.Goals as goal

pub count_at-n-requires : goal.count_at-n-requires
count_at-n-requires c = let J = c.requires.1.job in (omega (arith, J.room), omega (arith, J.cells))

pub links_at-at-requires : goal.links_at-at-requires
links_at-at-requires c = let J = c.requires.1.job in (J.order, omega (arith, c.count_at-n.ensures, J.cells))

pub count_at-links-requires : goal.count_at-links-requires
count_at-links-requires c = let J = c.requires.1.job in
    let words = c.args.words.now in
    let at = c.links_at-at.ensures ∙ links_place words c.count_at-n.ensures in (
      omega (arith, at, head_few words, J.room, J.cells),
      subst (λ (k : ℕ). count_at words k ≤ 4294967295) (sym at) (omega (arith, J.links)),
    )

pub keep_rates-requires : goal.keep_rates-requires
keep_rates-requires c = let words = c.args.words.now in
    let p = c.requires.1 in
    let n = c.count_at-n in
    (search rules, p.job, rated_given words c.args.rates.now p n.result c.count_at-links.result n.ensures (c.count_at-links.ensures ∙ ap (count_at words) (c.links_at-at.ensures ∙ links_place words n.ensures)))

pub returns : goal.returns
returns c = let a = c.args in
    let words = a.words.now in
    let rates = a.rates.now in
    let shelf = a.shelf.now in
    let n = c.count_at-n in
    let links = c.count_at-links in
    let F = c.size_of-loss in
    let G = c.size_of-gap in
    let f : F.result ≡ nat_abs a.figures.loss = search rules in
    let g : G.result ≡ nat_abs a.figures.gap = search rules in
    let el : links.result ≡ links_of words = links.ensures ∙ ap (count_at words) (c.links_at-at.ensures ∙ links_place words n.ensures) in
    record {
      answer = ap₂ {C = Answer} (λ (x y : ℕ). record { number = 0; place = 0; loss = x; gap = y }) f g;
      shelf = c.keep_rates.ensures
          ∙ ap₂ (λ (n l : ℕ). kept_from (layout_in shelf) words F.result G.result (taken_from 0 n rates) (taken_from n l rates) shelf) n.ensures el
          ∙ ap₂ (λ (x y : ℕ). table_kept (layout_in shelf) words x y rates shelf) f g;
    }
