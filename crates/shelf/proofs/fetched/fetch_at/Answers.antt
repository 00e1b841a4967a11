-- The counts are compared, and then the kept numbers are checked.
use mathlib.Core.Path.{◌≡◌, refl, sym, ap₂, ◌∙◌}
use Prim.Native.Nat.{ℕ, ◌+◌, ◌-◌}
use native.Mathlib.Omega.{arith}
use lib.ListN.{length, take, drop}
use borrow.Rule.Slice.PartMut.{mid_len}
use Rattle.jobs.specs.Words.{job_of}
use Rattle.slots.specs.Slots.{head_size, values_end}
use Rattle.checked.specs.Answers.{Reply, refusal}
use Rattle.shelf.specs.Given.{told}
use Rattle.shelf.specs.Fetched.{kept_verdict, handed, fetch_at}
use Rattle.shelf.proofs.Picked.{replied, cells_differ, links_differ, counts_same}
use Rattle.shelf.proofs.fetched.fetch_at.Goals as goal

pub returns-then-span-at : goal.returns-then-span-at
returns-then-span-at c = let a = c.args in
    let s = a.span.now in
    let o = a.out.now in
    let j = job_of a.job.words.now in
    let both = replied (refusal 12 0) (fetch_at j (length o) (drop a.at s)) (refusal 12 0).answer o o
    (cells_differ j (length o) a.at s (λ e. c.if-span-at.true (e ∙ sym c.cells-n.ensures))) refl refl in record { answer = both.0; output = both.1 }

pub returns-then-span-at-2 : goal.returns-then-span-at-2
returns-then-span-at-2 c = let a = c.args in
    let s = a.span.now in
    let o = a.out.now in
    let j = job_of a.job.words.now in
    let both = replied (refusal 12 0) (fetch_at j (length o) (drop a.at s)) (refusal 12 0).answer o o
    (links_differ j (length o) a.at s (λ e. c.if-span-at-2.true (e ∙ sym c.links-links.ensures))) refl refl in record { answer = both.0; output = both.1 }

pub invariant_of-kept : goal.invariant_of-kept
invariant_of-kept c = let A = c.args.job.allowed in
    let s = c.args.span.now in
    let n = c.cells-n in
    let links = c.links-links in
    let a = c.args.at + head_size in
    let d = c.args.at + values_end in
    let few = A.cells_few in
    let few-links = A.links_few in
    let cut : a + n.result - a ≡ n.result = omega arith in
    let cut-links : d + links.result - d ≡ links.result = omega arith in
    record {
      cells = mid_len a (a + n.result) s (omega (arith, n.ensures, c.requires)) ∙ cut ∙ n.ensures;
      links = mid_len d (d + links.result) s (omega (arith, links.ensures, c.requires)) ∙ cut-links ∙ links.ensures;
    }

pub returns : goal.returns
returns c = let got = c.fetch_kept in
    let a = c.args in
    let s = a.span.now in
    let o = a.out.now in
    let room = length o in
    let j = job_of a.job.words.now in
    let n = c.cells-n in
    let links = c.links-links in
    let b = a.at + head_size in
    let d = a.at + values_end in
    let cut : b + n.result - b ≡ n.result = omega arith in
    let cut-links : d + links.result - d ≡ links.result = omega arith in
    let both = replied (handed room (take (b + n.result - b) (drop b s)) (kept_verdict j (take (b + n.result - b) (drop b s)) (take (d + links.result - d) (drop d s)))) (fetch_at j room (drop a.at s)) (told got.result) o got.new.out
    (ap₂ {C = Reply} (λ (x y : ℕ). handed room (take x (drop b s)) (kept_verdict j (take x (drop b s)) (take y (drop d s)))) cut cut-links
    ∙ counts_same j room a.at s n.result links.result n.ensures links.ensures c.if-span-at.false c.if-span-at-2.false) got.ensures.answer got.ensures.output in record { answer = both.0; output = both.1 }
