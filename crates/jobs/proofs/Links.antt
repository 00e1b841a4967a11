-- The links of a job that was read, one after another: each is allowed, and the last ends where the words end.
use Prim.Native.Nat.{ℕ, zero, suc, ◌+◌, ◌*◌, ◌≤◌, ◌<◌}
use mathlib.Core.Path.{◌≡◌, refl, sym, ap, ◌∙◌}
use mathlib.Core.List.{List}
use native.Mathlib.Numerals.{add-one}
use native.Mathlib.Omega.{arith}
use borrow.Author.Tests.{lt-ltb, le-ltb}
use lib.IntN.{ℤ}
use lib.ListN.{length}
use Rattle.fields.specs.declared.links.Links.{Links}
use Rattle.fields.specs.declared.Field.TheVariants.{TermCount, Cell, End}
use Rattle.fields.specs.Table.{with_terms, links_from, step_of}
use Rattle.jobs.specs.Words.{count_at, cells_of, start_of, job_of}
use Rattle.jobs.specs.Allowed.{LinkAllowed, Counted}
use Rattle.jobs.proofs.Places.{start_suc}
use Rattle.jobs.proofs.Taken.{At, at_place, at_end, plain, here_on}
use Rattle.jobs.proofs.Terms.{all_terms}

-- the link j, and that its term count and its cells are counts
pub record LinkRead (ws : List ℤ) (j : ℕ) : Type 0 where
  pub allowed : LinkAllowed (job_of ws) j
  pub terms : Counted ws (start_of ws j)
  pub cell : (m : ℕ) → m < count_at ws (start_of ws j) → Counted ws (start_of ws j + 1 + 2 * m)

record OneLink (ws : List ℤ) (links j : ℕ) : Type 0 where
  pub read : LinkRead ws j
  pub rest : At ws (links_from (cells_of ws) links (j + 1)) (start_of ws (j + 1))

one_link_lem : (ws : List ℤ) (links j : ℕ) → j < links → At ws (links_from (cells_of ws) links j) (start_of ws j) → OneLink ws links j
unfolding step_of
one_link_lem ws links j h t =
    let s = start_of ws j in
    let l : Links = record { n = cells_of ws; links = links; link = j; terms = 0; least = 0 } in
    let u : At ws (TermCount l) s = rw (lt-ltb j links h) at t in
    let k = plain 1 4 (λ x. Cell (with_terms l x)) refl refl (λ x. refl) u in
    let first = at_place (s + 1 + 2 * 0) (omega arith) k.rest in
    let a = all_terms ws j 4 (with_terms l (count_at ws s)) 0 refl (omega arith) k.some k.range.small first in
    record {
      read = record {
        allowed = record {
          terms_some = k.some;
          terms_few = k.range.small;
          term = λ m b. (a.each m (omega arith) b).allowed;
          bound = a.bound;
        };
        terms = k.range.natural;
        cell = λ m b. (a.each m (omega arith) b).counted;
      };
      rest = at_place (start_of ws (j + 1)) (rw (add-one j) (omega (arith, start_suc ws j))) a.rest;
    }

-- every link from the link j on
pub record AllLinks (ws : List ℤ) (links j : ℕ) : Type 0 where
  pub each : (i : ℕ) → j ≤ i → i < links → LinkRead ws i
  pub ends : start_of ws links ≡ length ws

pub all_links : (ws : List ℤ) (links j k : ℕ) → j + k ≡ links → At ws (links_from (cells_of ws) links j) (start_of ws j) → AllLinks ws links j
all_links ws links j zero e t =
    let q : j ≡ links = omega arith in
    let u : At ws End (start_of ws j) = rw (le-ltb j links (omega arith)) at t in
    record {
      each = λ i a b. absurd (omega arith);
      ends = ap (start_of ws) (sym q) ∙ at_end u;
    }
all_links ws links j (suc k) e t =
    let o = one_link_lem ws links j (omega arith) t in
    let r = all_links ws links (j + 1) k (omega arith) o.rest in
    record { each = here_on o.read r.each; ends = r.ends }
