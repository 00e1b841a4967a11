-- The job of turned words is the job turned about, for any map of the cells that takes each back to where it came from.
use Prim.Native.Nat.{ℕ, ◌<◌}
use mathlib.Core.Path.{◌≡◌, ap, ◌∙◌}
use mathlib.Core.List.{List}
use native.Mathlib.Omega.{arith}
use lib.IntN.{ℤ, nat_abs}
use Rattle.whole.proofs.Turned.{Involution}
use Rattle.jobs.specs.Job.{link_coefficient}
use Rattle.jobs.specs.Words.{cells_of, links_of, job_of}
use Rattle.jobs.specs.Allowed.{Allowed, Laid}
use Rattle.turned.specs.Words.{turned_words}
use Rattle.turned.specs.About.{TurnedAbout}
use Rattle.turned.proofs.Named.{named_turned}
use Rattle.turned.proofs.Words.{own_terms, count, same_cells, same_grid, same_links, turned_crude, turned_weight, turned_floor, turned_ceiling, turned_terms, turned_coefficient, turned_bound}
use Rattle.turned.proofs.Shape.{first_words, same_rows, same_columns, same_order, same_across, same_second, same_constant, same_tolerance}

module _ (ws : List ℤ) (L : Laid ws) (A : Allowed (job_of ws)) (τ : ℕ → ℕ) (I : Involution (cells_of ws) τ) where
  -- as many terms in each link
  pub same_count : (l : ℕ) → l < links_of ws → count ws L τ l ≡ (job_of ws).terms l
  same_count l h = named_turned I (link_coefficient (job_of ws) l) ∙ (own_terms ws L A l h).count

  pub turned_about : TurnedAbout τ (job_of ws) (job_of (turned_words τ ws))
  turned_about = record {
    society = ap nat_abs (first_words ws L τ 0 (omega arith));
    number = ap nat_abs (first_words ws L τ 1 (omega arith));
    cells = same_cells ws L τ;
    grid = same_grid ws L τ;
    rows = same_rows ws L τ;
    columns = same_columns ws L τ;
    order = same_order ws L τ;
    across = same_across ws L τ;
    second = same_second ws L τ;
    constant = same_constant ws L τ;
    tolerance = same_tolerance ws L τ;
    crude = turned_crude ws L τ;
    weight = turned_weight ws L τ;
    floor = turned_floor ws L τ;
    ceiling = turned_ceiling ws L τ;
    links = same_links ws L τ;
    terms = λ l h. turned_terms ws L τ l h ∙ same_count l h;
    coefficient = turned_coefficient ws L τ;
    bound = turned_bound ws L τ;
  }
