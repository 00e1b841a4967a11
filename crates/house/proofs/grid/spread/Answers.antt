use Rattle.std.proofs.Common.{◌≡◌, ℕ, ◌+◌, ◌-◌, set, sym, ap, ◌∙◌, arith}
use lib.Ieee.{Float}
use Rattle.house.specs.Filled.{filled}
use Rattle.house.specs.Held.{entry_at, spread_of}
use Rattle.house.proofs.Fills.{filled_more, filled_done}
use Rattle.house.proofs.Spread.{past_next, turn_next}
use Rattle.house.proofs.grid.spread.Goals as goal
use Rattle.house.proofs.grid.spread.Goals.{then-past-columns, else-past-columns}

pub loop-o-preserved : goal.loop-o-preserved
loop-o-preserved c = let a = c.args in
    let o = c.loop-o.o in
    let f = entry_at a.columns a.below.now a.beside.now in
    let e : c.entry_at.result ≡ f o = c.entry_at.ensures ∙ rw (c.loop-o.invariant.0, c.loop-o.invariant.1) in
    let put : filled f (a.z + 1 - (o + 1)) (o + 1) (set c.loop-o.made o c.entry_at.result) ≡ filled f (a.z + 1) 0 a.made.now =
    ap (λ (x : Float). filled f (a.z + 1 - (o + 1)) (o + 1) (set c.loop-o.made o x)) e
    ∙ sym (filled_more f o (a.z + 1) c.loop-o.made (omega arith)) ∙ c.loop-o.invariant.2 in
    elim c.if-past-columns.branch [
      | then-past-columns w ↦ let next = turn_next a.columns o c.requires.0 (omega (arith, c.loop-o.invariant.1, w.if-past-columns.true)) in
          (w.t-is ∙ ap (λ (t : ℕ). t + 1) c.loop-o.invariant.0 ∙ sym next.1, w.past-is ∙ sym next.0, put)
      | else-past-columns w ↦ let next = past_next a.columns o c.requires.0 (λ q. w.if-past-columns.false (ap (λ (p : ℕ). p + 1) c.loop-o.invariant.1 ∙ q)) in
          (w.t-is ∙ c.loop-o.invariant.0 ∙ sym next.1, w.past-is ∙ ap (λ (p : ℕ). p + 1) c.loop-o.invariant.1 ∙ sym next.0, put)
    ]

pub returns : goal.returns
unfolding spread_of
returns c = let a = c.args in
    sym (filled_done (entry_at a.columns a.below.now a.beside.now) c.loop-o.o (a.z + 1) c.loop-o.made (omega arith)) ∙ c.loop-o.invariant.2
