-- The check of a job whose cells are turned about, at a table turned about likewise: the loss, every cell's residual and term, every link's sum, and so gap and
-- verdict are those of the job itself. What is used of the map is that it is an involution and carries the job's differences, in both directions, to
-- themselves up to sign.
use Prim.Native.Nat.{ℕ, suc, ◌<◌}
use mathlib.Core.Path.{◌≡◌, sym, ap, ap₂, subst, subst₂, ◌∙◌}
use mathlib.Core.Bool.{Bool, cond}
use native.Mathlib.Nat as N
use native.Mathlib.Omega.{arith}
use lib.IntN.{ℤ, pos, ◌+ℤ◌, ◌-ℤ◌, ◌*ℤ◌}
use lib.Signed.{◌≤ℤ◌, ◌<ℤ◌}
use Rattle.whole.specs.Sum.{sum}
use Rattle.whole.proofs.Sums.{sum_cong}
use Rattle.whole.proofs.Turned.{Involution, sum_turned}
use Rattle.certificate.specs.Problem.{squared}
use Rattle.certificate.specs.Differences.{Family, Inside, cell_of, difference, coefficient, returned, in_row}
use Rattle.certificate.proofs.Turned.{each, Carried, turned_squares, turned_returned}
use Rattle.jobs.specs.Job.{Job, link_coefficient}
use Rattle.jobs.specs.Allowed.{Allowed}
use Rattle.turned.specs.About.{TurnedAbout}
use Rattle.measure.specs.Loss.{family_with, difference_within, family_of, family_across, across_at, fit_of, roughness, rough_of, loss_of}
use Rattle.measure.specs.Gap.{link_sum, slope_of, residual_of, cell_term_of, link_term_of, gap_of}
use Rattle.measure.specs.Check.{accepting, verdict_of}
use Rattle.claims.specs.Meets.{InBox, LinkHolds, EveryInBox, EveryLinkHolds}
use Rattle.claims.specs.Verdicts.{LowestNot}
use Rattle.claims.specs.Reversed.{unplaced}
use Rattle.claims.proofs.Problem.{inside, inside_across, link_same}
use Rattle.claims.proofs.Verdict.{verdict_outside, verdict_broken, verdict_above, verdict_accepted, Ruled, outside, broken, above, accepted, ruled}
use Rattle.std.specs.Prelude.{Err}
use Rattle.refusals.specs.declared.Refusal.TheVariants.{OutsideBox}

module _ {τ : ℕ → ℕ} {j r : Job} (T : TurnedAbout τ j r) (A : Allowed j) (A' : Allowed r) (I : Involution j.cells τ) (C : Carried (family_of j) each τ)
    (D : Carried (family_across j) (in_row j.columns j.across 1) τ) (v v' y y' : ℕ → ℤ) (value : (i : ℕ) → i < j.cells → v' i ≡ v (τ i))
    (multiplier : (l : ℕ) → l < j.links → y' l ≡ y l) where
  abbrev n : ℕ
  n = j.cells

  -- the differences down and across
  abbrev F : Family
  F = family_of j

  abbrev E : Family
  E = family_across j

  abbrev row_counts : ℕ → Bool
  row_counts = in_row j.columns j.across 1

  -- a sum over the cells, and over the links
  over_cells_lem : (f g : ℕ → ℤ) → ((i : ℕ) → i < n → f i ≡ g (τ i)) → sum r.cells f ≡ sum n g
  over_cells_lem f g h = ap (λ (k : ℕ). sum k f) T.cells ∙ sum_cong n h ∙ sum_turned I g

  over_links_lem : (f g : ℕ → ℤ) → ((l : ℕ) → l < j.links → f l ≡ g l) → sum r.links f ≡ sum j.links g
  over_links_lem f g h = ap (λ (k : ℕ). sum k f) T.links ∙ sum_cong j.links h

  -- ---- differences

  -- the families and constants of r are those of j
  down : family_of r ≡ family_of j
  down = λ i. family_with (T.order i) (T.columns i) (T.cells i)

  along : family_across r ≡ family_across j
  along = λ i. family_with (T.across i) 1 (T.cells i)

  same_rough : (x : ℕ → ℤ) → rough_of r x ≡ rough_of j x
  same_rough x = λ i.
      T.constant i *ℤ roughness (down i) (difference (down i) x) +ℤ T.second i *ℤ roughness (along i) (difference_within (T.columns i) (along i) x)

  same_slope : (x : ℕ → ℤ) (c : ℕ) → slope_of r x c ≡ slope_of j x c
  same_slope x c = λ i.
      T.constant i *ℤ returned (down i) (difference (down i) x) c +ℤ T.second i *ℤ returned (along i) (difference_within (T.columns i) (along i) x) c

  -- a difference sees only the cells that it uses
  same_difference : (G : Family) → Inside G n → (f : ℕ) → f < G.count → difference G v' f ≡ difference G (λ i. v (τ i)) f
  same_difference G within f k = sum_cong (suc G.order) (λ m l. ap (λ (z : ℤ). G.row m *ℤ z) (value (cell_of G f m) (used m l)))
    where
      used : (m : ℕ) → m < suc G.order → cell_of G f m < n
      used m l = omega (arith, within f k, N.mul-le-mul_right G.stride (N.le_of_suc-le-suc l))

  same_across : (f : ℕ) → f < E.count → across_at j v' f ≡ across_at j (λ i. v (τ i)) f
  same_across f k = ap (λ (d : ℤ). cond (row_counts f) d (pos 0)) (same_difference E (inside_across j) f k)

  -- ---- the loss

  turned_fit : fit_of r v' ≡ fit_of j v
  turned_fit =
      over_cells_lem (λ i. r.weight i *ℤ squared (v' i -ℤ r.crude i)) (λ i. j.weight i *ℤ squared (v i -ℤ j.crude i))
      (λ i h. ap₂ (λ (w e : ℤ). w *ℤ squared e) (T.weight i h) (ap₂ ◌-ℤ◌ (value i h) (T.crude i h)))

  turned_rough : rough_of r v' ≡ rough_of j v
  turned_rough =
      same_rough v'
      ∙ ap₂ (λ (a b : ℤ). j.constant *ℤ a +ℤ j.second *ℤ b)
      (sum_cong F.count (λ f k. ap squared (same_difference F (inside j) f k)) ∙ turned_squares F n τ each I (inside j) C v)
      (sum_cong E.count (λ f k. ap squared (same_across f k)) ∙ turned_squares E n τ row_counts I (inside_across j) D v)

  pub turned_loss : loss_of r v' ≡ loss_of j v
  unfolding loss_of
  turned_loss = ap₂ ◌+ℤ◌ turned_fit turned_rough

  -- ---- the gap

  turned_slope : (i : ℕ) → i < n → slope_of r v' i ≡ slope_of j v (τ i)
  turned_slope i h =
      same_slope v' i
      ∙ ap₂ (λ (a b : ℤ). j.constant *ℤ a +ℤ j.second *ℤ b)
      (sum_cong F.count (λ f k. ap (λ (d : ℤ). d *ℤ coefficient F f i) (same_difference F (inside j) f k)) ∙ turned_returned F n τ each I (inside j) C v i h)
      (sum_cong E.count (λ f k. ap (λ (d : ℤ). d *ℤ coefficient E f i) (same_across f k)) ∙ turned_returned E n τ row_counts I (inside_across j) D v i h)

  turned_residual : (i : ℕ) → i < n → residual_of r v' y' i ≡ residual_of j v y (τ i)
  unfolding residual_of
  turned_residual i h =
      ap₂ ◌+ℤ◌
      (ap₂ ◌+ℤ◌ (ap₂ (λ (w e : ℤ). pos 2 *ℤ w *ℤ e) (T.weight i h) (ap₂ ◌-ℤ◌ (value i h) (T.crude i h))) (ap (λ (x : ℤ). pos 2 *ℤ x) (turned_slope i h)))
      (over_links_lem (λ l. y' l *ℤ link_coefficient r l i) (λ l. y l *ℤ link_coefficient j l (τ i))
      (λ l k. ap₂ ◌*ℤ◌ (multiplier l k) (T.coefficient l k i h)))

  turned_cell_lem : (i : ℕ) → i < n → cell_term_of r v' y' i ≡ cell_term_of j v y (τ i)
  turned_cell_lem i h = rw (T.weight i h, turned_residual i h, T.floor i h, T.ceiling i h, value i h)

  turned_sum : (l : ℕ) → l < j.links → link_sum r l v' ≡ link_sum j l v
  turned_sum l h =
      sym (link_same r A' l (subst (λ (k : ℕ). l < k) (sym T.links) h) v')
      ∙ over_cells_lem (λ i. link_coefficient r l i *ℤ v' i) (λ i. link_coefficient j l i *ℤ v i) (λ i k. ap₂ ◌*ℤ◌ (T.coefficient l h i k) (value i k))
      ∙ link_same j A l h v

  pub turned_gap : gap_of r v' y' ≡ gap_of j v y
  unfolding gap_of
  turned_gap =
      ap₂ ◌+ℤ◌ (over_cells_lem (cell_term_of r v' y') (cell_term_of j v y) turned_cell_lem)
      (over_links_lem (link_term_of r v' y') (link_term_of j v y)
      (λ l h. ap₂ ◌*ℤ◌ (multiplier l h) (ap₂ ◌-ℤ◌ (T.bound l h) (turned_sum l h))))

  -- ---- boxes and links

  among : (i : ℕ) → i < r.cells → i < n
  among i h = subst (λ (k : ℕ). i < k) T.cells h

  box_there : (i : ℕ) → i < n → InBox j v (τ i) → InBox r v' i
  box_there i h b = rw (T.floor i h, T.ceiling i h, value i h) b

  box_back : (i : ℕ) → i < n → InBox r v' i → InBox j v (τ i)
  box_back i h b = rw (T.floor i h, T.ceiling i h, value i h) at b

  boxes_there : EveryInBox j v → EveryInBox r v'
  boxes_there B i h = box_there i (among i h) (B (τ i) (I.stays i (among i h)))

  boxes_back : EveryInBox r v' → EveryInBox j v
  boxes_back B i h =
      subst (InBox j v) (I.twice i h) (box_back (τ i) (I.stays i h) (B (τ i) (subst (λ (k : ℕ). τ i < k) (sym T.cells) (I.stays i h))))

  joined : (l : ℕ) → l < r.links → l < j.links
  joined l h = subst (λ (k : ℕ). l < k) T.links h

  link_there : (l : ℕ) → l < j.links → LinkHolds j v l → LinkHolds r v' l
  link_there l h b = subst₂ (λ (x z : ℤ). x ≤ℤ z) (sym (turned_sum l h)) (sym (T.bound l h)) b

  link_back : (l : ℕ) → l < j.links → LinkHolds r v' l → LinkHolds j v l
  link_back l h b = subst₂ (λ (x z : ℤ). x ≤ℤ z) (turned_sum l h) (T.bound l h) b

  links_there : EveryLinkHolds j v → EveryLinkHolds r v'
  links_there H l h = link_there l (joined l h) (H l (joined l h))

  lowest_there : (place : ℕ) → LowestNot (LinkHolds j v) j.links place → LowestNot (LinkHolds r v') r.links place
  lowest_there place L = record {
    among = subst (λ (k : ℕ). place < k) (sym T.links) L.among;
    itself = λ b. L.itself (link_back place L.among b);
    lower = λ l k. link_there l (N.lt_trans k L.among) (L.lower l k);
  }

  -- ---- the verdict

  pub turned_verdict : unplaced (verdict_of r v' y') ≡ unplaced (verdict_of j v y)
  turned_verdict = go (ruled j v y) (ruled r v' y')
    where
      seven : (place : ℕ) → verdict_of j v y ≡ Err (OutsideBox place) → Ruled r v' y' → (EveryInBox j v → ⊥) → unplaced (verdict_of r v' y') ≡ unplaced (verdict_of j v y)
      seven place e (outside at L) n = ap unplaced (verdict_outside r v' y' at L) ∙ sym (ap unplaced e)
      seven place e (broken B at L) n = absurd (n (boxes_back B))
      seven place e (above B H h) n = absurd (n (boxes_back B))
      seven place e (accepted B H h) n = absurd (n (boxes_back B))

      go : Ruled j v y → Ruled r v' y' → unplaced (verdict_of r v' y') ≡ unplaced (verdict_of j v y)
      go (outside place L) s = seven place (verdict_outside j v y place L) s (λ B. L.itself (B place L.among))
      go (broken B place L) s =
          ap unplaced (verdict_broken r v' y' (boxes_there B) place (lowest_there place L) ∙ sym (verdict_broken j v y B place L))
      go (above B H h) s =
          ap unplaced
          (verdict_above r v' y' (boxes_there B) (links_there H) (subst₂ (λ (x z : ℤ). x <ℤ z) (sym T.tolerance) (sym turned_gap) h))
          ∙ sym (ap unplaced (verdict_above j v y B H h))
      go (accepted B H h) s =
          ap unplaced
          (verdict_accepted r v' y' (boxes_there B) (links_there H) (subst₂ (λ (x z : ℤ). x ≤ℤ z) (sym turned_gap) (sym T.tolerance) h)
          ∙ ap₂ accepting turned_loss turned_gap
          ∙ sym (verdict_accepted j v y B H h))
