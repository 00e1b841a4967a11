-- Smoothing by linear forms: cells, forms and links, with the loss, residuals and gap of a table (document 01, "Loss and gap", for any family of
-- forms). A job is the problem whose form f is its difference D at f: κ f is the constant k, and a f i is s(m) where i = f + m, else 0. A
-- factor on the fit is a factor on every weight.
use Rattle.std.specs.Prelude.{ℕ, ◌<◌, ℤ, pos, ◌+ℤ◌, ◌-ℤ◌, ◌*ℤ◌, ◌≤ℤ◌}
use Rattle.whole.specs.Sum.{sum}

-- n cells with crude rate u, weight w, floor lo and ceiling hi; m forms with constants κ, where a f i is the coefficient of the cell i in the form f;
-- p links with bounds b, where c j i is the coefficient of the cell i in the link j.
pub record Problem : Type 0 where
  pub n : ℕ
  pub u : ℕ → ℤ
  pub w : ℕ → ℤ
  pub lo : ℕ → ℤ
  pub hi : ℕ → ℤ
  pub m : ℕ
  pub κ : ℕ → ℤ
  pub a : ℕ → ℕ → ℤ
  pub p : ℕ
  pub c : ℕ → ℕ → ℤ
  pub b : ℕ → ℤ

abbrev pub squared : ℤ → ℤ
squared z = z *ℤ z

-- what the form f comes to at a table x, and the sum of the link j
abbrev pub form : Problem → ℕ → (ℕ → ℤ) → ℤ
form P f x = sum P.n (λ i. P.a f i *ℤ x i)

abbrev pub link : Problem → ℕ → (ℕ → ℤ) → ℤ
link P j x = sum P.n (λ i. P.c j i *ℤ x i)

-- how rough a table x is: the constants times the squares of its forms
abbrev pub rough : Problem → (x : ℕ → ℤ) → ℤ
rough P x = sum P.m (λ f. P.κ f *ℤ squared (form P f x))

-- the loss F of a table v
abbrev pub loss : Problem → (ℕ → ℤ) → ℤ
loss P v = sum P.n (λ i. P.w i *ℤ squared (v i -ℤ P.u i)) +ℤ rough P v

-- the loss of the table X / d, times d²
abbrev pub scaled_loss : Problem → ℤ → (ℕ → ℤ) → ℤ
scaled_loss P d X = sum P.n (λ i. P.w i *ℤ squared (X i -ℤ d *ℤ P.u i)) +ℤ rough P X

-- the residual r of the cell i at a table v with multipliers y, in three parts
abbrev pub fit_part : Problem → (v : ℕ → ℤ) → ℕ → ℤ
fit_part P v i = pos 2 *ℤ P.w i *ℤ (v i -ℤ P.u i)

abbrev pub smooth_part : Problem → (v : ℕ → ℤ) → ℕ → ℤ
smooth_part P v i = sum P.m (λ f. pos 2 *ℤ P.κ f *ℤ form P f v *ℤ P.a f i)

abbrev pub link_part : Problem → (y : ℕ → ℤ) → ℕ → ℤ
link_part P y i = sum P.p (λ j. y j *ℤ P.c j i)

abbrev pub residual : Problem → (v y : ℕ → ℤ) → ℕ → ℤ
residual P v y i = fit_part P v i +ℤ smooth_part P v i +ℤ link_part P y i

-- the room that a table v leaves in the link j, and the link term
abbrev pub slack : Problem → (v : ℕ → ℤ) → ℕ → ℤ
slack P v j = P.b j -ℤ link P j v

abbrev pub link_term : Problem → (v y : ℕ → ℤ) → ℕ → ℤ
link_term P v y j = y j *ℤ slack P v j

-- the gap G, where t has the cell terms
abbrev pub gap : Problem → (v y t : ℕ → ℤ) → ℤ
gap P v y t = sum P.n t +ℤ sum P.p (link_term P v y)

-- the table X / d meets the problem: every rate lies in its box, and every link holds
pub record Meets (P : Problem) (d : ℤ) (X : ℕ → ℤ) : Type 0 where
  pub floors : (i : ℕ) → i < P.n → (P.lo i *ℤ d) ≤ℤ X i
  pub ceilings : (i : ℕ) → i < P.n → X i ≤ℤ (P.hi i *ℤ d)
  pub links : (j : ℕ) → j < P.p → link P j X ≤ℤ (P.b j *ℤ d)
