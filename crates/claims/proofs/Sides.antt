-- Which side supplied a cell term, what that says of it, and how it is told in words.
use Prim.Native.Nat.{ℕ}
use mathlib.Core.Path.{◌≡◌, refl, sym, subst, ◌∙◌}
use mathlib.Core.Logic.{◌⊎◌, inl, inr}
use mathlib.Core.Bool.{Bool, true, false}
use lib.IntN.{ℤ, pos}
use lib.Signed.{le_z, le_z_yes}
use Rattle.certificate.specs.Terms.{box_term, square_term, square_counts}
use Rattle.std.specs.Prelude.{if◌then◌else◌}
use Rattle.numbers.proofs.Clash.{clash}
use Rattle.jobs.specs.Job.{Job}
use Rattle.tally.specs.declared.term.Supplied.{Supplied}
use Rattle.tally.specs.declared.term.Supplied.TheVariants.{ByBox, ByWeight}
use Rattle.tally.specs.Supplied.{limit, lesser_of, amount_of}
use Rattle.tally.proofs.Terms.{true_t, supplied_amount}
use Rattle.tally.proofs.Totals.{not_le_lt}
use Rattle.measure.specs.Gap.{residual_of, cell_term_of, supplied_of}
use Rattle.terms.specs.Listing.{side_of}
use Rattle.claims.specs.Verdicts.{ByTheBox, ByTheWeight, SaysSide, SideSaid}

module _ (j : Job) (v y : ℕ → ℤ) (i : ℕ) where
  abbrev counts : Bool
  counts = square_counts limit (j.weight i) (residual_of j v y i)

  abbrev box : ℤ
  box = box_term (residual_of j v y i) (j.floor i) (j.ceiling i) (v i)

  abbrev square : ℤ
  square = square_term (j.weight i) (residual_of j v y i)

  lesser_says : counts ≡ true → (o : Bool) → le_z box square ≡ o → SaysSide j v y i (if o then ByBox box else ByWeight square)
  lesser_says q true e = (refl, λ k. le_z_yes (true_t e))
  lesser_says q false e = (refl, q, not_le_lt box square e)

  says : (o : Bool) → counts ≡ o → SaysSide j v y i (if o then lesser_of box square else ByBox box)
  says true q = lesser_says q (le_z box square) refl
  says false q = (refl, λ k. clash (cc))

  pub side_said : SideSaid j v y i
  side_said = record {
    amount = supplied_amount (j.weight i) (residual_of j v y i) (j.floor i) (j.ceiling i) (v i);
    side = says counts refl;
  }

  told : (s : Supplied) → SaysSide j v y i s → ((side_of s ≡ pos 0) × ByTheBox j v y i (amount_of s)) ⊎ ((side_of s ≡ pos 1) × ByTheWeight j v y i (amount_of s))
  told (ByBox t) h = inl (refl, h)
  told (ByWeight t) h = inr (refl, h)

  -- with the term and the side that are handed out
  pub side_told : {term side : ℤ} → term ≡ cell_term_of j v y i → side ≡ side_of (supplied_of j v y i)
      → ((side ≡ pos 0) × ByTheBox j v y i term) ⊎ ((side ≡ pos 1) × ByTheWeight j v y i term)
  side_told {term} {side} et es =
      subst (λ (x : ℤ). ((x ≡ pos 0) × ByTheBox j v y i term) ⊎ ((x ≡ pos 1) × ByTheWeight j v y i term)) (sym es)
      (subst (λ (x : ℤ). ((side_of (supplied_of j v y i) ≡ pos 0) × ByTheBox j v y i x) ⊎ ((side_of (supplied_of j v y i) ≡ pos 1) × ByTheWeight j v y i x)) (side_said.amount ∙ sym et) (told (supplied_of j v y i) side_said.side))
