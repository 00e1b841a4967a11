-- A list of allowed values and multipliers is written as its own numbers, and reads back.
use Rattle.std.proofs.Common.{◌≡◌, ℕ, ◌+◌, ◌-◌, ◌≤◌, Bool, true, false, ltb, List, length, ℤ, pos, nat_abs, refl, ap, ◌∙◌, subst, arith, lit<, w64, SFits, ltb-false, ltb-true, Ok}
use native.Mathlib.Nat as N
use lib.ListN.{get_or-eq_default}
use Rattle.whole.proofs.Fits.{small_fits}
use Rattle.fields.specs.Table.{values_from}
use Rattle.packs.specs.Promises.{AllWords}
use Rattle.packs.specs.Reading.{Ran}
use Rattle.packs.specs.Writing.{Written, in_room, roomed}
use Rattle.packs.specs.Walking.{packed}
use Rattle.packs.proofs.Packing.{length_written}
use Rattle.jobs.specs.Words.{word_at}
use Rattle.jobs.specs.Allowed.{Proposed}
use Rattle.jobs.specs.Packs.{as_six, read_proposal, write_proposal}
use Rattle.jobs.proofs.Packable.{proposal_packed}
use Rattle.jobs.proofs.Trips.{proposals_read_back}

module _ {cells links : ℕ} (ws : List ℤ) (p : Proposed cells links ws) where
  pub proposed_writes : (n : ℕ) × ((write_proposal cells links ws).outcome ≡ Ok n)
  proposed_writes = ((proposal_packed ws p).0, ap (λ (w : Written). as_six w.outcome) (proposal_packed ws p).1)

  pub proposed_packs : (room : ℕ) → in_room room (packed ws) (Ok (length (packed ws))) ≡ roomed room (write_proposal cells links ws)
  proposed_packs room =
      let w = (proposal_packed ws p).1 in
      let l : length (packed ws) ≡ (proposal_packed ws p).0 =
      omega (arith, length_written ws (values_from cells links) 0 (proposal_packed ws p).0 (ap (λ (w : Written). w.outcome) w), ap (λ (w : Written). length w.bytes) w) in
      rw (l, w)

  words_fit : AllWords ws
  words_fit i = go (ltb i cells) (ltb i (cells + links)) refl refl
    where
      go : (a b : Bool) → ltb i cells ≡ a → ltb i (cells + links) ≡ b → SFits w64 (word_at ws i)
      go true b e f = small_fits (word_at ws i) (p.value i (ltb-true i cells e)).small (lit< tt)
      go false true e f =
          let h = ltb-false i cells e in
          let l = ltb-true i (cells + links) f in
          let q : cells + (i - cells) ≡ i = omega arith in
          small_fits (word_at ws i) (subst (λ (k : ℕ). nat_abs (word_at ws k) ≤ 1000000000) q (p.multiplier (i - cells) (omega arith)).small) (lit< tt)
      go false false e f =
          let h : length ws ≤ i = omega (arith, ltb-false i (cells + links) f, p.count) in
          rw (get_or-eq_default ws (pos 0) h) (small_fits (pos 0) (N.le_refl 0) (lit< tt))

  pub proposed_back : {n : ℕ} {s : List ℕ} → (write_proposal cells links ws).outcome ≡ Ok n → s ≡ (write_proposal cells links ws).bytes
      → read_proposal cells links s ≡ record { words = ws; outcome = Ok (cells + links) }
  proposed_back {n} e q =
      rw q (proposals_read_back cells links ws words_fit n e ∙ ap {B = Ran} (λ (k : ℕ). record { words = ws; outcome = Ok k }) p.count)
