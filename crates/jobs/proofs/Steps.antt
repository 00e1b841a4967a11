-- What is read whole, from any first field, is a walk along the table: its words are steps, one after another, up to the end, and the count
-- answered is the count of words.
use Prim.Native.Nat.{ℕ, zero, suc, ◌+◌}
use mathlib.Core.Path.{◌≡◌, refl, sym, subst}
use mathlib.Core.Bool.{Bool, true, false}
use mathlib.Core.List.{List, [], ◌∷◌}
use native.Mathlib.Omega.{arith}
use lib.Dec.{ltb}
use lib.IntN.{ℤ}
use lib.ListN.{length}
use Rattle.numbers.specs.declared.plain.Number.{Number}
use Rattle.std.specs.Prelude.{Option, Some, None, Ok, Err, if◌then◌else◌}
use Rattle.numbers.specs.Plain.{number_at}
use Rattle.numbers.proofs.Clash.{clash}
use Rattle.fields.specs.declared.Field.{Field}
use Rattle.fields.specs.declared.Field.TheVariants.{End}
use Rattle.fields.specs.Table.{Step, end_at, step_of}
use Rattle.fields.proofs.Rows.{end_only}
use Rattle.packs.specs.Reading.{Move, Ran, word_of, settled, numbered, on_move, run_from, read_from}
use Rattle.refusals.specs.declared.Refusal.TheVariants.{Unreadable}
use Rattle.fields.specs.declared.Barred.TheVariants.{Unallowed, Other}

-- the words are steps of the walk from the field on, up to the end
pub data Steps : Field → List ℤ → Type 0 where
  done : Steps End []
  go : {f g : Field} (x : ℕ) {ws : List ℤ} → step_of f x ≡ Ok g → Steps g ws → Steps f (word_of f x ∷ ws)

-- the words read from the field on, where k were read before and n are answered
pub record Whole (f : Field) (k n : ℕ) (ws : List ℤ) : Type 0 where
  pub steps : Steps f ws
  pub count : n ≡ k + length ws

-- one move, where what follows it is known
module _ (s : List ℕ) (k n at : ℕ) (f : Field) (rest : Field → ℕ → Ran)
    (later : (g : Field) (next : ℕ) → (rest g next).outcome ≡ Ok n → Whole g (k + 1) n (rest g next).words) where
  abbrev Moved : Move → Type 0
  Moved m = (on_move m k rest).outcome ≡ Ok n → Whole f k n (on_move m k rest).words

  by_step : (x next : ℕ) (q : Step) → step_of f x ≡ q → Moved (settled (word_of f x) at next q)
  by_step x next (Ok g) e o = let w = later g next o in record { steps = go x e w.steps; count = omega (arith, w.count) }
  by_step x next (Err Unallowed) e o = clash (cc)
  by_step x next (Err (Other b)) e o = clash (cc)

  by_number : (v : Option Number) → Moved (numbered f at v)
  by_number (Some v) o = by_step v.value v.next (step_of f v.value) refl o
  by_number None o = clash (cc)

  by_end : end_at f ≡ true → (t : Bool) → Moved (if t then Err (Unreadable at) else Ok None)
  by_end e true o = clash (cc)
  by_end e false o =
      let q : k ≡ n = cc in
      record { steps = subst (λ (g : Field). Steps g []) (sym (end_only f e)) done; count = omega arith }

  by_move : (t : Bool) → end_at f ≡ t → Moved (if t then (if ltb at (length s) then Err (Unreadable at) else Ok None) else numbered f at (number_at s at))
  by_move true e o = by_end e (ltb at (length s)) o
  by_move false e o = by_number (number_at s at) o

run_whole : (moves : ℕ) (s : List ℕ) (k : ℕ) (f : Field) (at n : ℕ) → (run_from moves s k f at).outcome ≡ Ok n
    → Whole f k n (run_from moves s k f at).words
unfolding run_from
run_whole zero s k f at n o = clash (cc)
run_whole (suc moves) s k f at n o =
    by_move s k n at f (λ g next. run_from moves s (k + 1) g next) (λ g next. run_whole moves s (k + 1) g next n) (end_at f) refl o

pub read_whole : (first : Field) (s : List ℕ) (n : ℕ) → (read_from first s).outcome ≡ Ok n → Whole first 0 n (read_from first s).words
read_whole first s n o = run_whole (length s + 1) s 0 first 0 n o
