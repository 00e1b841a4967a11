-- Every line fits 1,024 bytes, so what is put at the front of the output is the whole line.
use Prim.Native.Nat.{ℕ, ◌+◌, ◌-◌, ◌≤◌, ◌<◌}
use mathlib.Core.Path.{◌≡◌, refl, ap, ap₂, ◌∙◌}
use mathlib.Core.Bool.{Bool, true, false}
use mathlib.Core.List.{List, [], ◌∷◌, ◌++◌}
use native.Mathlib.Nat.{zero-add}
use native.Mathlib.Omega.{arith}
use borrow.Author.Tests.{lt-ltb, le-ltb}
use lib.Dec.{ltb}
use lib.IntN.{pos, nat_abs}
use lib.ListN.{length, take, drop, replicate, length-drop}
use lib.Seq.{sets, sets-eq, take_all}
use Rattle.std.specs.Prelude.{Option, Some, None, Ok, Err, if◌then◌else◌}
use Rattle.refusals.specs.Refusals.{number_of, place_of}
use Rattle.numbers.specs.declared.plain.Number.{Number}
use Rattle.numbers.specs.Plain.{number_at}
use Rattle.jobs.specs.Words.{cells_of}
use Rattle.jobs.specs.Packs.{read_job}
use Rattle.measure.specs.Check.{Verdict, check_of}
use Rattle.measure.specs.Opening.{proposal_words}
use Rattle.checked.specs.Checked.{checked_of}
use Rattle.checked.specs.Answers.{overwritten}
use Rattle.checked.proofs.Packs.{given_packs}
use Rattle.line.specs.Line.{printed, checked_line, packs_line, line_of}
use Rattle.decimals.specs.Puts.{Puts}
use Rattle.line.specs.Promises.{LinesFit}
use Rattle.line.proofs.Widths.{two_fit}
use Rattle.line.proofs.Tables.{words_fit, accepted_line, refused_lines}

checked_fits : (job proposal : List ℕ) → length (checked_line (checked_of job proposal)) ≤ 1024
checked_fits job proposal = go (check_of job proposal) refl
  where
    go : (v : Verdict) → check_of job proposal ≡ v → length (checked_line (checked_of job proposal)) ≤ 1024
    go (Ok figures) e =
        let words = sets (replicate 2092 (pos 0)) 0 (read_job job).words in
        let rates = sets (replicate 280 (pos 0)) 0 (proposal_words job proposal) in
        let given = given_packs job proposal figures.loss figures.gap e words refl rates refl in
        omega (
          arith,
          ap length (accepted_line job proposal figures.loss figures.gap e words refl rates refl),
          words_fit words rates (cells_of words) (nat_abs figures.loss) (nat_abs figures.gap) given.job given.values,
        )
    go (Err r) e = omega (arith, ap length (refused_lines job proposal r e), two_fit (number_of r) (place_of r))

packs_fit : (input : List ℕ) (size : Option Number) → length (packs_line input size) ≤ 1024
packs_fit input None = two_fit 1 0
packs_fit input (Some size) = go (ltb (length input - size.next) size.value)
  where
    go : (t : Bool) → length (if t then printed 1 (0 ∷ []) else checked_line (checked_of (take size.value (drop size.next input)) (drop (size.next + size.value) input))) ≤ 1024
    go true = two_fit 1 0
    go false = checked_fits (take size.value (drop size.next input)) (drop (size.next + size.value) input)

pub lines_fit : LinesFit
unfolding line_of
lines_fit input = go (ltb 8192 (length input))
  where
    go : (t : Bool) → length (if t then printed 1 (8192 ∷ []) else packs_line input (number_at input 0)) ≤ 1024
    go true = two_fit 1 8192
    go false = packs_fit input (number_at input 0)

-- what was put at the front is the line, and the rest is untouched
pub line_put : (input bytes : List ℕ) {out after : List ℕ} {r : ℕ} → bytes ≡ line_of input → 1024 ≤ length out → Puts bytes out 0 r after
    → (r ≡ length (line_of input)) × (after ≡ overwritten out (line_of input))
line_put input bytes {out} e h p =
    let few = lines_fit input in (
      omega (arith, p.next, ap length e),
      p.stored ∙ ap (sets out 0) e ∙ sets-eq (line_of input) out 0 (omega arith) ∙ ap (λ (k : ℕ). line_of input ++ drop k out) (zero-add (length (line_of input))),
    )

-- ---- which line it is
-- a length beyond what remains
pub beyond_line : (input : List ℕ) (size : Number) → length input - size.next < size.value → printed 1 (0 ∷ []) ≡ packs_line input (Some size)
beyond_line input size h = rw (lt-ltb (length input - size.next) size.value h)

-- the packs as parts of the input: the job pack up to where it ends, the proposal pack from there to the input's end
pub packs_line_lem : (input : List ℕ) (size : Number) → size.value ≤ length input - size.next
    → checked_line (checked_of (take (size.next + size.value - size.next) (drop size.next input)) (take (length input - (size.next + size.value)) (drop (size.next + size.value) input)))
    ≡ packs_line input (Some size)
packs_line_lem input size h =
    let whole : size.next + size.value - size.next ≡ size.value = omega arith in
    rw (le-ltb (length input - size.next) size.value h)
    (ap₂ (λ (job proposal : List ℕ). checked_line (checked_of job proposal)) (ap (λ (k : ℕ). take k (drop size.next input)) whole)
    (take_all (length input - (size.next + size.value)) (drop (size.next + size.value) input) (omega (arith, length-drop (size.next + size.value) input))))

pub long_line : (input : List ℕ) → 8192 < length input → printed 1 (8192 ∷ []) ≡ line_of input
unfolding line_of
long_line input h = rw (lt-ltb 8192 (length input) h)

pub read_line : (input : List ℕ) {size : Option Number} → length input ≤ 8192 → number_at input 0 ≡ size → packs_line input size ≡ line_of input
unfolding line_of
read_line input h e = rw (le-ltb 8192 (length input) h, e)
