-- What the steps of a listing come to: ws are a job's words, and ps those of a proposal for it.
use Rattle.std.specs.Prelude.{ℕ, ◌≡◌, List, ℤ}
use Rattle.std.proofs.lemmas.List.Edits.{sets}
use Rattle.jobs.specs.Words.{job_of}
use Rattle.measure.specs.Check.{values_of}
use Rattle.measure.specs.OnWords.{multiplier_on}
use Rattle.terms.specs.Listing.{entries}

-- The words of the first k places.
abbrev pub entries_on : (ws ps : List ℤ) → (k : ℕ) → List ℤ
entries_on ws ps k = entries (job_of ws) (values_of ps) (multiplier_on ws ps) k

-- Lent words that held the words of the first n places hold those of the first m.
pub record Longer (ws ps : List ℤ) (n m : ℕ) (before after : List ℤ) : Type 0 where
  pub from : (lent : List ℤ) → before ≡ sets lent 0 (entries_on ws ps n) → after ≡ sets lent 0 (entries_on ws ps m)
