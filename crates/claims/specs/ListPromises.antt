-- What is promised of comma lists at the calls over C (W-201), whatever they are lent. The proof of each stands in proofs/ListPromises.antt.
use Rattle.std.specs.Prelude.{ℕ, ◌*◌, ◌/◌, ◌%◌, ◌≤◌, ◌≡◌, true, List, length, take}
use Rattle.jobs.specs.Packs.{job_in, read_job}
use Rattle.lists.specs.Promises.{ListText}
use Rattle.imports.specs.declared.Given.{Given}
use Rattle.imports.specs.Promises.{PackAllows, JobOfList}
use Rattle.bench.specs.Answers.{has_four}
use Rattle.bench.specs.Calls.{ImportSays, ExportSays, RatesSays}
use Rattle.claims.specs.Read.{Reads}

-- The text is a claims list, the pack's own tests pass, and the pack reads as the job of that list.
pub record ImportTold (g : Given) (text pack : List ℕ) : Type 0 where
  pub exposures : List ℕ
  pub deaths : List ℕ
  pub list : ListText true text exposures deaths
  pub allows : PackAllows g exposures
  pub reads : Reads (read_job pack).outcome
  pub job : JobOfList g exposures deaths (job_in pack)

-- So it is wherever an import returns the number 0, of the bytes in front of its output, as many as the place says.
abbrev pub ListsImported : Type 0
ListsImported =
    (g : Given) (text out answer : List ℕ) (r : ℕ) (a x : List ℕ) → ImportSays g text out answer r a x → r % 32 ≡ 0 → ImportTold g text (take (r / 32) x)

-- "reading such an export back gives the same values": wherever an export returns the number 0, its bytes, read back where there is room for the rates and
-- for an answer, give as many rates, and the same.
abbrev pub TablesReturned : Type 0
TablesReturned =
    (rates : List ℕ) (first : ℕ) (out answer : List ℕ) (r : ℕ) (a x : List ℕ) → ExportSays rates first out answer r a x → r % 32 ≡ 0
    → (again other : List ℕ) (s : ℕ) (b y : List ℕ) → RatesSays (take (r / 32) x) again other s b y → has_four other ≡ true → length rates ≤ length again
    → (s ≡ 32 * length rates) × (take (length rates) y ≡ rates)
