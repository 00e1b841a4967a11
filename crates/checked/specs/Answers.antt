-- Document 01, "Numbers Mr Aldous reads": "Each call answers number, place, F, G", and what a call hands out beside them.
use Rattle.std.specs.Prelude.{ℕ, Bool, true, false, List, [], ◌++◌, nat_abs, length, drop}
use Rattle.checked.specs.declared.Answer.{Answer}
use Rattle.std.specs.Prelude.{Ok, Err}
use Rattle.refusals.specs.declared.Refusal.{Refusal}
use Rattle.refusals.specs.Refusals.{number_of, place_of}
use Rattle.measure.specs.Check.{Verdict}

-- a call's answer, and the values that it hands out
pub record Reply : Type 0 where
  pub answer : Answer
  pub values : List ℕ

abbrev pub refusal : ℕ → ℕ → Reply
refusal number place = record { answer = record { number = number; place = place; loss = 0; gap = 0 }; values = [] }

-- A refusal's number and place.
abbrev pub refused : Refusal → Reply
refused r = refusal (number_of r) (place_of r)

-- number 0 and place 0: nothing was written to an output
abbrev pub done : Reply
done = refusal 0 0

-- an output with values written over its front, the rest untouched
abbrev pub overwritten : List ℕ → List ℕ → List ℕ
overwritten out values = values ++ drop (length values) out

abbrev pub accepted : Verdict → Bool
accepted (Ok f) = true
accepted (Err r) = false

-- Document 01's number, place, F and G for each verdict: "Check, keep and fetch give the table's F and G; they are 0 on refusal". A shelf is no
-- output, so the place of a keep that is done is 0.
abbrev pub answer_of : Verdict → Answer
answer_of (Ok f) = record { number = 0; place = 0; loss = nat_abs f.loss; gap = nat_abs f.gap }
answer_of (Err r) = (refused r).answer
