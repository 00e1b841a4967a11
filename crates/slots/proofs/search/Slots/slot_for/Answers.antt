-- Where the job is, else the lowest empty slot.
use Rattle.std.proofs.Common.{ap, sym, ◌∙◌, ℕ}
use Rattle.std.specs.Prelude.{Option}
use Rattle.slots.specs.Slots.{slot_words, is_empty, lowest, or_else, slot_for}
use Rattle.slots.proofs.search.Slots.slot_for.Goals as goal

pub returns-in-Some : goal.returns-in-Some
unfolding slot_for
returns-in-Some c = let a = c.args in ap {B = Option ℕ} (λ (o : Option ℕ). or_else o (lowest is_empty slot_words a.self.count a.self.span.now)) (sym c.in-Some.is ∙ c.find_job.ensures)

pub returns-in-None : goal.returns-in-None
unfolding slot_for
returns-in-None c = let a = c.args in c.find_empty.ensures ∙ ap {B = Option ℕ} (λ (o : Option ℕ). or_else o (lowest is_empty slot_words a.self.count a.self.span.now)) (sym c.in-None.is ∙ c.find_job.ensures)
