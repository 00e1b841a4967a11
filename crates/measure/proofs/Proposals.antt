-- What a proposal's value carries, as the laws of this crate ask for it.
use Prim.Native.Nat.{ℕ}
use Rattle.measure.specs.declared.proposed.Proposal.{Proposal}
use Rattle.measure.specs.Given.{Given, LinkAt, Linked}

pub given : (p : Proposal) → Given p.job.words.now p.words.now
given p = record { allowed = p.job.allowed; laid = p.job.laid; proposed = p.proposed }

pub linked : (p : Proposal) {s : ℕ} → LinkAt p.job.words.now s → Linked p.job.words.now p.words.now s
linked p L = record { link = L; proposed = p.proposed }
