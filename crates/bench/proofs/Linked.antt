-- The same for the proposal that honours links.
use Rattle.std.proofs.Common.{ℕ, List, subst, arith}
use Rattle.packs.proofs.Near.{Near}
use Rattle.jobs.proofs.Near.{job_read_near}
use Rattle.linked.specs.Proposal.{Linked, linked_words, counting, written_after, linked_of}
use Rattle.linked.proofs.Cases.{linked_cases}
use Rattle.bench.specs.Calls.{outcome_of, offer_of}
use Rattle.bench.proofs.Small.{Small}
use Rattle.bench.proofs.Outcomes.{proposal_small}
use Rattle.std.specs.Prelude.{Ok, Err}
use Rattle.packs.specs.Reading.{Outcome}

counting_small : (passes : ℕ) (o : Outcome) → Small (outcome_of o) → Small (offer_of (counting passes o))
counting_small passes (Ok n) s = record { number = omega arith; place = s.place }
counting_small passes (Err r) s = record { number = s.number; place = s.place }

pub linked_small : (room passes : ℕ) (job : List ℕ) → Small (offer_of (linked_of room passes job).offer)
linked_small room passes job =
    linked_cases (λ (r : Linked). Small (offer_of r.offer)) room passes job (record { number = omega arith; place = omega arith })
    (λ r e. let near = subst (Near 20920) e (job_read_near job) in record { number = omega (arith, near.1); place = near.2 })
    (record { number = omega arith; place = omega arith }) (λ cell h. record { number = omega arith; place = omega arith })
    (λ h. record { number = omega arith; place = omega arith })
    (λ j s p A. counting_small p (written_after room j s).outcome (proposal_small room j A (linked_words j s)))
