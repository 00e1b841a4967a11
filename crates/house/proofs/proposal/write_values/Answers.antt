-- What is written are the values of the job's cells, with a zero for each link after them.
use Rattle.std.proofs.Common.{ℕ, get_or, replicate, length, pos, sym, ap, ◌∙◌, arith}
use Rattle.jobs.specs.Words.{job_of}
use lib.Ieee.{nan}
use Rattle.house.specs.Filled.{filled}
use Rattle.house.specs.Proposal.{value_of}
use Rattle.house.proofs.Handing.{part_padded}
use Rattle.house.proofs.Writable.{house_packs}
use Rattle.house.proofs.Told.{known, cells_few}
use Rattle.house.proofs.proposal.write_values.Goals as goal

pub returns : goal.returns
returns c = let j = job_of c.args.job.words.now in
    let v = c.args.v.now in
    let n = c.cells-n.ensures in
    let p = part_padded j v n c.links-links.ensures (omega (arith, n, cells_few (known c.args.job))) (c.values_into.ensures ∙ ap (λ (n : ℕ). filled (λ i. value_of j i (get_or v i nan)) n 0 (replicate 120 (pos 0))) (sym n)) in
    rw (← house_packs j c.args.job.allowed v (length c.args.out.now), ← p) c.put_padded.ensures
